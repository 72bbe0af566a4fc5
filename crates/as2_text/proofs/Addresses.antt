-- What is read as an address is one, and what is one is read.
use Rattle.std.proofs.Common.{◌≡◌, ◌==◌, ℕ, Bool, true, false, cond, List, [], ◌∷◌, ◌++◌, length, take, drop, codes, Option, Some, None, refl, sym, ap, subst, ◌∙◌, arith, inl, inr, append_assoc}
use Rattle.std.specs.Prelude.{◌&&◌, ◌||◌, nat_le, nat_lt, not, IfSome, IfNone, IsTrue}
use Rattle.std.specs.List.{list_all}
use Rattle.std.specs.Char.{is_ascii_digit}
use Rattle.std.specs.Str.Parse.{digits_value}
use Rattle.as2_names.specs.Domains.{is_domain_byte}
use Rattle.as2_names.specs.Numbers.{is_number}
use Rattle.std.specs.Str.{str_eq_ignore_ascii_case, str_to_ascii_lowercase}
use Rattle.std.proofs.lemmas.Bool.{cases_Bool, and_parts, and_from, or_left, or_right, eqb-true, false≢true}
use Rattle.std.proofs.lemmas.Bool.Decides.{nat_tests}
use Rattle.std.proofs.lemmas.List.{take-append-drop, length-map, append-nil}
use Rattle.std.proofs.lemmas.Slice.Eq.{bytes_eq-Decides}
use Rattle.std.proofs.Math.Seq.{take-append_seam, drop-append_seam}
use Rattle.as2_names.specs.Ascii.{slash, colon}
use Rattle.as2_names.specs.Cuts.{Lacks, IsCutAt, cut_at}
use Rattle.as2_names.proofs.Cuts.{cut_some, cut_found, lacks_first, lacks_tail, lacks_front}
use Rattle.as2_text.specs.Addresses.{begins_with_zero, IsUrl, IsAuthority, HasPort, SaysTarget, address_in, are_host_and_port, authority_of, before_slash, from_slash, is_authority, is_host, is_http, is_port, is_target, is_target_byte, may_follow, target_in, address_target, url_of}

-- ---- the text before the first slash

pub before_first : (before behind : List ℕ) → Lacks slash before → before_slash (before ++ slash ∷ behind) ≡ before
before_first [] behind lacks = refl
before_first (b ∷ rest) behind lacks = rw (lacks_first slash b rest lacks, before_first rest behind (lacks_tail slash b rest lacks)) refl

pub from_first : (before behind : List ℕ) → Lacks slash before → from_slash (before ++ slash ∷ behind) ≡ slash ∷ behind
from_first [] behind lacks = refl
from_first (b ∷ rest) behind lacks = rw (lacks_first slash b rest lacks, from_first rest behind (lacks_tail slash b rest lacks)) refl

pub before_none : (text : List ℕ) → Lacks slash text → before_slash text ≡ text
before_none [] lacks = refl
before_none (b ∷ rest) lacks = rw (lacks_first slash b rest lacks, before_none rest (lacks_tail slash b rest lacks)) refl

pub from_none : (text : List ℕ) → Lacks slash text → from_slash text ≡ []
from_none [] lacks = refl
from_none (b ∷ rest) lacks = rw (lacks_first slash b rest lacks, from_none rest (lacks_tail slash b rest lacks)) refl

pub cut_before : (text before behind : List ℕ) → IsCutAt slash text before behind → take (length before) text ≡ before_slash text
cut_before text before behind c = rw c.whole (take-append_seam before (slash ∷ behind) ∙ sym (before_first before behind c.first))

pub cut_behind : (text before behind : List ℕ) → IsCutAt slash text before behind → drop (length before) text ≡ from_slash text
cut_behind text before behind c = rw c.whole (drop-append_seam before (slash ∷ behind) ∙ sym (from_first before behind c.first))

slash_joins : (text : List ℕ) → before_slash text ++ from_slash text ≡ text
slash_joins [] = refl
slash_joins (b ∷ rest) =
    elim (cases_Bool (b == slash)) [
      | inl same ↦ rw same refl
      | inr other ↦ rw other (ap (λ (x : List ℕ). b ∷ x) (slash_joins rest))
    ]

-- ---- what is read is an address

ported : (text : List ℕ) (r : Option (List ℕ × List ℕ)) → cut_at colon text ≡ r → are_host_and_port r ≡ true → HasPort text
ported text None e h = absurd cc
ported text (Some cut) e h =
    let p = and_parts (is_host cut.0) (is_port cut.1) h in
    record { host = cut.0; port = cut.1; whole = (cut_found colon text cut e).whole; is_host = p.0; is_port = p.1 }

authority_found : (text : List ℕ) → is_authority text ≡ true → IsAuthority text
authority_found text h =
    elim (cases_Bool (is_host text)) [
      | inl t ↦ inl t
      | inr f ↦ inr (ported text (cut_at colon text) refl (subst (λ (x : Bool). (x || are_host_and_port (cut_at colon text)) ≡ true) f h))
    ]

target_found : (behind : List ℕ) → may_follow behind ≡ true → SaysTarget behind (target_in behind)
target_found [] h = inl (refl, refl)
target_found (b ∷ rest) h = inr (refl, h)

guarded : (t : Bool) (r : Option (List ℕ × List ℕ)) (url : List ℕ × List ℕ) → cond t r None ≡ Some url → (t ≡ true) × (r ≡ Some url)
guarded true r url e = (refl, e)
guarded false r url e = absurd cc

pub url_found : (text : List ℕ) (url : List ℕ × List ℕ) → url_of text ≡ Some url → IsUrl text url
url_found text url e =
    let outer = guarded (nat_le (length text) 1024 && is_http text) (address_in (drop 7 text)) url e in
    let tests = and_parts (nat_le (length text) 1024) (is_http text) outer.0 in
    let rest : List ℕ = drop 7 text in
    let inner = guarded (is_authority (before_slash rest) && may_follow (from_slash rest))
    (Some (before_slash rest, target_in (from_slash rest))) url outer.1 in
    let parts = and_parts (is_authority (before_slash rest)) (may_follow (from_slash rest)) inner.0 in
    let same : (before_slash rest, target_in (from_slash rest)) ≡ url = cc in
    subst (IsUrl text) same (record {
      scheme = take 7 text;
      behind = from_slash rest;
      whole = sym (append_assoc (take 7 text) (before_slash rest) (from_slash rest) ∙ ap (λ (x : List ℕ). take 7 text ++ x) (slash_joins rest)
          ∙ take-append-drop 7 text);
      http = tests.1;
      authority = authority_found (before_slash rest) parts.0;
      target = target_found (from_slash rest) parts.1;
      short = grind (arith, nat_tests);
    })

-- ---- what is an address is read

scheme_length : (scheme : List ℕ) → IsTrue (str_eq_ignore_ascii_case scheme (codes "http://")) → length scheme ≡ 7
scheme_length scheme h =
    let same : str_to_ascii_lowercase scheme ≡ str_to_ascii_lowercase (codes "http://") =
    (bytes_eq-Decides (str_to_ascii_lowercase scheme) (str_to_ascii_lowercase (codes "http://"))).0 h in
    sym (length-map scheme _) ∙ ap length same

-- bytes of a test that no slash meets lack it
lacking : (byte : ℕ) (p : ℕ → Bool) (text : List ℕ) → ((b : ℕ) → p b ≡ true → (b == byte) ≡ false) → list_all p text ≡ true → Lacks byte text
lacking byte p [] other h = λ k d lt. absurd (omega (arith, lt))
lacking byte p (b ∷ rest) other h =
    let parts = and_parts (p b) (list_all p rest) h in
    lacks_front byte b rest (other b parts.0) (lacking byte p rest other parts.1)

host_bytes : (host : List ℕ) → is_host host ≡ true → list_all is_domain_byte host ≡ true
host_bytes host h = (and_parts (nat_lt 0 (length host) && nat_le (length host) 253) (list_all is_domain_byte host) h).1

no_slash_in_host : (host : List ℕ) → is_host host ≡ true → Lacks slash host
no_slash_in_host host h = lacking slash is_domain_byte host (λ b t. grind (arith, nat_tests)) (host_bytes host h)

no_colon_in_host : (host : List ℕ) → is_host host ≡ true → Lacks colon host
no_colon_in_host host h = lacking colon is_domain_byte host (λ b t. grind (arith, nat_tests)) (host_bytes host h)

port_digits : (port : List ℕ) → is_port port ≡ true → list_all is_ascii_digit port ≡ true
port_digits port h =
    let front = and_parts (is_number port && not (begins_with_zero port)) (nat_le (digits_value 10 port) 65535) h in
    let number = and_parts (is_number port) (not (begins_with_zero port)) front.0 in
    (and_parts (nat_lt 0 (length port)) (list_all is_ascii_digit port) number.0).1

no_slash_in_port : (port : List ℕ) → is_port port ≡ true → Lacks slash port
no_slash_in_port port h = lacking slash is_ascii_digit port (λ b t. grind (arith, nat_tests)) (port_digits port h)

lacks_append : (byte : ℕ) (front back : List ℕ) → Lacks byte front → Lacks byte back → Lacks byte (front ++ back)
lacks_append byte [] back f b = b
lacks_append byte (x ∷ rest) back f b = lacks_front byte x (rest ++ back) (lacks_first byte x rest f) (lacks_append byte rest back (lacks_tail byte x rest f) b)

no_slash : (authority : List ℕ) → IsAuthority authority → Lacks slash authority
no_slash authority (inl h) = no_slash_in_host authority h
no_slash authority (inr p) =
    subst (Lacks slash) (sym p.whole)
    (lacks_append slash p.host (colon ∷ p.port) (no_slash_in_host p.host p.is_host) (lacks_front slash colon p.port refl (no_slash_in_port p.port p.is_port)))

authority_again : (authority : List ℕ) → IsAuthority authority → is_authority authority ≡ true
authority_again authority (inl h) = or_left (is_host authority) (are_host_and_port (cut_at colon authority)) h
authority_again authority (inr p) =
    let cut : cut_at colon authority ≡ Some (p.host, p.port) =
    cut_some colon authority p.host p.port (record { whole = p.whole; first = no_colon_in_host p.host p.is_host }) in
    or_right (is_host authority) (are_host_and_port (cut_at colon authority)) (rw cut (and_from (is_host p.host) (is_port p.port) p.is_host p.is_port))

-- the text behind the scheme, in its two
record Splits (rest authority behind target : List ℕ) : Type 0 where
  pub before : before_slash rest ≡ authority
  pub from : from_slash rest ≡ behind
  pub follows : may_follow behind ≡ true
  pub says : target_in behind ≡ target

root_said : (target : List ℕ) → SaysTarget [] target → slash ∷ [] ≡ target
root_said target (inl s) = sym s.1
root_said target (inr s) = absurd (false≢true (ap is_target s.0 ∙ s.1))

target_said : (b : ℕ) (rest target : List ℕ) → SaysTarget (b ∷ rest) target → is_target (b ∷ rest) ≡ true
target_said b rest target (inl s) = absurd cc
target_said b rest target (inr s) = ap is_target s.0 ∙ s.1

behind_said : (b : ℕ) (rest target : List ℕ) → SaysTarget (b ∷ rest) target → b ∷ rest ≡ target
behind_said b rest target (inl s) = absurd cc
behind_said b rest target (inr s) = s.0

split_again : (authority behind target : List ℕ) → Lacks slash authority → SaysTarget behind target → Splits (authority ++ behind) authority behind target
split_again authority [] target lacks says =
    record {
      before = ap before_slash (append-nil authority) ∙ before_none authority lacks;
      from = ap from_slash (append-nil authority) ∙ from_none authority lacks;
      follows = refl;
      says = root_said target says;
    }
split_again authority (b ∷ rest) target lacks says =
    let t : is_target (b ∷ rest) ≡ true = target_said b rest target says in
    let same : b ≡ slash = eqb-true b slash (and_parts (b == slash) (list_all is_target_byte rest) t).0 in
    record {
      before = rw same (before_first authority rest lacks);
      from = rw same (from_first authority rest lacks);
      follows = t;
      says = behind_said b rest target says;
    }

rest_again : (authority behind target rest : List ℕ) → rest ≡ authority ++ behind → IsAuthority authority → SaysTarget behind target
    → address_in rest ≡ Some (authority, target)
rest_again authority behind target rest e a t =
    let s : Splits (authority ++ behind) authority behind target = split_again authority behind target (no_slash authority a) t in
    rw (e, s.before, s.from, authority_again authority a, s.follows, s.says) refl

pub url_again : (text : List ℕ) (url : List ℕ × List ℕ) → IsUrl text url → url_of text ≡ Some url
url_again text url u =
    let whole : text ≡ u.scheme ++ (authority_of url ++ u.behind) = u.whole ∙ append_assoc u.scheme (authority_of url) u.behind in
    let seven : length u.scheme ≡ 7 = scheme_length u.scheme u.http in
    let front : take 7 text ≡ u.scheme = rw (whole, sym seven) (take-append_seam u.scheme (authority_of url ++ u.behind)) in
    let back : drop 7 text ≡ authority_of url ++ u.behind = rw (whole, sym seven) (drop-append_seam u.scheme (authority_of url ++ u.behind)) in
    let http : is_http text ≡ true = rw front u.http in
    let short : nat_le (length text) 1024 ≡ true = grind (arith, nat_tests) in
    rw (short, http) (rest_again (authority_of url) u.behind (address_target url) (drop 7 text) back u.authority u.target)

none_some : (url : List ℕ × List ℕ) → None ≡ Some url → ⊥
none_some url e = absurd cc

pub some_found : (text : List ℕ) (r : Option (List ℕ × List ℕ)) → r ≡ url_of text → IfSome r (IsUrl text)
some_found text None e = tt
some_found text (Some url) e = url_found text url (sym e)

pub none_found : (text : List ℕ) (r : Option (List ℕ × List ℕ)) → r ≡ url_of text → IfNone r ((url : List ℕ × List ℕ) → ¬ IsUrl text url)
none_found text None e = λ url u. (none_some url (e ∙ url_again text url u))
none_found text (Some url) e = tt

-- A key's value is read exactly where the key holds it.
use Rattle.std.proofs.Common.{◌≡◌, ℕ, ℤ, pos, negsuc, Bool, true, false, cond, List, length, Option, Some, None, Result, Ok, Err, refl, ap, ◌∙◌, arith, inl, inr}
use Rattle.std.specs.Prelude.{nat_lt, nat_le, ◌&&◌, ◌==◌, codes}
use Rattle.std.specs.List.{list_all, list_any}
use Rattle.std.specs.Str.{bytes_eq}
use Rattle.std.proofs.lemmas.Bool.{cases_Bool, and_parts}
use Rattle.std.proofs.lemmas.Bool.Decides.{nat_tests}
use Rattle.std.proofs.lemmas.Slice.Eq.{bytes_eq-Decides}
use Rattle.toml.specs.Data.{Data, string, integer, float, boolean, datetime, array, table, Items, Members, as_str, as_integer, as_array, as_table}
use Rattle.as2_names.specs.Ascii.{is_printable}
use Rattle.as2_names.specs.Domains.{IsDomain, domain_of, is_domain, is_domain_byte}
use Rattle.as2_names.specs.Names.{IsName, plain}
use Rattle.as2_names.specs.declared.name.NameFault.{NameFault}
use Rattle.as2_mic.specs.declared.alg.Alg.{Alg}
use Rattle.as2_mic.specs.declared.alg.Alg.TheVariants as alg
use Rattle.as2_mic.specs.Algs.{alg_name}
use Rattle.as2_agreement.specs.declared.fault.AgreementFault.{AgreementFault}
use Rattle.as2_agreement.specs.declared.key.Key.{Key}
use Rattle.as2_agreement.specs.declared.key.Key.TheVariants as key
use Rattle.as2_agreement.specs.declared.partner.Asked.{Asked}
use Rattle.as2_agreement.specs.declared.partner.Asked.TheVariants as asked
use Rattle.as2_agreement.specs.Values.{value_at, HasText, HasNumber, IsAddress, is_address, IsContentType, is_content_type, IsCount}
use Rattle.as2_agreement.specs.Partners.{asked_word}
use Rattle.as2_agreement.specs.Reading.{OrFirstFault, ◌>>=◌, present, of_kind, text, agreed_address, count_in, count_of, readable_name, free, agreed_name, url, asked_named, agreed_receipt, digest_named, agreed_digest, content_type_in, content_type}
use Rattle.as2_agreement.proofs.Decided.{address_found, address_again, content_type_found, content_type_again}

-- ---- steps that met no fault

abbrev pub Gave : {A : Type 0} → OrFirstFault A → A → Type 0
Gave r a = r ≡ Ok a

pub same_ok : {A : Type 0} (x y : A) → Gave (Ok x) y → x ≡ y
same_ok x y e = cc

pub bound : {A B : Type 0} (r : OrFirstFault A) (next : A → OrFirstFault B) (b : B) → (r >>= next) ≡ Ok b → (a : A) × (r ≡ Ok a) × (next a ≡ Ok b)
bound (Ok a) next b e = (a, refl, e)
bound (Err f) next b e = absurd cc

pub guarded : {A : Type 0} (t : Bool) (f : AgreementFault) (x y : A) → cond {A = OrFirstFault A} t (Ok x) (Err f) ≡ Ok y → (t ≡ true) × (x ≡ y)
guarded true f x y e = (refl, cc)
guarded false f x y e = absurd cc

pub not_faulty : {A : Type 0} (t : Bool) (f : AgreementFault) (x y : A) → cond {A = OrFirstFault A} t (Err f) (Ok x) ≡ Ok y → (t ≡ false) × (x ≡ y)
not_faulty true f x y e = absurd cc
not_faulty false f x y e = (refl, cc)

pub present_ok : (k : Key) (v : Option Data) (d : Data) → present k v ≡ Ok d → v ≡ Some d
present_ok k None d e = absurd cc
present_ok k (Some x) d e = cc

pub of_kind_ok : {A : Type 0} (k : Key) (o : Option A) (a : A) → of_kind k o ≡ Ok a → o ≡ Some a
of_kind_ok k None a e = absurd cc
of_kind_ok k (Some x) a e = cc

-- ---- types of values

as_str_ok : (d : Data) (t : List ℕ) → as_str d ≡ Some t → d ≡ string t
as_str_ok (string s) t e = cc
as_str_ok (integer z) t e = absurd cc
as_str_ok (float x) t e = absurd cc
as_str_ok (boolean b) t e = absurd cc
as_str_ok (datetime x) t e = absurd cc
as_str_ok (array x) t e = absurd cc
as_str_ok (table x) t e = absurd cc

as_integer_ok : (d : Data) (z : ℤ) → as_integer d ≡ Some z → d ≡ integer z
as_integer_ok (string s) z e = absurd cc
as_integer_ok (integer x) z e = cc
as_integer_ok (float x) z e = absurd cc
as_integer_ok (boolean b) z e = absurd cc
as_integer_ok (datetime x) z e = absurd cc
as_integer_ok (array x) z e = absurd cc
as_integer_ok (table x) z e = absurd cc

pub as_array_ok : (d : Data) (items : Items) → as_array d ≡ Some items → d ≡ array items
as_array_ok (string s) items e = absurd cc
as_array_ok (integer x) items e = absurd cc
as_array_ok (float x) items e = absurd cc
as_array_ok (boolean b) items e = absurd cc
as_array_ok (datetime x) items e = absurd cc
as_array_ok (array x) items e = cc
as_array_ok (table x) items e = absurd cc

pub as_table_ok : (d : Data) (entry : Members) → as_table d ≡ Some entry → d ≡ table entry
as_table_ok (string s) entry e = absurd cc
as_table_ok (integer x) entry e = absurd cc
as_table_ok (float x) entry e = absurd cc
as_table_ok (boolean b) entry e = absurd cc
as_table_ok (datetime x) entry e = absurd cc
as_table_ok (array x) entry e = absurd cc
as_table_ok (table x) entry e = cc

pub str_ok : (k : Key) (d : Data) (t : List ℕ) → of_kind k (as_str d) ≡ Ok t → d ≡ string t
str_ok k d t e = as_str_ok d t (of_kind_ok k (as_str d) t e)

-- ---- texts

pub text_ok : (k : Key) (entry : Members) (t : List ℕ) → text k entry ≡ Ok t → HasText entry k t
text_ok k entry t e =
    let (d, here, kind) = bound (present k (value_at k entry)) (λ d. of_kind k (as_str d)) t e in
    present_ok k (value_at k entry) d here ∙ ap Some (str_ok k d t kind)

-- ---- numbers

count_in_ok : (k : Key) (most : ℕ) (z : ℤ) (n : ℕ) → count_in k most z ≡ Ok n → (z ≡ pos n) × IsCount most n
count_in_ok k most (negsuc m) n e = absurd cc
count_in_ok k most (pos m) n e =
    let g = guarded (nat_le 1 m && nat_le m most) _ m n e in
    let p = and_parts (nat_le 1 m) (nat_le m most) g.0 in
    (ap pos g.1, rw (← g.1) (record { least = grind (arith, nat_tests); most = grind (arith, nat_tests) }))

pub count_ok : (k : Key) (most : ℕ) (entry : Members) (n : ℕ) → count_of k most entry ≡ Ok n → HasNumber entry k n × IsCount most n
count_ok k most entry n e =
    let (z, read, fits) = bound (present k (value_at k entry) >>= (λ d. of_kind k (as_integer d))) (count_in k most) n e in
    let (d, here, kind) = bound (present k (value_at k entry)) (λ d. of_kind k (as_integer d)) z read in
    let c = count_in_ok k most z n fits in
    (present_ok k (value_at k entry) d here ∙ ap Some (as_integer_ok d z (of_kind_ok k (as_integer d) z kind) ∙ ap integer c.0), c.1)

pub count_again : (k : Key) (most : ℕ) (entry : Members) (n : ℕ) → HasNumber entry k n → IsCount most n → count_of k most entry ≡ Ok n
count_again k most entry n h c =
    let least : nat_le 1 n ≡ true = grind (arith, nat_tests) in
    let below : nat_le n most ≡ true = grind (arith, nat_tests) in
    rw (h, least, below) refl

-- ---- domains and addresses

pub domain_of_ok : (t d : List ℕ) → domain_of t ≡ Some d → (t ≡ d) × IsDomain d
domain_of_ok t d e =
    elim (cases_Bool (is_domain t)) [
      | inl yes_ ↦
          let same : t ≡ d = cc in
          let front = and_parts (nat_lt 0 (length t) && nat_le (length t) 253) (list_all is_domain_byte t) yes_ in
          let ends = and_parts (nat_lt 0 (length t)) (nat_le (length t) 253) front.0 in
          (same, rw (← same) (record { some = grind (arith, nat_tests); short = grind (arith, nat_tests); made = front.1 }))
      | inr none ↦ absurd cc
    ]

pub domain_of_again : (d : List ℕ) → IsDomain d → domain_of d ≡ Some d
domain_of_again d h =
    let some : nat_lt 0 (length d) ≡ true = grind (arith, nat_tests) in
    let short : nat_le (length d) 253 ≡ true = grind (arith, nat_tests) in
    rw (some, short, h.made) refl

pub address_ok : (k : Key) (t u : List ℕ) → agreed_address k t ≡ Ok u → (t ≡ u) × IsAddress u
address_ok k t u e =
    let g = guarded (is_address t) _ t u e in
    (g.1, rw (← g.1) (address_found t g.0))

pub address_in_again : (k : Key) (u : List ℕ) → IsAddress u → agreed_address k u ≡ Ok u
address_in_again k u h = rw (address_again u h) refl

pub url_ok : (entry : Members) (u : List ℕ) → url entry ≡ Ok u → HasText entry key.Url u × IsAddress u
url_ok entry u e =
    let (t, read, fits) = bound (text key.Url entry) (agreed_address key.Url) u e in
    let a = address_ok key.Url t u fits in
    (text_ok key.Url entry t read ∙ ap (λ (x : List ℕ). Some (string x)) a.0, a.1)

pub url_again : (entry : Members) (u : List ℕ) → HasText entry key.Url u → IsAddress u → url entry ≡ Ok u
url_again entry u h a = rw h (address_in_again key.Url u a)

-- ---- words

same_word : (word other : List ℕ) → bytes_eq word other ≡ true → word ≡ other
same_word word other h = (bytes_eq-Decides word other).0 h

asked_named_ok : (word : List ℕ) (a : Asked) → asked_named word ≡ Some a → word ≡ asked_word a
asked_named_ok word a e =
    elim (cases_Bool (bytes_eq word (codes "none"))) [
      | inl t ↦ (let same : asked.NoReceipt ≡ a = cc in rw (← same) (same_word word _ t))
      | inr f ↦
          elim (cases_Bool (bytes_eq word (codes "sync"))) [
            | inl t ↦ (let same : asked.Sync ≡ a = cc in rw (← same) (same_word word _ t))
            | inr g ↦
                elim (cases_Bool (bytes_eq word (codes "async"))) [
                  | inl t ↦ (let same : asked.Async ≡ a = cc in rw (← same) (same_word word _ t))
                  | inr h ↦ absurd cc
                ]
          ]
    ]

asked_named_again : (a : Asked) → asked_named (asked_word a) ≡ Some a
asked_named_again asked.NoReceipt = refl
asked_named_again asked.Sync = refl
asked_named_again asked.Async = refl

pub receipt_ok : (entry : Members) (a : Asked) → agreed_receipt entry ≡ Ok a → HasText entry key.Receipt (asked_word a)
receipt_ok entry a e =
    let (t, read, kind) = bound (text key.Receipt entry) (λ word. of_kind key.Receipt (asked_named word)) a e in
    text_ok key.Receipt entry t read ∙ ap (λ (x : List ℕ). Some (string x)) (asked_named_ok t a (of_kind_ok key.Receipt (asked_named t) a kind))

pub receipt_again : (entry : Members) (a : Asked) → HasText entry key.Receipt (asked_word a) → agreed_receipt entry ≡ Ok a
receipt_again entry a h = rw h (ap (of_kind key.Receipt) (asked_named_again a))

digest_named_ok : (word : List ℕ) (a : Alg) → digest_named word ≡ Some a → word ≡ alg_name a
digest_named_ok word a e =
    elim (cases_Bool (bytes_eq word (codes "sha1"))) [
      | inl t ↦ (let same : alg.Sha1 ≡ a = cc in rw (← same) (same_word word _ t))
      | inr f ↦
          elim (cases_Bool (bytes_eq word (codes "md5"))) [
            | inl t ↦ (let same : alg.Md5 ≡ a = cc in rw (← same) (same_word word _ t))
            | inr g ↦
                elim (cases_Bool (bytes_eq word (codes "sha-256"))) [
                  | inl t ↦ (let same : alg.Sha256 ≡ a = cc in rw (← same) (same_word word _ t))
                  | inr h ↦ absurd cc
                ]
          ]
    ]

digest_named_again : (a : Alg) → digest_named (alg_name a) ≡ Some a
digest_named_again alg.Md5 = refl
digest_named_again alg.Sha1 = refl
digest_named_again alg.Sha256 = refl

pub digest_ok : (entry : Members) (a : Alg) → agreed_digest entry ≡ Ok a → HasText entry key.Digest (alg_name a)
digest_ok entry a e =
    let (t, read, kind) = bound (text key.Digest entry) (λ word. of_kind key.Digest (digest_named word)) a e in
    text_ok key.Digest entry t read ∙ ap (λ (x : List ℕ). Some (string x)) (digest_named_ok t a (of_kind_ok key.Digest (digest_named t) a kind))

pub digest_again : (entry : Members) (a : Alg) → HasText entry key.Digest (alg_name a) → agreed_digest entry ≡ Ok a
digest_again entry a h = rw h (ap (of_kind key.Digest) (digest_named_again a))

-- ---- content types

pub content_type_ok : (entry : Members) (c : List ℕ) → content_type entry ≡ Ok c → HasText entry key.ContentType c × IsContentType c
content_type_ok entry c e =
    let (t, read, fits) = bound (text key.ContentType entry) content_type_in c e in
    let g = guarded (is_content_type t) _ t c fits in
    (text_ok key.ContentType entry t read ∙ ap (λ (x : List ℕ). Some (string x)) g.1, rw (← g.1) (content_type_found t g.0))

pub content_type_in_again : (entry : Members) (c : List ℕ) → HasText entry key.ContentType c → IsContentType c → content_type entry ≡ Ok c
content_type_in_again entry c h i = rw (h, content_type_again c i) refl

-- ---- names

name_in_ok : (r : Result (List ℕ) NameFault) (n : List ℕ) → readable_name r ≡ Ok n → r ≡ Ok n
name_in_ok (Ok x) n e = cc
name_in_ok (Err f) n e = absurd cc

plain_ok : (t n : List ℕ) → plain t ≡ Ok n → (t ≡ n) × IsName n
plain_ok t n e =
    elim (cases_Bool (length t == 0)) [
      | inl empty ↦ absurd cc
      | inr some ↦
          elim (cases_Bool (list_all is_printable t)) [
            | inr bad ↦ absurd cc
            | inl printable ↦
                elim (cases_Bool (nat_lt 128 (length t))) [
                  | inl long ↦ absurd cc
                  | inr short ↦
                      let same : t ≡ n = cc in
                      (same, rw (← same) (record { some = grind (arith, nat_tests); short = grind (arith, nat_tests); printable = printable }))
                ]
          ]
    ]

plain_again : (n : List ℕ) → IsName n → plain n ≡ Ok n
plain_again n h =
    let some : (length n == 0) ≡ false = grind (arith, nat_tests) in
    let short : nat_lt 128 (length n) ≡ false = grind (arith, nat_tests) in
    rw (some, h.printable, short) refl

pub name_ok : (taken : List (List ℕ)) (entry : Members) (n : List ℕ) → agreed_name taken entry ≡ Ok n
    → HasText entry key.Name n × IsName n × (list_any (bytes_eq n) taken ≡ false)
name_ok taken entry n e =
    let (m, read, is_free) = bound (text key.Name entry >>= (λ t. readable_name (plain t))) (free taken) n e in
    let (t, here, named_) = bound (text key.Name entry) (λ t. readable_name (plain t)) m read in
    let p = plain_ok t m (name_in_ok (plain t) m named_) in
    let f = not_faulty (list_any (bytes_eq m) taken) _ m n is_free in
    rw (← f.1) (text_ok key.Name entry t here ∙ ap (λ (x : List ℕ). Some (string x)) p.0, p.1, f.0)

pub name_again : (taken : List (List ℕ)) (entry : Members) (n : List ℕ) → HasText entry key.Name n → IsName n → list_any (bytes_eq n) taken ≡ false
    → agreed_name taken entry ≡ Ok n
name_again taken entry n h i absent = rw (h, plain_again n i, absent) refl

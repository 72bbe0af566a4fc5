-- The bytes of what stands in a report that is written.
use Rattle.std.proofs.Common.{◌≡◌, ◌==◌, ◌&&◌, ℕ, ◌<◌, ◌≤◌, ◌^◌, Bool, true, false, List, [], ◌∷◌, ◌++◌, length, reverse, refl, sym, ap, subst, ◌∙◌, arith, inl, inr}
use Rattle.std.specs.Prelude.{not, decimal, nat_lt, nat_le}
use Rattle.std.specs.List.{list_all, flat_map}
use Rattle.std.specs.Str.Parse.{AllDigits}
use Rattle.std.proofs.lemmas.Bool.{cases_Bool, and_parts, and_from, eqb-true, true≢false}
use Rattle.std.proofs.lemmas.Bool.Decides.{nat_tests}
use Rattle.std.proofs.lemmas.Fmt.{decimal_is_IsNumeral}
use Rattle.std.proofs.lemmas.Str.Parse.{digit_from_value}
use Rattle.std.proofs.lemmas.List.{reverse-append, reverse-reverse, length-reverse}
use Rattle.as2_names.specs.Ascii.{is_printable}
use Rattle.as2_names.specs.Blanks.{is_blank, skip_blanks, without_blanks}
use Rattle.as2_names.specs.Cuts.{Lacks}
use Rattle.as2_names.specs.Identifiers.{IsIdentifier, without_brackets}
use Rattle.as2_names.specs.Names.{IsName, is_escaped_mark, is_text_byte, quoted_byte, name_spelling}
use Rattle.as2_names.proofs.Cuts.{lacks_front}
use Rattle.as2_names.specs.Trim.{trimmed_text}
use Rattle.as2_media.proofs.Padding.{is_margin, IsSolid, IsUnpadded, one_ends, more_ends, front_ends, solid, padded_trimmed}
use Rattle.as2_parts.proofs.Laws.{HasNoFeed}
use Rattle.as2_mdn.specs.MicBytes.{is_mic_byte}
use Rattle.as2_mdn.proofs.Written.{no_feed_append}

-- ---- bytes that some bytes are not

other : (p : ℕ → Bool) (b c : ℕ) → p c ≡ false → p b ≡ true → (b == c) ≡ false
other p b c absent h =
    elim (cases_Bool (b == c)) [
      | inl same ↦ absurd (true≢false (sym h ∙ ap p (eqb-true b c same) ∙ absent))
      | inr apart ↦ apart
    ]

pub no_feed_of : (p : ℕ → Bool) (text : List ℕ) → p 10 ≡ false → list_all p text ≡ true → HasNoFeed text
no_feed_of p [] absent h = refl
no_feed_of p (b ∷ rest) absent h =
    let q = and_parts (p b) (list_all p rest) h in
    rw (other p b 10 absent q.0) (no_feed_of p rest absent q.1)

pub lacks_of : (p : ℕ → Bool) (c : ℕ) (text : List ℕ) → p c ≡ false → list_all p text ≡ true → Lacks c text
lacks_of p c [] absent h = λ k d lt. absurd (omega (arith, lt))
lacks_of p c (b ∷ rest) absent h =
    let q = and_parts (p b) (list_all p rest) h in
    lacks_front c b rest (other p b c absent q.0) (lacks_of p c rest absent q.1)

-- ---- digits

-- printable, no space, no quote and no backslash
abbrev pub is_plain : ℕ → Bool
is_plain b = nat_lt 32 b && nat_le b 126 && not (b == 34) && not (b == 92)

digit_plain : (c : ℕ) → 48 ≤ c → c ≤ 57 → is_plain c ≡ true
digit_plain c low high = grind (arith, nat_tests)

digits_plain : (ds : List ℕ) → AllDigits 10 ds → list_all is_plain ds ≡ true
digits_plain [] d = refl
digits_plain (c ∷ cs) d =
    let range = digit_from_value c d.0 in
    and_from (is_plain c) (list_all is_plain cs) (digit_plain c (omega (arith, range)) (omega (arith, range))) (digits_plain cs d.1)

pub decimal_plain : (n : ℕ) → n < 2 ^ 64 → list_all is_plain (decimal n) ≡ true
decimal_plain n small = digits_plain (decimal n) (decimal_is_IsNumeral n small).0.1

pub decimal_no_feed : (n : ℕ) → n < 2 ^ 64 → HasNoFeed (decimal n)
decimal_no_feed n small = no_feed_of is_plain (decimal n) refl (decimal_plain n small)

-- ---- names

escaped_no_feed : (name : List ℕ) → list_all is_printable name ≡ true → HasNoFeed (flat_map quoted_byte name)
escaped_no_feed [] h = refl
escaped_no_feed (b ∷ rest) h =
    let q = and_parts (is_printable b) (list_all is_printable rest) h in
    elim (cases_Bool (is_escaped_mark b)) [
      | inl special ↦ rw (special, other is_printable b 10 refl q.0) (escaped_no_feed rest q.1)
      | inr apart ↦ rw (apart, other is_printable b 10 refl q.0) (escaped_no_feed rest q.1)
    ]

pub spelling_no_feed : (name : List ℕ) → IsName name → HasNoFeed (name_spelling name)
spelling_no_feed name n =
    elim (cases_Bool (list_all is_text_byte name)) [
      | inl plain ↦ rw plain (no_feed_of is_printable name refl n.printable)
      | inr apart ↦ rw apart (no_feed_append (flat_map quoted_byte name) (34 ∷ []) (escaped_no_feed name n.printable) refl)
    ]

-- ---- texts with no blank at their ends

skip_shorter : (text : List ℕ) → length (skip_blanks text) ≤ length text
skip_shorter [] = omega arith
skip_shorter (b ∷ rest) =
    elim (cases_Bool (is_blank b)) [
      | inl blank ↦ rw blank (omega (arith, skip_shorter rest))
      | inr seen ↦ rw seen (omega arith)
    ]

-- nothing is skipped of a text whose blanks are as many as before
first_seen : (b : ℕ) (rest : List ℕ) → length (b ∷ rest) ≤ length (skip_blanks (b ∷ rest)) → is_blank b ≡ false
first_seen b rest le =
    elim (cases_Bool (is_blank b)) [
      | inl blank ↦
          let shorter : length (b ∷ rest) ≤ length (skip_blanks rest) = rw blank at le in
          absurd (omega (arith, shorter, skip_shorter rest))
      | inr seen ↦ seen
    ]

skip_none : (b : ℕ) (rest : List ℕ) → is_blank b ≡ false → skip_blanks (b ∷ rest) ≡ b ∷ rest
skip_none b rest seen = rw seen refl

bare_length : (text : List ℕ) → without_blanks text ≡ text → length text ≤ length (skip_blanks text)
unfolding without_blanks
bare_length text bare =
    omega (
      arith,
      ap length bare,
      length-reverse (skip_blanks (reverse (skip_blanks text))),
      skip_shorter (reverse (skip_blanks text)),
      length-reverse (skip_blanks text),
    )

back_length : (text : List ℕ) → without_blanks text ≡ text → skip_blanks text ≡ text → length (reverse text) ≤ length (skip_blanks (reverse text))
unfolding without_blanks
back_length text bare front =
    let back : reverse (skip_blanks (reverse text)) ≡ text = ap (λ (x : List ℕ). reverse (skip_blanks (reverse x))) (sym front) ∙ bare in
    omega (arith, ap length back, length-reverse (skip_blanks (reverse text)), length-reverse text)

is_margin_of : (b : ℕ) → is_printable b ≡ true → is_blank b ≡ false → is_margin b ≡ false
is_margin_of b h seen = rw (seen, other is_printable b 10 refl h, other is_printable b 13 refl h) refl

printable_append : (front : List ℕ) (b : ℕ) → list_all is_printable (front ++ b ∷ []) ≡ true → is_printable b ≡ true
printable_append [] b h = (and_parts (is_printable b) true h).0
printable_append (x ∷ front) b h = printable_append front b (and_parts (is_printable x) (list_all is_printable (front ++ b ∷ [])) h).1

-- a text whose last byte is no blank, read from behind
ends_back : (text turned : List ℕ) → reverse text ≡ turned → list_all is_printable text ≡ true → (text ≡ [] → ⊥) → length turned ≤ length (skip_blanks turned)
    → IsUnpadded text
ends_back text [] e printable some le = absurd (some (sym (reverse-reverse text) ∙ ap reverse e))
ends_back text (x ∷ turned) e printable some le =
    let whole : text ≡ reverse turned ++ x ∷ [] = sym (reverse-reverse text) ∙ ap reverse e ∙ reverse-append (x ∷ []) turned in
    let last : is_printable x ≡ true = printable_append (reverse turned) x (rw (← whole) printable) in
    subst IsUnpadded (sym whole) (front_ends (reverse turned) (x ∷ []) (one_ends x (is_margin_of x last (first_seen x turned le))))

bare_solid : (text : List ℕ) → without_blanks text ≡ text → list_all is_printable text ≡ true → (text ≡ [] → ⊥) → IsSolid text
bare_solid [] bare printable some = absurd (some refl)
bare_solid (b ∷ rest) bare printable some =
    let seen : is_blank b ≡ false = first_seen b rest (bare_length (b ∷ rest) bare) in
    let back = back_length (b ∷ rest) bare (skip_none b rest seen) in
    solid b rest (is_margin_of b (and_parts (is_printable b) (list_all is_printable rest) printable).0 seen)
    (ends_back (b ∷ rest) (reverse (b ∷ rest)) refl printable some back)

some_value : (text : List ℕ) → 0 < length (without_brackets text) → text ≡ [] → ⊥
unfolding without_brackets
some_value [] some e = absurd (omega (arith, some))
some_value (b ∷ rest) some e = absurd cc

pub identifier_solid : (id : List ℕ) → IsIdentifier id → IsSolid id
identifier_solid id x = bare_solid id x.bare x.printable (some_value id x.some)

pub identifier_no_feed : (id : List ℕ) → IsIdentifier id → HasNoFeed id
identifier_no_feed id x = no_feed_of is_printable id refl x.printable

-- the value of a line that is a space and a solid text
pub value_trimmed : (text : List ℕ) → IsSolid text → trimmed_text ((32 ∷ text) ++ 13 ∷ 10 ∷ []) ≡ text
value_trimmed text s = padded_trimmed ((32 ∷ text) ++ 13 ∷ 10 ∷ []) text
    (record { front = 32 ∷ []; back = 13 ∷ 10 ∷ []; whole = refl; blank_front = refl; blank_back = refl }) s

-- ---- MICs

mic_inside : (b : ℕ) → is_mic_byte b ≡ true → is_margin b ≡ false
mic_inside b h =
    rw (other is_mic_byte b 32 refl h, other is_mic_byte b 9 refl h, other is_mic_byte b 10 refl h, other is_mic_byte b 13 refl h) refl

mic_ends : (b : ℕ) (rest : List ℕ) → list_all is_mic_byte (b ∷ rest) ≡ true → IsUnpadded (b ∷ rest)
mic_ends b [] h = one_ends b (mic_inside b (and_parts (is_mic_byte b) true h).0)
mic_ends b (c ∷ rest) h = more_ends b (c ∷ rest) (mic_ends c rest (and_parts (is_mic_byte b) (list_all is_mic_byte (c ∷ rest)) h).1)

pub mic_solid : (text : List ℕ) → list_all is_mic_byte text ≡ true → 0 < length text → IsSolid text
mic_solid [] h some = absurd (omega (arith, some))
mic_solid (b ∷ rest) h some = solid b rest (mic_inside b (and_parts (is_mic_byte b) (list_all is_mic_byte rest) h).0) (mic_ends b rest h)

-- and what stands behind it
pub mic_solid_front : (text back : List ℕ) → list_all is_mic_byte text ≡ true → 0 < length text → IsUnpadded back → IsSolid (text ++ back)
mic_solid_front [] back h some e = absurd (omega (arith, some))
mic_solid_front (b ∷ rest) back h some e =
    solid b (rest ++ back) (mic_inside b (and_parts (is_mic_byte b) (list_all is_mic_byte rest) h).0) (front_ends (b ∷ rest) back e)

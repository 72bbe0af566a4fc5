-- Texts that are cut at a byte.
use Rattle.std.proofs.Common.{◌≡◌, ℕ, Bool, true, false, List, [], ◌∷◌, ◌++◌, length, Some, None, refl, sym, ap, ◌∙◌, arith, inl, inr}
use Rattle.std.specs.Prelude.{◌&&◌, ◌==◌, not}
use Rattle.std.specs.List.{list_all}
use Rattle.std.proofs.lemmas.Bool.{cases_Bool, and_parts, and_from, eqb-true, not-true}
use Rattle.as2_names.specs.Cuts.{Lacks, cut_at}
use Rattle.as2_names.specs.Trim.{falls_off, all_fall_off}
use Rattle.as2_names.proofs.Cuts.{lacks_front, cut_some, cut_none}
use Rattle.as2_media.specs.Bytes.{is_token_byte, is_token}
use Rattle.as2_media.specs.Parameters.{IsPadded}
use Rattle.as2_media.proofs.Padding.{is_margin, stays}

-- no byte of the text is the mark
abbrev pub is_free : ℕ → List ℕ → Bool
is_free mark [] = true
is_free mark (b ∷ rest) = not (b == mark) && is_free mark rest

free_lacks : (mark : ℕ) (text : List ℕ) → is_free mark text ≡ true → Lacks mark text
free_lacks mark [] h = λ k d lt. absurd (omega (arith, lt))
free_lacks mark (b ∷ rest) h =
    let p = and_parts (not (b == mark)) (is_free mark rest) h in
    lacks_front mark b rest (not-true (b == mark) p.0) (free_lacks mark rest p.1)

pub cut_free : (mark : ℕ) (text rest : List ℕ) → is_free mark text ≡ true → cut_at mark (text ++ mark ∷ rest) ≡ Some (text, rest)
cut_free mark text rest h = cut_some mark (text ++ mark ∷ rest) text rest (record { whole = refl; first = free_lacks mark text h })

pub cut_nowhere : (mark : ℕ) (text : List ℕ) → is_free mark text ≡ true → cut_at mark text ≡ None
cut_nowhere mark text h = cut_none mark text (free_lacks mark text h)

-- ---- texts without the mark

pub free_append : (mark : ℕ) (front text : List ℕ) → is_free mark front ≡ true → is_free mark text ≡ true → is_free mark (front ++ text) ≡ true
free_append mark [] text f t = t
free_append mark (b ∷ front) text f t =
    let p = and_parts (not (b == mark)) (is_free mark front) f in
    and_from (not (b == mark)) (is_free mark (front ++ text)) p.0 (free_append mark front text p.1 t)

-- a byte that passes a test is none that doesn't
pub other_byte : (test : ℕ → Bool) (b mark : ℕ) → test b ≡ true → test mark ≡ false → not (b == mark) ≡ true
other_byte test b mark passed failed =
    elim (cases_Bool (b == mark)) [
      | inl same ↦ absurd (let e : b ≡ mark = eqb-true b mark same in let t : true ≡ false = sym passed ∙ ap test e ∙ failed in cc)
      | inr other ↦ rw other refl
    ]

-- what falls off is a blank or of a line end
pub margin : (b : ℕ) (rest : List ℕ) → falls_off b rest ≡ true → is_margin b ≡ true
margin b rest h =
    elim (cases_Bool (is_margin b)) [
      | inl is ↦ is
      | inr other ↦ absurd (let e : false ≡ true = sym (stays b rest other) ∙ h in cc)
    ]

pub blank_free : (mark : ℕ) (text : List ℕ) → is_margin mark ≡ false → all_fall_off text ≡ true → is_free mark text ≡ true
blank_free mark [] m h = refl
blank_free mark (b ∷ rest) m h =
    let p = and_parts (falls_off b rest) (all_fall_off rest) h in
    and_from (not (b == mark)) (is_free mark rest) (other_byte is_margin b mark (margin b rest p.0) m) (blank_free mark rest m p.1)

-- a text whose bytes all pass a test has none that doesn't
pub passing_free : (test : ℕ → Bool) (mark : ℕ) (text : List ℕ) → test mark ≡ false → list_all test text ≡ true → is_free mark text ≡ true
passing_free test mark [] m h = refl
passing_free test mark (b ∷ rest) m h =
    let p = and_parts (test b) (list_all test rest) h in
    and_from (not (b == mark)) (is_free mark rest) (other_byte test b mark p.0 m) (passing_free test mark rest m p.1)

pub token_free : (mark : ℕ) (text : List ℕ) → is_token_byte mark ≡ false → is_token text ≡ true → is_free mark text ≡ true
token_free mark text m h = passing_free is_token_byte mark text m (and_parts (not (length text == 0)) (list_all is_token_byte text) h).1

pub padded_free : (mark : ℕ) (text inner : List ℕ) → is_margin mark ≡ false → IsPadded text inner → is_free mark inner ≡ true → is_free mark text ≡ true
padded_free mark text inner m p h =
    rw p.whole (free_append mark (p.front ++ inner) p.back (free_append mark p.front inner (blank_free mark p.front m p.blank_front) h)
    (blank_free mark p.back m p.blank_back))

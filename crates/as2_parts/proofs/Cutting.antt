-- A text that is cut into lines, a byte at a time.
use Rattle.std.proofs.Common.{◌≡◌, ◌==◌, ℕ, ◌+◌, ◌-◌, ◌<◌, Bool, true, false, List, [], ◌∷◌, length, take, drop, get_or, not, ◌&&◌, refl, ap, ◌∙◌, inl, inr}
use Rattle.std.proofs.lemmas.Bool.{cases_Bool, ne_eqb, eq-eqb}
use Rattle.std.proofs.lemmas.List.{drop_more, take_more, take_rest}
use Rattle.std.specs.List.{onto_first, concat}
use Rattle.as2_names.proofs.Cuts.{behind_at}
use Rattle.as2_names.proofs.CutLists.{Cuts, cuts_on, cuts_here}
use Rattle.as2_parts.specs.Lines.{lines}
use Rattle.as2_parts.specs.Fields.{folded_lines, begins_with_blank}

-- ---- lines

pub lines_on : (text : List ℕ) (i : ℕ) → i < length text → (get_or text i 0 ≡ 10 → ⊥) → Cuts (lines text) lines text i → Cuts (lines text) lines text (i + 1)
lines_on text i lt other = cuts_on (lines text) lines lines text i lt (ap lines (drop_more text i 0 lt) ∙ rw (ne_eqb _ 10 other) refl)

pub lines_cut : (text : List ℕ) (i : ℕ) → i < length text → get_or text i 0 ≡ 10 → Cuts (lines text) lines text i
    → lines text ≡ take (i + 1) text ∷ lines (drop (i + 1) text)
lines_cut text i lt feed seen =
    rw (take_more text i 0 lt)
    (cuts_here (lines text) lines lines text (get_or text i 0 ∷ []) i (ap lines (drop_more text i 0 lt) ∙ rw (eq-eqb _ _ feed) refl) seen)

-- ---- lines with those that go on with them

-- the text is cut behind that place
abbrev pub is_cut_at : List ℕ → ℕ → Bool
is_cut_at text i = get_or text i 0 == 10 && not (begins_with_blank (drop (i + 1) text))

pub cut_here : (text : List ℕ) (i : ℕ) → get_or text i 0 ≡ 10 → begins_with_blank (behind_at text i) ≡ false → is_cut_at text i ≡ true
cut_here text i feed free =
    let f : begins_with_blank (drop (i + 1) text) ≡ false = rw (← take_rest text (i + 1)) free in
    rw (eq-eqb (get_or text i 0) 10 feed, f) refl

pub no_cut_before_blank : (text : List ℕ) (i : ℕ) → begins_with_blank (behind_at text i) ≡ true → is_cut_at text i ≡ false
no_cut_before_blank text i blank =
    let f : begins_with_blank (drop (i + 1) text) ≡ true = rw (← take_rest text (i + 1)) blank in
    elim (cases_Bool (get_or text i 0 == 10)) [
      | inl feed ↦ rw (feed, f) refl
      | inr other ↦ rw other refl
    ]

pub no_cut_elsewhere : (text : List ℕ) (i : ℕ) → (get_or text i 0 ≡ 10 → ⊥) → is_cut_at text i ≡ false
no_cut_elsewhere text i other = rw (ne_eqb (get_or text i 0) 10 other) refl

pub folded_on : (text : List ℕ) (i : ℕ) → i < length text → is_cut_at text i ≡ false → Cuts (folded_lines text) folded_lines text i
    → Cuts (folded_lines text) folded_lines text (i + 1)
folded_on text i lt other = cuts_on (folded_lines text) folded_lines folded_lines text i lt (ap folded_lines (drop_more text i 0 lt) ∙ rw other refl)

pub folded_cut : (text : List ℕ) (i : ℕ) → i < length text → is_cut_at text i ≡ true → Cuts (folded_lines text) folded_lines text i
    → folded_lines text ≡ take (i + 1) text ∷ folded_lines (drop (i + 1) text)
folded_cut text i lt cut seen =
    rw (take_more text i 0 lt)
    (cuts_here (folded_lines text) folded_lines folded_lines text (get_or text i 0 ∷ []) i (ap folded_lines (drop_more text i 0 lt) ∙ rw cut refl) seen)

-- ---- joined again

-- the lines joined are the text
pub lines_joined : (text : List ℕ) → concat (lines text) ≡ text
lines_joined [] = refl
lines_joined (b ∷ rest) =
    elim (cases_Bool (b == 10)) [
      | inl feed ↦ rw feed (ap (λ (t : List ℕ). b ∷ t) (lines_joined rest))
      | inr other ↦ rw other (joined_first b (lines rest) ∙ ap (λ (t : List ℕ). b ∷ t) (lines_joined rest))
    ]
  where
    joined_first : (b : ℕ) (parts : List (List ℕ)) → concat (onto_first b parts) ≡ b ∷ concat parts
    joined_first b [] = refl
    joined_first b (part ∷ parts) = refl

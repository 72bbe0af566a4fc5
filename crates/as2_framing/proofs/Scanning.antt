-- What a scan of pieces tells is where the first empty line of the text ends.
use Rattle.std.proofs.Common.{◌≡◌, ◌+◌, ◌-◌, ◌<◌, ◌≤◌, ℕ, suc, true, false, ◌&&◌, eqb, List, [], ◌∷◌, ◌++◌, length, take, drop, Some, None, refl, sym, ap, ◌∙◌, append_assoc, append-nil, length-append, arith, inl, inr}
use Rattle.std.specs.List.{list_any, onto_first}
use Rattle.std.proofs.lemmas.Bool.{cases_Bool, eqb-true}
use Rattle.as2_framing.specs.HeadText.{up_to_empty_line}
use Rattle.as2_framing.specs.Scanning.{with_byte, may_end, line_in, scan_from}
use Rattle.as2_framing.specs.declared.scan.LineSoFar.{LineSoFar}
use Rattle.as2_framing.specs.declared.scan.LineSoFar.TheVariants.{Nothing, Return, Text}
use Rattle.as2_framing.specs.declared.scan.Scanned.{Scanned}
use Rattle.as2_framing.specs.declared.scan.Scanned.TheVariants.{Ended, Open}
use Rattle.as2_parts.specs.Lines.{lines, is_empty_line}
use Rattle.as2_parts.specs.Parts.{cut_at_empty_line, part_in}
use Rattle.as2_framing.proofs.Heads.{alone, longer, first_longer, onto_behind}

-- of all lines; of those where a CR stands before the text; of those behind the first
abbrev lines_behind : LineSoFar → List ℕ → List (List ℕ)
lines_behind Nothing text = lines text
lines_behind Return text = onto_first 13 (lines text)
lines_behind Text text = drop 1 (lines text)

other_line : (c : ℕ) (line : List ℕ) → eqb c 10 ≡ false → eqb c 13 ≡ false → is_empty_line (c ∷ line) ≡ false
other_line c line f g = rw (f, g) refl

first_other : (c : ℕ) (ls : List (List ℕ)) → eqb c 10 ≡ false → eqb c 13 ≡ false
    → (list_any is_empty_line (onto_first c ls) ≡ list_any is_empty_line (drop 1 ls))
    × ((cut_at_empty_line (onto_first c ls)).1 ≡ (cut_at_empty_line (drop 1 ls)).1)
first_other c [] f g = rw (other_line c [] f g) (refl, refl)
first_other c (line ∷ ls) f g = rw (other_line c line f g) (refl, refl)

with_return_text : (c : ℕ) → eqb c 10 ≡ false → with_byte Return c ≡ Text
with_return_text c f = elim (cases_Bool (eqb c 13)) [ inl t ↦ rw (f, t) refl | inr g ↦ rw (f, g) refl ]

with_text_text : (c : ℕ) → eqb c 10 ≡ false → with_byte Text c ≡ Text
with_text_text c f = elim (cases_Bool (eqb c 13)) [ inl t ↦ rw (f, t) refl | inr g ↦ rw (f, g) refl ]

-- one byte more makes the last line empty, or none; nothing stands behind it
abbrev Ends : LineSoFar → List ℕ → ℕ → Type 0
Ends line p b =
    (list_any is_empty_line (lines_behind line (p ++ b ∷ [])) ≡ (eqb b 10 && may_end (line_in line p)))
    × ((cut_at_empty_line (lines_behind line (p ++ b ∷ []))).1 ≡ [])

ends : (line : LineSoFar) (p : List ℕ) (b : ℕ) → list_any is_empty_line (lines_behind line p) ≡ false → Ends line p b
ends Nothing [] b h = elim (cases_Bool (eqb b 10)) [ inl t ↦ rw (eqb-true b 10 t) (refl, refl) | inr f ↦ rw (f, alone b f) (refl, refl) ]
ends Return [] b h = elim (cases_Bool (eqb b 10)) [ inl t ↦ rw (eqb-true b 10 t) (refl, refl) | inr f ↦ rw (f, longer 13 b [] refl f) (refl, refl) ]
ends Text [] b h = elim (cases_Bool (eqb b 10)) [ inl t ↦ rw (eqb-true b 10 t) (refl, refl) | inr f ↦ rw f (refl, refl) ]
ends Nothing (c ∷ p) b h =
    elim (cases_Bool (eqb c 10)) [
      | inl t ↦ let s : true ≡ false = rw (eqb-true c 10 t) at h in absurd cc
      | inr f ↦ elim (cases_Bool (eqb c 13)) [
        | inl u ↦ rw (eqb-true c 13 u) (ends Return p b (rw (eqb-true c 13 u) at h))
        | inr g ↦ let old = first_other c (lines p) f g in
            let new = first_other c (lines (p ++ b ∷ [])) f g in
            let s : list_any is_empty_line (onto_first c (lines p)) ≡ false = rw f at h in
            let e = ends Text p b (sym old.0 ∙ s) in
            rw (f, g) (new.0 ∙ e.0, new.1 ∙ e.1)
      ]
    ]
ends Return (c ∷ p) b h =
    elim (cases_Bool (eqb c 10)) [
      | inl t ↦ let s : true ≡ false = rw (eqb-true c 10 t) at h in absurd cc
      | inr f ↦ let old = first_longer 13 c (lines p) refl f in
          let new = first_longer 13 c (lines (p ++ b ∷ [])) refl f in
          let s : list_any is_empty_line (onto_first 13 (onto_first c (lines p))) ≡ false = rw f at h in
          let e = ends Text p b (sym old.0 ∙ s) in
          rw (with_return_text c f, f) (new.0 ∙ e.0, new.1 ∙ e.1)
    ]
ends Text (c ∷ p) b h =
    elim (cases_Bool (eqb c 10)) [
      | inl t ↦ rw (eqb-true c 10 t) (ends Nothing p b (rw (eqb-true c 10 t) at h))
      | inr f ↦ let s : list_any is_empty_line (drop 1 (lines p)) ≡ false = rw (f, onto_behind c (lines p)) at h in
          rw (with_text_text c f, f, onto_behind c (lines (p ++ b ∷ []))) (ends Text p b s)
    ]

no_line : (p : List ℕ) → up_to_empty_line p ≡ None → list_any is_empty_line (lines p) ≡ false
no_line p h =
    elim (cases_Bool (list_any is_empty_line (lines p))) [
      | inl t ↦ let e : Some (length p - length (part_in p).1) ≡ None = rw t at h in absurd cc
      | inr f ↦ f
    ]

-- where no empty line ended before, one byte more ends one, or none
pub ends_here : (p : List ℕ) (b : ℕ) → up_to_empty_line p ≡ None → (eqb b 10 && may_end (line_in Nothing p)) ≡ true
    → up_to_empty_line (p ++ b ∷ []) ≡ Some (length p + 1)
ends_here p b none t =
    let e = ends Nothing p b (no_line p none) in
    let n : length (p ++ b ∷ []) - length (part_in (p ++ b ∷ [])).1 ≡ length p + 1 = omega (arith, length-append p (b ∷ []), ap length e.1) in
    rw (e.0 ∙ t) (ap Some n)

pub ends_nowhere : (p : List ℕ) (b : ℕ) → up_to_empty_line p ≡ None → (eqb b 10 && may_end (line_in Nothing p)) ≡ false → up_to_empty_line (p ++ b ∷ []) ≡ None
ends_nowhere p b none f = let e = ends Nothing p b (no_line p none) in rw (e.0 ∙ f) refl

pub line_on : (line : LineSoFar) (p : List ℕ) (b : ℕ) → line_in line (p ++ b ∷ []) ≡ with_byte (line_in line p) b
line_on line [] b = refl
line_on line (c ∷ p) b = line_on (with_byte line c) p b

-- what a scan tells of a text in which no empty line ended before
abbrev pub Runs : List ℕ → List ℕ → ℕ → Scanned → Type 0
Runs p bytes n (Ended k) = (m : ℕ) × (k ≡ n + m) × (m ≤ length bytes) × (0 < m) × (up_to_empty_line (p ++ take m bytes) ≡ Some (length p + m))
Runs p bytes n (Open line) = (up_to_empty_line (p ++ bytes) ≡ None) × (line_in Nothing (p ++ bytes) ≡ line)

later : (p rest : List ℕ) (b n : ℕ) (r : Scanned) → Runs (p ++ b ∷ []) rest (n + 1) r → Runs p (b ∷ rest) n r
later p rest b n (Ended k) x = (
  suc x.0,
  omega (arith, x.1),
  omega (arith, x.2),
  omega arith,
  ap up_to_empty_line (sym (append_assoc p (b ∷ []) (take x.0 rest))) ∙ x.4 ∙ ap Some (omega (arith, length-append p (b ∷ []))),
)
later p rest b n (Open line) x = (
  ap up_to_empty_line (sym (append_assoc p (b ∷ []) rest)) ∙ x.0,
  ap (line_in Nothing) (sym (append_assoc p (b ∷ []) rest)) ∙ x.1,
)

pub runs : (bytes p : List ℕ) (n : ℕ) (line : LineSoFar) → up_to_empty_line p ≡ None → line_in Nothing p ≡ line → Runs p bytes n (scan_from n line bytes)
runs [] p n line none at = (ap up_to_empty_line (append-nil p) ∙ none, ap (line_in Nothing) (append-nil p) ∙ at)
runs (b ∷ rest) p n line none at =
    elim (cases_Bool (eqb b 10 && may_end line)) [
      | inl t ↦ rw t (1, refl, omega arith, omega arith, ends_here p b none (ap (λ (l : LineSoFar). eqb b 10 && may_end l) at ∙ t))
      | inr f ↦ rw f (later p rest b n (scan_from (n + 1) (with_byte line b) rest)
          (runs rest (p ++ b ∷ []) (n + 1) (with_byte line b)
          (ends_nowhere p b none (ap (λ (l : LineSoFar). eqb b 10 && may_end l) at ∙ f))
          (line_on Nothing p b ∙ ap (λ (l : LineSoFar). with_byte l b) at)))
    ]

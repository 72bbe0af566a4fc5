-- A head that is found stays found when more bytes come.
use Rattle.std.proofs.Common.{◌≡◌, ◌+◌, ◌-◌, ◌<◌, ℕ, suc, zero, Bool, true, false, eqb, List, [], ◌∷◌, ◌++◌, length, take, drop, Some, None, refl, sym, ap, ◌∙◌, append_assoc, length-append, arith, inl, inr}
use Rattle.std.specs.List.{list_any, concat, onto_first}
use Rattle.std.proofs.lemmas.Bool.{cases_Bool, eqb-true}
use Rattle.std.proofs.lemmas.List.{take_all, take-append-drop}
use Rattle.as2_media.specs.Bytes.{is_line_byte}
use Rattle.as2_framing.specs.HeadText.{unblank, up_to_empty_line, window, HasHeadText}
use Rattle.as2_parts.specs.Lines.{lines, is_empty_line}
use Rattle.as2_parts.specs.Parts.{cut_at_empty_line, part_in}
use Rattle.as2_parts.proofs.Cutting.{lines_joined}

-- the front of a longer text is the front of the text, and then more
pub take_more : (n : ℕ) (xs ys : List ℕ) → (more : List ℕ) × (take n (xs ++ ys) ≡ take n xs ++ more)
take_more n [] ys = (take n ys, ap (λ (t : List ℕ). t ++ take n ys) (sym (take_all n [] (omega arith))))
take_more zero (x ∷ xs) ys = ([], refl)
take_more (suc n) (x ∷ xs) ys = let m = take_more n xs ys in (m.0, ap (λ (t : List ℕ). x ∷ t) m.1)

pub unblank_append : (text more : List ℕ) (b : ℕ) (rest : List ℕ) → unblank text ≡ b ∷ rest → unblank (text ++ more) ≡ unblank text ++ more
unblank_append [] more b rest h = absurd cc
unblank_append (a ∷ text) more b rest h =
    elim (cases_Bool (is_line_byte a)) [
      | inl t ↦ let e : unblank (a ∷ text) ≡ unblank text = rw t refl in rw t (unblank_append text more b rest (sym e ∙ h))
      | inr f ↦ rw f refl
    ]

-- ---- the first empty line

cut_some : (ls : List (List ℕ)) → list_any is_empty_line ls ≡ true → length (cut_at_empty_line ls).0 + length (cut_at_empty_line ls).1 < length (concat ls)
cut_some [] h = absurd cc
cut_some ([] ∷ rest) h = cut_some rest h
cut_some ((b ∷ line) ∷ rest) h =
    elim (cases_Bool (is_empty_line (b ∷ line))) [
      | inl t ↦ rw t (omega (arith, length-append line (concat rest)))
      | inr f ↦ let s : list_any is_empty_line rest ≡ true =
          rw f at h in rw f (omega (arith, length-append line (cut_at_empty_line rest).0, length-append line (concat rest), cut_some rest s))
    ]

-- where there is one, it isn't all of the text that stands before it
pub cut_of : (text : List ℕ) → list_any is_empty_line (lines text) ≡ true → length (part_in text).0 + length (part_in text).1 < length text
cut_of text t = omega (arith, cut_some (lines text) t, ap length (lines_joined text))

-- an empty line that is found stays, and more comes behind what stands behind it
abbrev Grows : List ℕ → List (List ℕ) → List (List ℕ) → Type 0
Grows more old new = (list_any is_empty_line new ≡ true) × ((cut_at_empty_line new).1 ≡ (cut_at_empty_line old).1 ++ more)

joined_more : (text more : List ℕ) → concat (lines (text ++ more)) ≡ concat (lines text) ++ more
joined_more text more = lines_joined (text ++ more) ∙ ap (λ (t : List ℕ). t ++ more) (sym (lines_joined text))

pub alone : (b : ℕ) → eqb b 10 ≡ false → is_empty_line (b ∷ []) ≡ false
alone b f = elim (cases_Bool (eqb b 13)) [ inl t ↦ rw (f, t) refl | inr g ↦ rw (f, g) refl ]

pub longer : (b c : ℕ) (line : List ℕ) → eqb b 10 ≡ false → eqb c 10 ≡ false → is_empty_line (b ∷ c ∷ line) ≡ false
longer b c line f u = elim (cases_Bool (eqb b 13)) [ inl t ↦ rw (f, t, u) refl | inr g ↦ rw (f, g) refl ]

pub first_longer : (b c : ℕ) (ls : List (List ℕ)) → eqb b 10 ≡ false → eqb c 10 ≡ false
    → (list_any is_empty_line (onto_first b (onto_first c ls)) ≡ list_any is_empty_line (drop 1 ls))
    × ((cut_at_empty_line (onto_first b (onto_first c ls))).1 ≡ (cut_at_empty_line (drop 1 ls)).1)
first_longer b c [] f u = rw (longer b c [] f u) (refl, refl)
first_longer b c (line ∷ ls) f u = rw (longer b c line f u) (refl, refl)

pub onto_behind : (b : ℕ) (ls : List (List ℕ)) → drop 1 (onto_first b ls) ≡ drop 1 ls
onto_behind b [] = refl
onto_behind b (line ∷ ls) = refl

-- of all lines, or of those behind the first
abbrev lines_from : Bool → List ℕ → List (List ℕ)
lines_from true text = lines text
lines_from false text = drop 1 (lines text)

grows : (all : Bool) (text more : List ℕ) → list_any is_empty_line (lines_from all text) ≡ true
    → Grows more (lines_from all text) (lines_from all (text ++ more))
grows true [] more h = absurd cc
grows false [] more h = absurd cc
grows false (b ∷ rest) more h =
    elim (cases_Bool (eqb b 10)) [
      | inl t ↦ rw t (grows true rest more (rw t at h))
      | inr f ↦ let s : list_any is_empty_line (drop 1 (lines rest)) ≡ true = rw (f, onto_behind b (lines rest)) at h in
          rw (f, onto_behind b (lines rest), onto_behind b (lines (rest ++ more))) (grows false rest more s)
    ]
grows true (b ∷ []) more h =
    elim (cases_Bool (eqb b 10)) [
      | inl t ↦ rw (eqb-true b 10 t) (refl, lines_joined more)
      | inr f ↦ let s : false ≡ true = rw (f, alone b f) at h in absurd cc
    ]
grows true (b ∷ c ∷ rest) more h =
    elim (cases_Bool (eqb b 10)) [
      | inl t ↦ rw (eqb-true b 10 t) (refl, joined_more (c ∷ rest) more)
      | inr f ↦ elim (cases_Bool (eqb c 10)) [
        | inl u ↦ elim (cases_Bool (eqb b 13)) [
          | inl v ↦ rw (eqb-true b 13 v, eqb-true c 10 u) (refl, joined_more rest more)
          | inr w ↦ let e : is_empty_line (b ∷ c ∷ []) ≡ false = rw (f, w) refl in rw (f, u, e) (grows true rest more (rw (f, u, e) at h))
        ]
        | inr u ↦ let old = first_longer b c (lines rest) f u in
            let new = first_longer b c (lines (rest ++ more)) f u in
            let s : list_any is_empty_line (onto_first b (onto_first c (lines rest))) ≡ true = rw (f, u) at h in
            let g = grows false rest more (sym old.0 ∙ s) in
            rw (f, u) (new.0 ∙ g.0, new.1 ∙ g.1 ∙ ap (λ (t : List ℕ). t ++ more) (sym old.1))
      ]
    ]

-- how long the text is up to there
pub line_end : (text : List ℕ) (k : ℕ) → up_to_empty_line text ≡ Some k → (list_any is_empty_line (lines text) ≡ true)
    × (length text - length (part_in text).1 ≡ k)
line_end text k h =
    elim (cases_Bool (list_any is_empty_line (lines text))) [
      | inl t ↦ let e : Some (length text - length (part_in text).1) ≡ Some k = rw t at h in (t, cc)
      | inr f ↦ let e : None ≡ Some k = rw f at h in absurd cc
    ]

pub line_stays : (text more : List ℕ) (k : ℕ) → up_to_empty_line text ≡ Some k → up_to_empty_line (text ++ more) ≡ Some k
line_stays text more k h =
    let l = line_end text k h in
    let g = grows true text more l.0 in
    let n : length (text ++ more) - length (part_in (text ++ more)).1 ≡ k =
    omega (arith, length-append text more, ap length g.1, length-append (part_in text).1 more, l.1) in
    rw g.0 (ap Some n)

some_first : (text : List ℕ) (k : ℕ) → up_to_empty_line text ≡ Some k → (b : ℕ) × (rest : List ℕ) × (text ≡ b ∷ rest)
some_first [] k h = absurd cc
some_first (b ∷ rest) k h = (b, rest, refl)

-- the text behind the CR and LF begins with the window
pub unblank_window : (text : List ℕ) (k : ℕ) → up_to_empty_line (window text) ≡ Some k → unblank text ≡ window text ++ drop 16384 text
unblank_window text k h =
    let f = some_first (window text) k h in
    ap unblank (sym (take-append-drop 16384 text)) ∙ unblank_append (take 16384 text) (drop 16384 text) f.0 f.1 f.2

pub window_append : (text more : List ℕ) (k : ℕ) → up_to_empty_line (window text) ≡ Some k → up_to_empty_line (window (text ++ more)) ≡ Some k
window_append text more k h =
    let f = some_first (window text) k h in
    let m = take_more 16384 text more in
    let e : window (text ++ more) ≡ window text ++ m.0 = ap unblank m.1 ∙ unblank_append (take 16384 text) m.0 f.0 f.1 f.2 in
    ap up_to_empty_line e ∙ line_stays (window text) m.0 k h

pub head_append : (text more head after : List ℕ) → HasHeadText text head after → HasHeadText (text ++ more) head (after ++ more)
head_append text more head after h =
    let f = some_first (window text) (length head) h.0 in
    let u = unblank_window text (length head) h.0 in
    let e : unblank text ≡ f.0 ∷ (f.1 ++ drop 16384 text) = u ∙ ap (λ (t : List ℕ). t ++ drop 16384 text) f.2 in (
      window_append text more (length head) h.0,
      unblank_append text more f.0 (f.1 ++ drop 16384 text) e ∙ ap (λ (t : List ℕ). t ++ more) h.1 ∙ append_assoc head after more,
    )

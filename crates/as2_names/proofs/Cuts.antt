-- Texts that are cut at a byte.
use Rattle.std.proofs.Common.{◌≡◌, ◌==◌, ℕ, zero, suc, ◌+◌, ◌-◌, ◌<◌, ◌≤◌, false, List, [], ◌∷◌, ◌++◌, length, take, drop, slice_index_or, Option, Some, None, refl, sym, ap, subst, ◌∙◌, arith, inl, inr}
use Rattle.std.proofs.lemmas.Bool.{cases_Bool, ne_eqb, eq-eqb, eqb-true}
use Rattle.std.proofs.lemmas.List.{drop_more, length-drop, take_all, take-append-drop, append_cancel_left}
use Rattle.std.proofs.lemmas.List.Elements.{All-more}
use Rattle.std.proofs.lemmas.List.Splits.{slice_split_at, slice_split_none, length-slice_split}
use Rattle.std.specs.Prelude.{IfSome}
use Rattle.std.specs.List.{slice_split}
use Rattle.as2_names.specs.Cuts.{Lacks, IsCutAt, with_before, cut_at}

pub lacks_more : (byte : ℕ) (text : List ℕ) (i : ℕ) → i < length text → Lacks byte (take i text) → (slice_index_or text i 0 ≡ byte → ⊥)
    → Lacks byte (take (i + 1) text)
lacks_more byte text i lt before other = All-more (λ b. (b == byte) ≡ false) text i 0 lt before (ne_eqb (slice_index_or text i 0) byte other)

pub lacks_all : (byte : ℕ) (text : List ℕ) (i : ℕ) → length text ≤ i → Lacks byte (take i text) → Lacks byte text
lacks_all byte text i le before = subst (Lacks byte) (take_all i text le) before

-- the bytes behind place i, as a slice up to the end gives them
abbrev pub behind_at : List ℕ → ℕ → List ℕ
behind_at text i = take (length text - (i + 1)) (drop (i + 1) text)

at_place : (byte : ℕ) (text : List ℕ) (i : ℕ) → i < length text → slice_index_or text i 0 ≡ byte → drop i text ≡ byte ∷ behind_at text i
at_place byte text i lt same =
    let behind : behind_at text i ≡ drop (i + 1) text = take_all (length text - (i + 1)) (drop (i + 1) text) (omega (arith, length-drop (i + 1) text)) in
    drop_more text i 0 lt ∙ rw (same, behind) refl

pub cut_here : (byte : ℕ) (text : List ℕ) (i : ℕ) → i < length text → slice_index_or text i 0 ≡ byte → Lacks byte (take i text)
    → IsCutAt byte text (take i text) (behind_at text i)
cut_here byte text i lt same lacks = record {
  whole = sym (take-append-drop i text) ∙ ap (λ (x : List ℕ). take i text ++ x) (at_place byte text i lt same);
  first = lacks;
}

-- ---- a text is cut in one way

abbrev parts_behind : List (List ℕ) → List (List ℕ)
parts_behind [] = []
parts_behind (part ∷ rest) = rest

abbrev first_part : List (List ℕ) → List ℕ
first_part [] = []
first_part (part ∷ rest) = part

pub parts_cut : (byte : ℕ) (text before behind : List ℕ) → IsCutAt byte text before behind
    → slice_split (λ b. b == byte) text ≡ before ∷ slice_split (λ b. b == byte) behind
parts_cut byte text before behind c = rw c.whole (slice_split_at (λ b. b == byte) before byte behind c.first (eq-eqb byte byte refl))

pub one_before : (byte : ℕ) (text before behind before' behind' : List ℕ) → IsCutAt byte text before behind → IsCutAt byte text before' behind'
    → before ≡ before'
one_before byte text before behind before' behind' c d = ap first_part (sym (parts_cut byte text before behind c) ∙ parts_cut byte text before' behind' d)

pub one_behind : (byte : ℕ) (text before behind before' behind' : List ℕ) → IsCutAt byte text before behind → IsCutAt byte text before' behind'
    → behind ≡ behind'
one_behind byte text before behind before' behind' c d =
    let same : before ≡ before' = one_before byte text before behind before' behind' c d in
    let whole : before ++ byte ∷ behind ≡ before' ++ byte ∷ behind' = sym c.whole ∙ d.whole in
    let kept : before ++ byte ∷ behind ≡ before ++ byte ∷ behind' = whole ∙ ap (λ (x : List ℕ). x ++ byte ∷ behind') (sym same) in
    ap (drop 1) (append_cancel_left before (byte ∷ behind) (byte ∷ behind') kept)

parts_some : (byte : ℕ) (text : List ℕ) → slice_split (λ b. b == byte) text ≡ [] → ⊥
parts_some byte text e = absurd (omega (arith, ap length e, length-slice_split (λ b. b == byte) text))

pub no_cut : (byte : ℕ) (text before behind : List ℕ) → Lacks byte text → IsCutAt byte text before behind → ⊥
no_cut byte text before behind none c =
    parts_some byte behind (ap parts_behind (sym (parts_cut byte text before behind c) ∙ slice_split_none (λ b. b == byte) text none))

-- ---- the cut as a value

pub lacks_tail : (byte b : ℕ) (rest : List ℕ) → Lacks byte (b ∷ rest) → Lacks byte rest
lacks_tail byte b rest lacks k d lt = lacks (suc k) d (omega (arith, lt))

pub lacks_first : (byte b : ℕ) (rest : List ℕ) → Lacks byte (b ∷ rest) → (b == byte) ≡ false
lacks_first byte b rest lacks = lacks 0 0 (omega arith)

pub cut_none : (byte : ℕ) (text : List ℕ) → Lacks byte text → cut_at byte text ≡ None
cut_none byte [] lacks = refl
cut_none byte (b ∷ rest) lacks = rw (lacks_first byte b rest lacks, cut_none byte rest (lacks_tail byte b rest lacks)) refl

cut_first : (byte : ℕ) (before behind : List ℕ) → Lacks byte before → cut_at byte (before ++ byte ∷ behind) ≡ Some (before, behind)
cut_first byte [] behind lacks = rw (eq-eqb byte byte refl) refl
cut_first byte (b ∷ rest) behind lacks = rw (lacks_first byte b rest lacks, cut_first byte rest behind (lacks_tail byte b rest lacks)) refl

pub cut_some : (byte : ℕ) (text before behind : List ℕ) → IsCutAt byte text before behind → cut_at byte text ≡ Some (before, behind)
cut_some byte text before behind c = ap (cut_at byte) c.whole ∙ cut_first byte before behind c.first

pub lacks_front : (byte b : ℕ) (rest : List ℕ) → (b == byte) ≡ false → Lacks byte rest → Lacks byte (b ∷ rest)
lacks_front byte b rest other lacks zero d lt = other
lacks_front byte b rest other lacks (suc k) d lt = lacks k d (omega (arith, lt))

-- what is cut stands there so
abbrev SoundCut : ℕ → List ℕ → List ℕ × List ℕ → Type 0
SoundCut byte text cut = IsCutAt byte text cut.0 cut.1

sound_further : (byte b : ℕ) (rest : List ℕ) (r : Option (List ℕ × List ℕ)) → (b == byte) ≡ false → IfSome r (SoundCut byte rest)
    → IfSome (with_before (b ∷ []) r) (SoundCut byte (b ∷ rest))
sound_further byte b rest None other s = s
sound_further byte b rest (Some cut) other s = record { whole = ap (λ (x : List ℕ). b ∷ x) s.whole; first = lacks_front byte b cut.0 other s.first }

cut_sound : (byte : ℕ) (text : List ℕ) → IfSome (cut_at byte text) (SoundCut byte text)
cut_sound byte [] = tt
cut_sound byte (b ∷ rest) =
    elim (cases_Bool (b == byte)) [
      | inl same ↦ rw same (record { whole = rw (eqb-true b byte same) refl; first = λ k d lt. absurd (omega (arith, lt)) })
      | inr other ↦ rw other (sound_further byte b rest (cut_at byte rest) other (cut_sound byte rest))
    ]

some_of : (r : Option (List ℕ × List ℕ)) (P : List ℕ × List ℕ → Type 0) (cut : List ℕ × List ℕ) → r ≡ Some cut → IfSome r P → P cut
some_of None P cut e s = absurd cc
some_of (Some other) P cut e s = subst P (cc) s

pub cut_found : (byte : ℕ) (text : List ℕ) (cut : List ℕ × List ℕ) → cut_at byte text ≡ Some cut → IsCutAt byte text cut.0 cut.1
cut_found byte text cut e = some_of (cut_at byte text) (SoundCut byte text) cut e (cut_sound byte text)

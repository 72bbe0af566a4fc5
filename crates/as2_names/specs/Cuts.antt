-- Texts that are cut at a byte.
use Rattle.std.specs.Prelude.{◌≡◌, ℕ, false, ◌==◌, List, [], ◌∷◌, ◌++◌, if◌then◌else◌, Option, Some, None}
use Rattle.std.specs.List.{All}

-- the byte doesn't stand in the text
abbrev pub Lacks : ℕ → List ℕ → Type 0
Lacks byte text = All (λ b. (b == byte) ≡ false) text

-- the text has the byte for the first time between these two
pub record IsCutAt (byte : ℕ) (text before behind : List ℕ) : Type 0 where
  pub whole : text ≡ before ++ byte ∷ behind
  pub first : Lacks byte before

-- ---- the two of a text that is read from the left

-- those bytes stand before what is cut
abbrev pub with_before : List ℕ → Option (List ℕ × List ℕ) → Option (List ℕ × List ℕ)
with_before front None = None
with_before front (Some cut) = Some (front ++ cut.0, cut.1)

-- what stands before the byte and what stands behind it
abbrev pub cut_at : ℕ → List ℕ → Option (List ℕ × List ℕ)
cut_at byte [] = None
cut_at byte (b ∷ rest) = if b == byte then Some ([], rest) else with_before (b ∷ []) (cut_at byte rest)

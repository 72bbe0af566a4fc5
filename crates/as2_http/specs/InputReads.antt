-- What is read of an input, each read where it is needed.
use Rattle.std.specs.Prelude.{◌≡◌, ◌+◌, ◌<◌, ◌≤◌, ℕ, List, [], ◌∷◌, ◌++◌, length, Option, Some}
use Rattle.std.specs.List.{AllByRecursion}

-- the most bytes that one read asks for
abbrev pub read_limit : ℕ
read_limit = 65536

-- each of these reads gave something
abbrev pub AllGave : List (List ℕ) → Type 0
AllGave pieces = AllByRecursion (λ piece. 0 < length piece) pieces

-- Behind the text these pieces were read one after the other, each where what had come before it needed more. One that gave nothing, since it failed
-- or the input had ended, is the last. What has come is the text with all of them.
abbrev pub AllNeeded : (List ℕ → Type 0) → List ℕ → List (List ℕ) → List ℕ → Type 0
AllNeeded needs text [] all = all ≡ text
AllNeeded needs text (piece ∷ more) all = needs text × (length piece ≤ read_limit) × (piece ≡ [] → more ≡ []) × AllNeeded needs (text ++ piece) more all

-- So many calls more gave these pieces of the input, the empty one where a read failed or the input had ended, and the rest is left.
pub record ReadsNeeded (needs : List ℕ → Type 0) (input : List ℕ) (unread : Option (List ℕ)) (calls later : ℕ) : Type 0 where
  pub pieces : List (List ℕ)
  pub read : List ℕ
  pub left : List ℕ
  pub counted : later ≡ calls + length pieces
  pub needed : AllNeeded needs [] pieces read
  pub whole : input ≡ read ++ left
  pub known : unread ≡ Some left

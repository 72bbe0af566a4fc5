-- A content in pieces of 65,536 bytes, of which the last may be shorter and none is empty.
use Rattle.std.specs.Prelude.{◌≡◌, ℕ, ◌≤◌, ◌*◌, nat_lt, List, ◌++◌, length, take, drop, Option, Some, None, if◌then◌else◌}
use Rattle.std.specs.Int.{div_ceil}
use Rattle.std.specs.List.{All, flat_map}

abbrev pub piece_size : ℕ
piece_size = 65536

-- how many pieces a content has
abbrev pub piece_count : List ℕ → ℕ
piece_count content = div_ceil (length content) piece_size

-- the piece at place i
abbrev pub piece_at : List ℕ → ℕ → Option (List ℕ)
piece_at content i =
    if nat_lt (i * piece_size) (length content) then Some (take piece_size (drop (i * piece_size) content)) else None

-- ---- how they are kept: whole pieces, and what stands behind them; `bytes` gives the bytes of a whole one

abbrev pub joined_pieces : {X : Type 0} → (X → List ℕ) → List X → List ℕ → List ℕ
joined_pieces bytes whole last = flat_map bytes whole ++ last

abbrev pub AreWhole : {X : Type 0} → (X → List ℕ) → List X → Type 0
AreWhole bytes whole = All (λ piece. length (bytes piece) ≡ piece_size) whole

-- these pieces are kept for that content
pub record IsKeptAs {X : Type 0} (bytes : X → List ℕ) (whole : List X) (last all : List ℕ) : Type 0 where
  pub whole_ones : AreWhole bytes whole
  pub short : length last ≤ piece_size
  pub content : joined_pieces bytes whole last ≡ all

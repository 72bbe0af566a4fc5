-- A content as the rows of its pieces: 65,536 bytes each, the last one perhaps shorter, none for the empty content.
use Rattle.std.specs.Prelude.{ℕ, ◌*◌, List, [], ◌∷◌, map, pos, take, drop}
use Rattle.std.specs.List.{range_with_len}
use Rattle.sqlite_value.specs.declared.value.Value.TheVariants.{Int, Blob}
use Rattle.sqlite_value.specs.Order.{Row}
use Rattle.as2_mic.specs.Pieces.{piece_size, piece_count}

-- a piece of the content of the entry of that number; positions count from 0
pub record Piece : Type 0 where
  pub number : ℕ
  pub position : ℕ
  pub bytes : List ℕ

-- the bytes of the piece at a position
abbrev pub piece_bytes : List ℕ → ℕ → List ℕ
piece_bytes content position = take piece_size (drop (position * piece_size) content)

-- the piece at a position
abbrev pub piece_of : ℕ → List ℕ → ℕ → Piece
piece_of number content position = record { number = number; position = position; bytes = piece_bytes content position }

-- all pieces of the content of the entry of that number, in order
abbrev pub pieces : ℕ → List ℕ → List Piece
pieces number content = map (piece_of number content) (range_with_len 0 (piece_count content))

-- a piece as a query shows it: number, position, bytes
abbrev pub piece_shown : Piece → Row
piece_shown p = Int (pos p.number) ∷ Int (pos p.position) ∷ Blob p.bytes ∷ []

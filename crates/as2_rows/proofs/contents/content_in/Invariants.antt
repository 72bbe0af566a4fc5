use Rattle.std.proofs.Common.{◌≡◌, ℕ, ◌*◌, List, map, take}
use Rattle.as2_mic.specs.Pieces.{piece_size}
use Rattle.as2_rows.specs.Contents.{pieces, piece_shown}
use Rattle.as2_rows.proofs.Joining.{Joined}
use Rattle.as2_rows.proofs.contents.content_in.Given as goal

-- the pieces so far are those of what was joined, and the front of each content that the rows show
abbrev pub invariant-rows : goal.invariant-rows
invariant-rows l = Joined l.rows l.number l.size l.content l.row-index
    × ((n : ℕ) (c : List ℕ) → l.rows ≡ map piece_shown (pieces n c) → l.content ≡ take (l.row-index * piece_size) c)

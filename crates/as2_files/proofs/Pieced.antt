-- A content is written piece by piece.
use Rattle.std.proofs.Common.{◌≡◌, ℕ, ◌+◌, List, ◌++◌, Option, Some, subst}
use Rattle.std.specs.Io.KnownBytes.{Appends}
use Rattle.std.proofs.KnownBytes.{Appends-trans}
use Rattle.as2_mic.specs.Pieces.{piece_at}
use Rattle.as2_mic.proofs.Fronts.{front, piece_more}

-- one more piece is written
pub piece_written : (i : ℕ) (content piece : List ℕ) (before mid after : Option (List ℕ)) → piece_at content i ≡ Some piece
    → Appends before mid (front i content) → Appends mid after piece
    → Appends before after (front (i + 1) content)
piece_written i content piece before mid after is so_far more =
    subst (λ (l : List ℕ). Appends before after l) (piece_more i content piece is) (Appends-trans before mid after (front i content) piece so_far more)

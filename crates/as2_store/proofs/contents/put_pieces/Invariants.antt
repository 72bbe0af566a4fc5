use Rattle.std.proofs.Common.{◌≡◌, ◌<◌, ◌+◌, ◌-◌, ◌*◌, length}
use Rattle.sqlite.specs.Held.{state}
use Rattle.sqlite.specs.State.{HasCleanDisk}
use Rattle.as2_store.specs.Calls.{IsInside}
use Rattle.as2_mic.specs.Pieces.{piece_size}
use Rattle.as2_store.specs.Tables.{Way, store_schema}
use Rattle.as2_store.specs.Adding.{AppendsPieces, piece_tree}
use Rattle.as2_store.proofs.AddedPieces.{pieces_before}
use Rattle.as2_store.proofs.contents.put_pieces.Given as goal

abbrev pub invariant-pieces : goal.invariant-pieces
invariant-pieces g l =
    let old = state g.S.Store l.fn.tx.conn.now in
    let now = state g.S.Store l.tx.conn.now in
    (l.tx.conn.ghost_name ≡ l.fn.tx.conn.ghost_name)
    × (l.i * piece_size < length l.content + piece_size)
    × (l.tx.at ≡ l.fn.tx.at)
    × IsInside (l.fn.tx.at + 1) old now
    × (HasCleanDisk now → (way : Way) → old.now.schema ≡ store_schema way
    → AppendsPieces way old now (piece_tree way l.mailbox) (pieces_before l.number l.content l.i))

abbrev pub decreases-pieces : goal.decreases-pieces
decreases-pieces g l = length l.content + piece_size - l.i * piece_size

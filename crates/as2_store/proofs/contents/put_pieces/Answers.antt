use Rattle.std.proofs.Common.{◌≡◌, ◌∙◌, ◌+◌, sym, ap, subst, arith, Some, option_map, [], ◌∷◌}
use Rattle.sqlite.specs.Held.{state}
use Rattle.as2_mic.specs.Pieces.{piece_at}
use Rattle.as2_rows.specs.Contents.{Piece}
use Rattle.as2_store.specs.Adding.{AppendsPieces, piece_tree}
use Rattle.as2_store.specs.Calls.{IsInside}
use Rattle.as2_store.proofs.Committing.{inside_then}
use Rattle.as2_store.proofs.AddedPieces.{some_piece, pieces_before, appended_then, one_before}
use Rattle.as2_store.proofs.contents.put_pieces.Goals as goal

pub pieces-preserved : goal.pieces-preserved
pieces-preserved g c =
    let old = state g.S.Store c.args.tx.now.conn.now in
    let mid = state g.S.Store c.pieces.tx.conn.now in
    let new = state g.S.Store c.put_piece.new.tx.conn.now in
    let so_far = c.pieces.invariant in
    let content = c.args.content.now in
    let i = c.pieces.i in
    let p : Piece = record { number = c.args.number; position = i; bytes = c.in-Some.piece.now } in
    let found : piece_at content i ≡ Some c.in-Some.piece.now = sym c.piece.ensures ∙ ap (option_map (λ b. b.now)) c.in-Some.is in
    let it = some_piece content i c.in-Some.piece.now found in (
      c.put_piece.ensures.same_reference ∙ so_far.0,
      omega (arith, it.0),
      c.put_piece.ensures.place ∙ so_far.2,
      inside_then old mid new so_far.3 (subst (λ at. IsInside (at + 1) mid new) so_far.2 c.put_piece.ensures.within),
      λ clean way has.
          let before = so_far.4 (c.put_piece.ensures.within.clean clean) way has in
          subst (AppendsPieces way old new (piece_tree way c.args.mailbox)) (one_before c.args.number content i c.in-Some.piece.now it.1)
          (appended_then way old mid new (piece_tree way c.args.mailbox) (pieces_before c.args.number content i) (p ∷ []) before
          (c.in_ok-put_piece.ensures.put clean way before.schema_is)),
    )

pub returns-in_err-put_piece-clause-within : goal.returns-in_err-put_piece-clause-within
returns-in_err-put_piece-clause-within g c =
    let mid = state g.S.Store c.pieces.tx.conn.now in
    let new = state g.S.Store c.put_piece.new.tx.conn.now in
    inside_then (state g.S.Store c.args.tx.now.conn.now) mid new c.pieces.invariant.3
    (subst (λ at. IsInside (at + 1) mid new) c.pieces.invariant.2 c.put_piece.ensures.within)

use Rattle.std.proofs.Common.{◌≡◌, ◌∙◌, ◌++◌, Some, sym, ap, option_map}
use Rattle.as2_mic.specs.Pieces.{piece_at}
use Rattle.as2_mic.proofs.Fronts.{piece_more, piece_none}
use Rattle.as2_lists.proofs.copies.copy_pieces.Goals.{in-Some+in_ok-append, in_default}
use Rattle.as2_lists.proofs.copies.copy_pieces.Goals as goal

pub loop-i-preserved : goal.loop-i-preserved
loop-i-preserved c = elim c.match-piece.branch [
  | in-Some+in_ok-append w ↦
      let found : piece_at c.args.content.now c.loop-i.i ≡ Some w.in-Some.piece.now = sym c.piece.ensures ∙ ap (option_map (λ b. b.now)) w.in-Some.is in
      w.copy-is ∙ w.in_ok-append.ensures.ok ∙ ap (λ l. l ++ w.in-Some.piece.now) c.loop-i.invariant
      ∙ piece_more c.loop-i.i c.args.content.now w.in-Some.piece.now found
  | in_default w ↦ w.copy-is ∙ c.loop-i.invariant
      ∙ piece_none c.loop-i.i c.args.content.now (sym c.piece.ensures ∙ ap (option_map (λ b. b.now)) w.in_default.is)
]

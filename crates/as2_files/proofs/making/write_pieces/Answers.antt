use Rattle.std.proofs.Common.{◌≡◌, ◌∙◌, ◌+◌, ℕ, List, Some, None, sym, ap, subst, option_map}
use Rattle.std.specs.Io.KnownBytes.{Appends}
use Rattle.as2_mic.specs.Pieces.{piece_at}
use Rattle.as2_mic.proofs.Fronts.{front, piece_none}
use Rattle.as2_files.proofs.Pieced.{piece_written}
use Rattle.as2_files.proofs.making.write_pieces.Goals.{in-Some+in_ok-write_all, in_default}
use Rattle.as2_files.proofs.making.write_pieces.Goals as goal

pub loop-i-preserved : goal.loop-i-preserved
loop-i-preserved g c =
    let before = g.W.Write.contents c.args.to.now in
    let content = c.args.content.now in
    elim c.match-piece.branch [
      | in-Some+in_ok-write_all w ↦
          let found : piece_at content c.loop-i.i ≡ Some w.in-Some.piece.now = sym c.piece.ensures ∙ ap (option_map (λ b. b.now)) w.in-Some.is in
          subst (λ (t : g.row.W.Denot). Appends before (g.W.Write.contents t) (front (c.loop-i.i + 1) content)) (sym w.to-is)
          (piece_written c.loop-i.i content w.in-Some.piece.now before (g.W.Write.contents c.loop-i.to)
          (g.W.Write.contents w.write_all.new.self) found c.loop-i.invariant w.in_ok-write_all.ensures.bytes)
      | in_default w ↦
          let none : piece_at content c.loop-i.i ≡ None = sym c.piece.ensures ∙ ap (option_map (λ b. b.now)) w.in_default.is in
          subst (λ (t : g.row.W.Denot). Appends before (g.W.Write.contents t) (front (c.loop-i.i + 1) content)) (sym w.to-is)
          (subst (λ (l : List ℕ). Appends before (g.W.Write.contents c.loop-i.to) l) (piece_none c.loop-i.i content none) c.loop-i.invariant)
    ]

use Rattle.std.specs.Io.KnownBytes.{Appends}
use Rattle.as2_mic.proofs.Fronts.{front}
use Rattle.as2_files.proofs.making.write_pieces.Given as goal

abbrev pub invariant-loop-i : goal.invariant-loop-i
invariant-loop-i g l = Appends (g.W.Write.contents l.fn.to) (g.W.Write.contents l.to) (front l.i l.content)

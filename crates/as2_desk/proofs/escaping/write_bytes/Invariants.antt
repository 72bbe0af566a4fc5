use Rattle.std.proofs.Common.{take}
use Rattle.std.specs.Io.KnownBytes.{Appends}
use Rattle.as2_desk.specs.Escapes.{escaped_text}
use Rattle.as2_desk.proofs.escaping.write_bytes.Given as goal

abbrev pub invariant-loop-byte : goal.invariant-loop-byte
invariant-loop-byte g l = Appends (g.E.Write.contents l.fn.errors) (g.E.Write.contents l.errors) (escaped_text (take l.byte-index l.bytes))

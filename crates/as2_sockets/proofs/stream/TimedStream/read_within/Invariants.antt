use Rattle.std.specs.Io.KnownBytes.{Keeps}
use Rattle.as2_sockets.proofs.stream.TimedStream.read_within.Given as goal

abbrev pub invariant-loop : goal.invariant-loop
invariant-loop g l = Keeps (g.S.Read.remaining l.fn.self.stream) (g.S.Read.remaining l.self.stream)

use Rattle.std.proofs.Common.{◌≡◌, length}
use Rattle.as2_http.proofs.Pushing.{Pushed}
use Rattle.as2_http.proofs.sending.push_all.Given as goal

abbrev pub invariant-loop-rest : goal.invariant-loop-rest
invariant-loop-rest g l = Pushed (g.W.Sink.written l.fn.sink) (g.W.Sink.written l.sink) l.bytes l.rest × (g.W.Sink.failed l.sink ≡ g.W.Sink.failed l.fn.sink)

abbrev pub decreases-loop-rest : goal.decreases-loop-rest
decreases-loop-rest g l = length l.rest

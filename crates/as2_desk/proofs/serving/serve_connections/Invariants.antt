use Rattle.std.proofs.Common.{◌≡◌}
use Rattle.as2_desk.proofs.Connecting.{HasServed}
use Rattle.as2_desk.proofs.serving.serve_connections.Given as goal

abbrev pub invariant-loop-served : goal.invariant-loop-served
invariant-loop-served g l = (l.console.input ≡ l.fn.console.input) × (l.console.errors ≡ l.fn.console.errors)
    × HasServed g.L.Listens.ended l.fn.serving.moment l.fn.terms.agreements.now g.W.Sink l.served (g.K.Records.shows l.fn.station) (g.K.Records.shows l.station)
    l.fn.listener l.listener l.fn.console.output l.console.output

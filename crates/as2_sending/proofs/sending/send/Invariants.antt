use Rattle.std.proofs.Common.{◌≡◌, true}
use Rattle.std.specs.Io.KnownBytes.{Appends}
use Rattle.as2_exchange.specs.State.{State}
use Rattle.as2_sending.specs.Exchanges.{Exchanges}
use Rattle.as2_sending.proofs.Turning.{SentSoFar}
use Rattle.as2_sending.proofs.sending.send.Given as goal

abbrev pub invariant-loop : goal.invariant-loop
invariant-loop g l =
    ((g.K.Records.shows l.station).IsClean → (g.K.Records.shows l.fn.station).IsClean)
    × ((g.K.Records.shows l.station).IsClean → (s : State) → (g.K.Records.shows l.fn.station).Rests s
    → SentSoFar l.agreements l.moment s (g.K.Records.shows l.station) (g.W.Sink.written l.fn.output) (g.W.Sink.written l.output)
    (λ text made. (l.told ≡ true → Appends (g.E.Write.contents l.fn.hints) (g.E.Write.contents l.hints) text)
    × Exchanges g.L.Links.answers l.fn.links made l.links))
    × (g.W.Sink.failed l.output ≡ g.W.Sink.failed l.fn.output)

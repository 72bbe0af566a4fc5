use Rattle.std.proofs.Common.{◌≡◌, ◌+◌, ℕ, List, Some, vec_len}
use Rattle.as2_exchange.specs.State.{State}
use Rattle.as2_http.specs.Notes.{sink_and_journal}
use Rattle.as2_messages.specs.Parsing.{HasTaken}
use Rattle.as2_http.specs.InputReads.{read_limit}
use Rattle.as2_http.specs.StreamReads.{BetweenReads}
use Rattle.as2_http.proofs.Serving.{TakenSoFar}
use Rattle.as2_http.proofs.stream.serve_stream.Given as goal

abbrev pub invariant-loop : goal.invariant-loop
invariant-loop g l =
    ((g.K.Records.shows l.station).IsClean → (g.K.Records.shows l.fn.station).IsClean)
    × (vec_len l.buffer ≡ read_limit)
    × (g.R.Source.calls l.source ≡ g.R.Source.calls l.fn.source + l.counter)
    × (g.R.Source.failed l.source ≡ g.R.Source.failed l.fn.source)
    × (g.W.Sink.failed l.sink ≡ g.W.Sink.failed l.fn.sink)
    × ((held : List ℕ) × HasTaken l.parser held)
    × ((g.K.Records.shows l.station).IsClean → (s : State) → (g.K.Records.shows l.fn.station).Rests s → (input : List ℕ)
    → g.R.Source.left l.fn.source ≡ Some input
    → BetweenReads l.agreements l.moment s input l.parser (g.K.Records.shows l.station) (g.R.Source.left l.source)
    (sink_and_journal (g.W.Sink.written l.fn.sink) (g.J.Journal.noted l.fn.journal))
    (sink_and_journal (g.W.Sink.written l.sink) (g.J.Journal.noted l.journal)) (g.R.Source.calls l.fn.source) (g.R.Source.calls l.source))
    × ((g.K.Records.shows l.station).IsClean → (s : State) → (g.K.Records.shows l.fn.station).Rests s
    → TakenSoFar l.agreements l.moment s (g.K.Records.shows l.station))

use Rattle.std.proofs.Common.{◌≡◌, ℕ, List, ◌++◌, length}
use Rattle.as2_exchange.specs.State.{State}
use Rattle.as2_http.specs.Notes.{sink_and_journal}
use Rattle.as2_messages.specs.Parsing.{HasTaken}
use Rattle.as2_http.proofs.Streaming.{Proceeds}
use Rattle.as2_http.proofs.stream.answer_piece.Given as goal

abbrev pub invariant-loop-rest : goal.invariant-loop-rest
invariant-loop-rest g l =
    ((g.K.Records.shows l.station).IsClean → (g.K.Records.shows l.fn.station).IsClean)
    × (g.W.Sink.failed l.sink ≡ g.W.Sink.failed l.fn.sink)
    × ((held : List ℕ) × HasTaken l.parser held)
    × ((g.K.Records.shows l.station).IsClean → (s : State) → (g.K.Records.shows l.fn.station).Rests s → (held left : List ℕ) → HasTaken l.fn.parser held
    → Proceeds l.agreements l.moment s (held ++ l.piece ++ left) l.rest left l.parser (g.K.Records.shows l.station)
    (sink_and_journal (g.W.Sink.written l.fn.sink) (g.J.Journal.noted l.fn.journal))
    (sink_and_journal (g.W.Sink.written l.sink) (g.J.Journal.noted l.journal)))

abbrev pub decreases-loop-rest : goal.decreases-loop-rest
decreases-loop-rest g l = length l.rest

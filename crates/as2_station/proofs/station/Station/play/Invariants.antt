use Rattle.std.proofs.Common.{◌≡◌, ◌+◌, ◌≤◌, ◌++◌, length, vec_len, vec_capacity}
use Rattle.as2_station.specs.Traces.{TakesEvents}
use Rattle.as2_station.proofs.station.Station.play.Given as goal

abbrev pub invariant-events : goal.invariant-events
invariant-events g l =
    ((goal.iterator-events g).can_next l.event-iterator × (goal.iterator-events g).is_finite l.event-iterator)
    × (l.fn.events.items ≡ l.yielded ++ l.event-iterator.rest.items)
    × (length l.said.items ≡ length l.yielded)
    × (vec_len l.said + length l.event-iterator.rest.items ≤ vec_capacity l.said)
    × TakesEvents g.R.Records.shows l.agreements l.yielded l.said.items l.fn.self l.self

use Rattle.std.proofs.Common.{IsTrue, List}
use Rattle.as2_hub.specs.Calls.{DeskCall}
use Rattle.as2_hub.specs.Happenings.{Happenings}
use Rattle.as2_hub.specs.Places.{StandAmid, places}
use Rattle.as2_hub.proofs.Standing.{Halfway}
use Rattle.as2_hub.proofs.Waiting.{EndedBelow}
use Rattle.as2_hub.proofs.Within.{Lessened}
use Rattle.as2_hub.proofs.hub.Hub.settle_all.Given as goal

abbrev pub invariant-loop-at : goal.invariant-loop-at
invariant-loop-at l =
    (IsTrue l.fn.is_kept → (h : Happenings) (round : List DeskCall) → StandAmid (places l.fn.self) h round → Halfway l.at (places l.self) h round)
    × EndedBelow l.at l.fn.is_kept (places l.fn.self) (places l.self)
    × Lessened l.fn.self l.self

use Rattle.std.proofs.Common.{◌≡◌, take}
use Rattle.as2_hub.specs.Happenings.{Happenings}
use Rattle.as2_hub.specs.Promises.{PlaysInputs}
use Rattle.as2_hub.specs.Rounds.{scene}
use Rattle.as2_hub.proofs.hub.Hub.play.Given as goal

abbrev pub invariant-loop-input : goal.invariant-loop-input
invariant-loop-input g l = (l.taken ≡ l.input-index)
    × ((h : Happenings) × PlaysInputs g.D.Desk.conduct (take l.input-index l.inputs) (scene l.fn.desk l.fn.self) h (scene l.desk l.self))

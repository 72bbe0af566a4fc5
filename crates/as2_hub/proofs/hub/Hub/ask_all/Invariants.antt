use Rattle.std.proofs.Common.{drop}
use Rattle.as2_hub.specs.Rounds.{scene}
use Rattle.as2_hub.proofs.Asking.{Going}
use Rattle.as2_hub.proofs.hub.Hub.ask_all.Given as goal

abbrev pub invariant-loop-at : goal.invariant-loop-at
invariant-loop-at g l = Going g.D.Desk.conduct (scene l.fn.desk l.fn.self) (scene l.desk l.self) l.ready (drop l.at-index l.ready) l.left

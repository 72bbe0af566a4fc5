use Rattle.std.proofs.Common.{◌≡◌, ◌-◌, take}
use Rattle.std.specs.Prelude.{sum_by}
use Rattle.as2_hub.specs.Places.{place_unanswered}
use Rattle.as2_hub.proofs.hub.Hub.left.Given as goal

abbrev pub invariant-loop-talk : goal.invariant-loop-talk
invariant-loop-talk l = l.left ≡ l.fn.self.bounds.bytes_of_all - sum_by place_unanswered (take l.talk-index l.talk-items)

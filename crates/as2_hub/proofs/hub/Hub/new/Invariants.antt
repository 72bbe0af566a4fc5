use Rattle.std.proofs.Common.{◌≡◌, None, replicate}
use Rattle.as2_hub.proofs.hub.Hub.new.Given as goal

abbrev pub invariant-loop : goal.invariant-loop
invariant-loop l = l.talks.items ≡ replicate l.counter None

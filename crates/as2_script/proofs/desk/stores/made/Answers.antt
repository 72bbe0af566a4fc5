use Rattle.std.proofs.Common.{ℕ, subst}
use Rattle.sqlite.specs.Held.{state}
use Rattle.sqlite.specs.Steps.{over_memory}
use Rattle.as2_store.specs.Calls.{empty_store}
use Rattle.as2_store.specs.Stands.{Rests}
use Rattle.as2_script.proofs.desk.stores.made.Goals as goal

pub returns-in-Ok-clause-fresh : goal.returns-in-Ok-clause-fresh
returns-in-Ok-clause-fresh c = subst (λ (n : ℕ). Rests (state over_memory c.in-Ok.records) (empty_store n)) c.get.ensures.value c.in-Ok.ensures.fresh

use Rattle.std.proofs.Common.{◌≡◌, Some, sym, subst}
use Rattle.sqlite.proofs.Callers.{memory_is_clean}
use Rattle.sqlite.specs.Held.{state}
use Rattle.sqlite.specs.Steps.{over_memory}
use Rattle.as2_exchange.specs.State.{State}
use Rattle.as2_store.specs.Calls.{empty_store}
use Rattle.as2_store.specs.Stands.{Rests}
use Rattle.as2_kept.proofs.opening.in_memory.Goals as goal

some_is : (s t : State) → Some s ≡ Some t → s ≡ t
some_is s t e = cc

-- what was opened has no tables
pub returns-in-Ok-create-clause-fresh : goal.returns-in-Ok-create-clause-fresh
returns-in-Ok-create-clause-fresh c =
    let is = c.in-Ok.ensures.empty in
    let records = c.in-Ok-create.records in
    let reached = c.in-Ok-create.ensures.created.done (memory_is_clean records)
    (record { autocommit = is.0.autocommit; no_table = λ _. is.2; committed = λ _. sym is.0.clean }) in
    subst (λ (s : State). Rests (state over_memory records) s) (sym (some_is (empty_store c.args.first) reached.state reached.is)) reached.rests

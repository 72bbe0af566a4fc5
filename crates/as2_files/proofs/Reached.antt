-- The state that a call of the store reaches, and new stores in memory.
use Rattle.std.proofs.Common.{◌≡◌, ℕ, Some, Result, Ok, Err, IfErr, IfOk, IsTrue, sym, subst}
use Rattle.sqlite.proofs.Callers.{memory_is_clean}
use Rattle.sqlite.specs.Held.{Held, state}
use Rattle.sqlite.specs.Steps.{over_memory}
use Rattle.sqlite_trees.specs.declared.memory.MemStore.{MemStore}
use Rattle.sqlite.specs.State.{State as Connected}
use Rattle.as2_exchange.specs.State.{State}
use Rattle.as2_host.specs.Stores.{BeginsNew, MayCome}
use Rattle.as2_host.specs.declared.stores.OpenFault.{OpenFault}
use Rattle.as2_kept.specs.Instance.{tables_standing}
use Rattle.as2_store.specs.Calls.{ReachesTables, empty_store}
use Rattle.as2_store.specs.Stands.{Rests}

some_is : (s t : State) → Some s ≡ Some t → s ≡ t
some_is s t e = cc

pub reached : (c : Connected) (s : State) → ReachesTables c (Some s) → Rests c s
reached c s it = subst (λ (t : State). Rests c t) (sym (some_is s it.state it.is)) it.rests

pub begins_new : (first : ℕ) (r : Result (Held MemStore) OpenFault) → IfOk r (λ c. IsTrue (state over_memory c).is_open)
    → IfOk r (λ c. Rests (state over_memory c) (empty_store first)) → IfErr r MayCome
    → BeginsNew (λ (c : Held MemStore). tables_standing (state over_memory c)) first r
begins_new first (Ok c) is_open fresh fault = (memory_is_clean, is_open, fresh)
begins_new first (Err f) is_open fresh fault = fault

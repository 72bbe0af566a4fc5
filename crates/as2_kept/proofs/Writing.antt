-- Calls of the tables, as records tell them: alone, and within a round.
use Rattle.std.proofs.Common.{◌≡◌, ◌∙◌, ℕ, Bool, true, false, not, Option, Result, Ok, Err, IfOk, IsTrue, inl, inr, refl, sym, subst, true≢false}
use Rattle.sqlite.specs.State.{State as Connected, Survives as SurvivesTables}
use Rattle.as2_exchange.specs.State.{State}
use Rattle.as2_records.specs.Calls.{Commits, Survives, Writes}
use Rattle.as2_records.specs.Expiring.{TicksAs}
use Rattle.as2_store.specs.Calls.{CommitsTables, WritesTables}
use Rattle.as2_store.specs.Expiring.{TicksTablesAs}
use Rattle.as2_store.specs.Rounds.{WritesBy}
use Rattle.as2_kept.specs.Instance.{tables_standing, tables}
use Rattle.as2_kept.specs.Round.{standing_in_round}

-- what a stop leaves of tables it leaves of records
survives_of : (next : State → Option State) (old new : Connected) → SurvivesTables old new (CommitsTables next old)
    → Survives {M = tables} (tables_standing old) (tables_standing new) (Commits next (tables_standing old))
survives_of next old new it = record {
  counts = it.counts;
  closes = it.closes;
  shield = it.shield;
  crash = λ clean left may. elim (it.crash clean left may) [
    | inl before ↦ inl before
    | inr more ↦ inr (record {
      was_open = more.was_open;
      stands = λ s rests. let to = more.stands s rests in record { state = to.state; is = to.is; keeps = to.keeps };
    })
  ];
}

-- a write of tables is one of records
write_of : {A E : Type 0} (next : State → Option State) (old new : Connected) (r : Result A E) → WritesTables next old new r
    → Writes {M = tables} next (tables_standing old) (tables_standing new) r
write_of next old new (Ok a) it = record {
  clean = it.clean;
  was_open = it.was_open;
  is_open = it.is_open;
  done = λ clean s rests. let to = it.done clean s rests in record { state = to.state; is = to.is; rests = to.rests };
  failed = it.failed;
  crash = survives_of next old new it.crash;
}
write_of next old new (Err e) it = record {
  clean = it.clean;
  was_open = it.was_open;
  is_open = it.is_open;
  done = it.done;
  failed = it.failed;
  crash = survives_of next old new it.crash;
}

-- ---- alone, seen from where the records are

-- no transaction is open behind the test
pub idle_if : (b on : Bool) → b ≡ true → b ≡ not on → on ≡ false
idle_if b true is alone = absurd (true≢false (sym is ∙ alone))
idle_if b false is alone = refl

pub write_alone : {A E : Type 0} (next : State → Option State) (inside outside new : Connected) (r : Result A E) → inside ≡ outside
    → inside.in_transaction ≡ false → WritesBy next inside new r → Writes {M = tables} next (tables_standing outside) (tables_standing new) r
write_alone next inside outside new r same idle it =
    subst (λ (c : Connected). Writes {M = tables} next (tables_standing c) (tables_standing new) r) same (write_of next inside new r (it.alone idle))

-- ---- within a round

pub write_held : {A E : Type 0} (failures : ℕ) → failures ≡ 0 → (next : State → Option State) (old new : Connected) (r : Result A E)
    → IsTrue old.in_transaction → WritesBy next old new r
    → Writes {M = tables} next (standing_in_round failures old) (standing_in_round failures new) r
write_held failures none next old new r on it =
    subst (λ (n : ℕ). Writes {M = tables} next (standing_in_round n old) (standing_in_round n new) r) (sym none) (write_of next _ _ r (it.within on))

-- ---- how many documents a moment gave up

pub ticked : {E : Type 0} (m : ℕ) (inside outside : Connected) (r : Result ℕ E) → inside ≡ outside → IfOk r (TicksTablesAs m inside)
    → IfOk r (TicksAs {M = tables} m (tables_standing outside))
ticked m inside outside (Ok count) same it = subst (λ (c : Connected). TicksAs {M = tables} m (tables_standing c) count) same (λ s rests. it s rests.stands)
ticked m inside outside (Err e) same it = tt

-- Time passes, as a step of the machine.
use Rattle.std.proofs.Common.{◌≡◌, ◌∙◌, inr, ℕ, Some, Result, Ok, Err, IfOk, IfErr, true, sym, ap}
use Rattle.as2_records.specs.Standing.{Medium, Standing}
use Rattle.as2_records.specs.Calls.{Survives}
use Rattle.as2_records.proofs.Following.{survives_weaker}
use Rattle.as2_exchange.specs.Documents.{tick}
use Rattle.as2_exchange.specs.State.{State}
use Rattle.as2_exchange.specs.declared.answer.Answer.{Answer}
use Rattle.as2_exchange.specs.declared.answer.Answer.TheVariants.{Ticked}
use Rattle.as2_exchange.specs.declared.fault.StoreFault.{StoreFault}
use Rattle.as2_records.specs.Calls.{Commits, Writes}
use Rattle.as2_records.specs.Expiring.{TicksAs, ticked_in}
use Rattle.as2_records.specs.Standing.{may_come}
use Rattle.as2_station.specs.Steps.{Does, MayLeave, always}
use Rattle.as2_station.proofs.Doing.{never_full}

module _ {M : Medium} (m : ℕ) (old new : Standing M) where
  leaves : Survives old new (Commits (ticked_in m) old) → Survives old new (MayLeave (λ s. Some (tick m s)) always old)
  leaves it = survives_weaker old new (Commits (ticked_in m) old) (MayLeave (λ s. Some (tick m s)) always old) (λ clean left may. record {
    was_open = may.was_open;
    stands = λ s rests known. inr (may.stands s rests);
  }) it

  pub ticks : (count : ℕ) → Writes {A = ℕ} {E = StoreFault} (ticked_in m) old new (Ok count) → (new.IsClean → TicksAs m old count)
      → Does (λ s. Some (tick m s)) always (true ≡ true) Ticked old new (Ok count)
  ticks count it counted = record {
    clean = it.clean;
    is_open = λ clean _. it.is_open clean;
    answered = λ clean s rests known.
        let to = it.done clean s rests in
        let left : (tick m s).1 ≡ to.state = (let i = to.is in cc) in
        record {
          next = to.state;
          step = ap Some (ap (λ (a : Answer). (a, (tick m s).1)) (sym (counted clean s rests)) ∙ ap (λ (t : State). (Ticked count, t)) left);
          rests = to.rests;
        };
    failed = λ clean. tt;
    fault = tt;
    crash = leaves it.crash;
  }

  pub fails_to_tick : (f : StoreFault) → may_come f ≡ true → Writes {A = ℕ} {E = StoreFault} (ticked_in m) old new (Err f)
      → Does (λ s. Some (tick m s)) always (true ≡ true) Ticked old new (Err f)
  fails_to_tick f may it = record {
    clean = it.clean;
    is_open = λ clean. tt;
    answered = λ clean. tt;
    failed = λ clean s rests known. (it.failed clean s rests, never_full f may);
    fault = inr may;
    crash = leaves it.crash;
  }

  pub ticked : (r : Result ℕ StoreFault) → Writes (ticked_in m) old new r → IfErr r (λ f. may_come f ≡ true) → (new.IsClean → IfOk r (TicksAs m old))
      → Does (λ s. Some (tick m s)) always (true ≡ true) Ticked old new r
  ticked (Ok count) it may counted = ticks count it counted
  ticked (Err f) it may counted = fails_to_tick f may it

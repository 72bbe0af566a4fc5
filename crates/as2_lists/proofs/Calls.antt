-- What calls that succeed say of lists.
use Rattle.std.proofs.Common.{◌≡◌, inl, Some, Option, Ok, refl, sym, ap, ◌∙◌, subst, arith}
use Rattle.as2_exchange.specs.State.{State, known_digests}
use Rattle.as2_records.specs.Standing.{IsCounted}
use Rattle.as2_records.specs.Calls.{Reads, Survives, Writes}
use Rattle.as2_lists.specs.Standing.{memory, lists_standing}

-- lists never fail, and nothing of them is left
stays_open : (s t : State) (P : ⊥ → Type 0) → Survives {M = memory} (lists_standing s) (lists_standing t) P
stays_open s t P = record { counts = omega arith; closes = λ clean opened. inl refl; shield = λ is. is; crash = λ clean left may. absurd may }

pub reads_ok : {A E : Type 0} (fits : State → A → Type 0) (s : State) (a : A) → (IsCounted s → fits s a)
    → Reads {M = memory} {A = A} {E = E} fits (lists_standing s) (lists_standing s) (Ok a)
reads_ok fits s a fit = record {
  clean = λ clean. clean;
  was_open = λ clean. refl;
  is_open = λ clean. refl;
  answer = λ clean t rests. subst (λ u. fits u a) (sym rests.same) (fit (subst IsCounted rests.same rests.counted));
  same = λ clean t rests. rests;
  crash = stays_open s s _;
}

-- what a state is taken to, and that this is counted
pub record Takes (next : State → Option State) (s t : State) : Type 0 where
  pub is : next s ≡ Some t
  pub counted : IsCounted t
  pub version : t.version ≡ s.version

pub writes_ok : {A E : Type 0} (next : State → Option State) (s t : State) (a : A) → (IsCounted s → Takes next s t)
    → Writes {M = memory} {A = A} {E = E} next (lists_standing s) (lists_standing t) (Ok a)
writes_ok next s t a takes = record {
  clean = λ clean. clean;
  was_open = λ clean. refl;
  is_open = λ clean. refl;
  done = λ clean u rests.
      let it : Takes next s t = takes (subst IsCounted rests.same rests.counted) in
      record {
        state = t;
        is = subst (λ v. next v ≡ Some t) (sym rests.same) it.is;
        rests = record {
          same = λ i. t;
          knows = ap known_digests (it.version ∙ ap (λ (v : State). v.version) (sym rests.same))
              ∙ rests.knows;
          counted = it.counted;
        };
      };
  failed = λ clean. tt;
  crash = stays_open s t _;
}

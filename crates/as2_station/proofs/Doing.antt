-- What calls of the store make of the machine, one after the other.
use Rattle.std.proofs.Common.{◌≡◌, ◌⊎◌, inl, inr, Option, option_map, Some, None, Result, Ok, Err, IsErr, IsErrAnd, IsTrue, true, refl, sym, subst}
use Rattle.std.proofs.lemmas.Result.{IfErr-weaker, IfOk-weaker}
use Rattle.as2_records.specs.Standing.{Medium, Standing}
use Rattle.as2_records.specs.Calls.{Survives}
use Rattle.as2_records.proofs.Following.{survives_then, survives_weaker}
use Rattle.as2_exchange.specs.Invariants.{IsCounter}
use Rattle.as2_exchange.specs.State.{AllDigests, Digests, State, known_digests}
use Rattle.as2_exchange.specs.declared.answer.Answer.{Answer}
use Rattle.as2_exchange.specs.declared.fault.StoreFault.{StoreFault}
use Rattle.as2_exchange.specs.declared.fault.StoreFault.TheVariants.{Full}
use Rattle.as2_records.specs.Standing.{IsCounted, may_come}
use Rattle.as2_records.specs.Calls.{Commits, KeepsNext, Reads, Writes}
use Rattle.as2_records.proofs.Following.{survives_same}
use Rattle.as2_station.specs.Steps.{Does, LeavesAnswered, Machine, MayLeave}

next_kept : (M : Medium) (left : M.Remains) (s : State) → KeepsNext M left (Some s) → M.keeps left s
next_kept M left s it = subst (M.keeps left) (let same : it.state ≡ s = (let i = it.is in cc) in same) it.keeps

pub never_full : {X : Type 0} (f : StoreFault) → may_come f ≡ true → f ≡ Full → X
never_full f may full = absurd (let no = subst (λ g. may_come g ≡ true) full may in cc)

-- what another machine does that answers and leaves the same wherever that is asked, over an open connection
pub as_machine : {M : Medium} {A : Type 0} (machine other : Machine) (given known : State → Type 0) (asks : Type 0) (told : A
    → Answer) (old new : Standing M) (r : Result A StoreFault) → (old.IsClean → IsTrue old.is_open)
    → ((s : State) → IsCounted s → given s → known s × (other s ≡ machine s)) → Does other known asks told old new r → Does machine given asks told old new r
as_machine {M = M} machine other given known asks told old new r opened same it = record {
  clean = it.clean;
  is_open = it.is_open;
  answered = λ clean. IfOk-weaker r _ _
      (λ a left s rests is. let to = same s (old.counted (opened (it.clean clean)) s rests) is in subst
      (λ came. LeavesAnswered new came (told a)) to.1 (left s rests to.0)) (it.answered clean);
  failed = λ clean. IfErr-weaker r _ _
      (λ f left s rests is. let to = same s (old.counted (opened (it.clean clean)) s rests) is in subst
      (λ came. new.Rests s × (f ≡ Full → came ≡ None)) to.1 (left s rests to.0)) (it.failed clean);
  fault = it.fault;
  crash = survives_weaker old new (MayLeave other known old) (MayLeave machine given old) (λ clean left may. record {
    was_open = may.was_open;
    stands = λ s rests is. let to =
        same s (old.counted may.was_open s rests) is in subst
        (λ came. M.keeps left s ⊎ KeepsNext M left (option_map (λ (x : Answer × State). x.1) came)) to.1 (may.stands s rests to.0);
  }) it.crash;
}

-- where each digest is known, what a machine does that knows them is what it does by the digests of its state
pub by_state : {M : Medium} {A : Type 0} (machine : Digests → Machine) (given : State → Type 0) (asks : Type 0) (told : A
    → Answer) (old new : Standing M) (r : Result A StoreFault)
    → Does (machine AllDigests) given asks told old new r → Does (λ s. machine (known_digests s.version) s) given asks told old new r
by_state {M = M} machine given asks told old new r it = record {
  clean = it.clean;
  is_open = it.is_open;
  answered = λ clean. IfOk-weaker r _ _
      (λ a left s rests is. subst (λ k. LeavesAnswered new (machine k s) (told a)) (sym (old.knows s rests)) (left s rests is)) (it.answered clean);
  failed = λ clean. IfErr-weaker r _ _
      (λ f left s rests is. subst (λ k. new.Rests s × (f ≡ Full → machine k s ≡ None)) (sym (old.knows s rests)) (left s rests is)) (it.failed clean);
  fault = it.fault;
  crash = survives_weaker old new (MayLeave (machine AllDigests) given old) (MayLeave (λ s. machine (known_digests s.version) s) given old)
      (λ clean left may. record {
        was_open = may.was_open;
        stands = λ s rests is. subst (λ k. M.keeps left s ⊎ KeepsNext M left (option_map (λ (x : Answer × State). x.1) (machine k s)))
            (sym (old.knows s rests)) (may.stands s rests is);
      }) it.crash;
}

-- what a write commits is what the machine leaves with this answer
abbrev pub IsStep : Machine → (State → Type 0) → (State → Option State) → Answer → Type 0
IsStep machine given wrote answer = (s t : State) → IsCounted s → given s → wrote s ≡ Some t → IsCounter t.next_in × IsCounter t.next_out
    → machine s ≡ Some (answer, t)

module _ {M : Medium} {A : Type 0} (machine : Machine) (given : State → Type 0) (asks : Type 0) (told : A → Answer) where
  -- an answer that nothing of the store is read or written for
  pub at_once : (c : Standing M) (a : A) → (c.IsClean → asks → IsTrue c.is_open)
      → (c.IsClean → (s : State) → c.Rests s → given s → machine s ≡ Some (told a, s)) → Does machine given asks told c c (Ok a)
  at_once c a opened is = record {
    clean = λ clean. clean;
    is_open = opened;
    answered = λ clean s rests known. record { next = s; step = is clean s rests known; rests = rests };
    failed = λ clean. tt;
    fault = tt;
    crash = survives_same c (MayLeave machine given c);
  }

  -- the same over open records, whose entries are counted
  pub over_open : (c : Standing M) (a : A) → (c.IsClean → IsTrue c.is_open) → (c.IsClean → (s : State) → IsCounted s → given s → machine s ≡ Some (told a, s))
      → Does machine given asks told c c (Ok a)
  over_open c a opened is = at_once c a (λ clean asks. opened clean) (λ clean s rests known. is clean s (c.counted (opened clean) s rests) known)

  -- a fault before anything is read or written
  pub failing : (c : Standing M) (f : StoreFault) → may_come f ≡ true → Does machine given asks told c c (Err f)
  failing c f may = record {
    clean = λ clean. clean;
    is_open = λ clean. tt;
    answered = λ clean. tt;
    failed = λ clean s rests known. (rests, never_full f may);
    fault = inr may;
    crash = survives_same c (MayLeave machine given c);
  }

  -- the fault of a call, passed on
  pub passed_on : (old new : Standing M) (r : Result A StoreFault) (f : StoreFault) → IsErr r → IsErrAnd r (λ e. e ≡ f)
      → Does machine given asks told old new (Err f) → Does machine given asks told old new r
  passed_on old new (Ok a) f fails is it = absurd cc
  passed_on old new (Err e) f fails is it = subst (λ f. Does machine given asks told old new (Err f)) (sym is) it

  -- a read that fails
  pub unread : {B : Type 0} (fits : State → B → Type 0) (old new : Standing M) (f : StoreFault) → Reads fits old new (Err f) → may_come f ≡ true
      → Does machine given asks told old new (Err f)
  unread fits old new f it may = record {
    clean = it.clean;
    is_open = λ clean. tt;
    answered = λ clean. tt;
    failed = λ clean s rests known. (it.same clean s rests, never_full f may);
    fault = inr may;
    crash = survives_weaker old new (Commits Some old) (MayLeave machine given old)
        (λ clean left is. record { was_open = is.was_open; stands = λ s rests known. inl (next_kept M left s (is.stands s rests)) }) it.crash;
  }

  -- what follows a read
  pub after_read : {B : Type 0} (fits : State → B → Type 0) (given_then : State → Type 0) (old mid new : Standing M) (b : B) (r : Result A StoreFault)
      → ((s : State) → given s → fits s b → given_then s) → Reads {A = B} {E = StoreFault} fits old mid (Ok b) → Does machine given_then asks told mid new r
      → Does machine given asks told old new r
  after_read fits given_then old mid new b r leads one two = record {
    clean = λ clean. one.clean (two.clean clean);
    is_open = two.is_open;
    answered = λ clean. IfOk-weaker r _ _
        (λ a left s rests known. left s (one.same (two.clean clean) s rests) (leads s known (one.answer (two.clean clean) s rests))) (two.answered clean);
    failed = λ clean. IfErr-weaker r _ _
        (λ f left s rests known. left s (one.same (two.clean clean) s rests) (leads s known (one.answer (two.clean clean) s rests))) (two.failed clean);
    fault = two.fault;
    crash = survives_then old mid new (Commits Some old) (MayLeave machine given_then mid) (MayLeave machine given old) two.clean
        (λ _ left is. record { was_open = is.was_open; stands = λ s rests known. inl (next_kept M left s (is.stands s rests)) })
        (λ clean left is.
        let was : mid.IsClean = two.clean clean in
        record { was_open = one.was_open was; stands = λ s rests known. is.stands s (one.same was s rests) (leads s known (one.answer was s rests)) })
        one.crash two.crash;
  }

  leaves : (wrote : State → Option State) (answer : Answer) (old new : Standing M) → IsStep machine given wrote answer → Survives old new (Commits wrote old)
      → Survives old new (MayLeave machine given old)
  leaves wrote answer old new is = survives_weaker old new (Commits wrote old) (MayLeave machine given old) (λ clean left may. record {
    was_open = may.was_open;
    stands = λ s rests known.
        let to = may.stands s rests in
        inr (record {
          state = to.state;
          is = rw (is s to.state (old.counted may.was_open s rests) known to.is
              (let stood = M.keeps_counted left to.state to.keeps in (stood.receipts.0, stood.documents.0))) refl;
          keeps = to.keeps;
        });
  })

  -- a write
  pub written : {U : Type 0} (wrote : State → Option State) (old new : Standing M) (u : U) (a : A) → IsStep machine given wrote (told a)
      → Writes {A = U} {E = StoreFault} wrote old new (Ok u) → Does machine given asks told old new (Ok a)
  written wrote old new u a is it = record {
    clean = it.clean;
    is_open = λ clean _. it.is_open clean;
    answered = λ clean s rests known.
        let to = it.done clean s rests in
        record {
          next = to.state;
          step = is s to.state (old.counted (it.was_open clean) s rests) known to.is
              (let stood = new.counted (it.is_open clean) to.state to.rests in (stood.receipts.0, stood.documents.0));
          rests = to.rests;
        };
    failed = λ clean. tt;
    fault = tt;
    crash = leaves wrote (told a) old new is it.crash;
  }

  -- a write that fails
  pub unwritten : {U : Type 0} (wrote : State → Option State) (old new : Standing M) (f : StoreFault) (answer : Answer) → IsStep machine given wrote answer
      → (f ≡ Full) ⊎ (may_come f ≡ true)
      → ((s : State) → given s → f ≡ Full → machine s ≡ None) → Writes {A = U} {E = StoreFault} wrote old new (Err f)
      → Does machine given asks told old new (Err f)
  unwritten wrote old new f answer is fault none it = record {
    clean = it.clean;
    is_open = λ clean. tt;
    answered = λ clean. tt;
    failed = λ clean s rests known. (it.failed clean s rests, none s known);
    fault = fault;
    crash = leaves wrote answer old new is it.crash;
  }

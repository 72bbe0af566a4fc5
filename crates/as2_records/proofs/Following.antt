-- How calls follow each other.
use Rattle.std.proofs.Common.{◌≡◌, inl, inr, Some, Result, Ok, Err, IfOk, OnOk, IsErr, IsTrue, subst, arith}
use Rattle.std.proofs.lemmas.Result.{IfOk-weaker}
use Rattle.as2_exchange.specs.State.{State}
use Rattle.as2_records.specs.Standing.{Medium, Standing, IsCounted}
use Rattle.as2_records.specs.Calls.{Reads, Survives, Commits}

-- ---- what a stop leaves

pub survives_same : {M : Medium} (c : Standing M) (P : M.Remains → Type 0) → Survives c c P
survives_same c P = record { counts = omega arith; closes = λ clean opened. inl opened; shield = λ is. is; crash = λ clean left may. inl may }

pub survives_weaker : {M : Medium} (a b : Standing M) (P R : M.Remains → Type 0) → (b.IsClean → (left : M.Remains) → P left → R left) → Survives a b P
    → Survives a b R
survives_weaker a b P R f one = record {
  counts = one.counts;
  closes = one.closes;
  shield = one.shield;
  crash = λ clean left h. elim (one.crash clean left h) [ inl first ↦ inl first | inr made ↦ inr (f clean left made) ];
}

pub survives_then : {M : Medium} (a b c : Standing M) (P Q R : M.Remains → Type 0) → (c.IsClean → b.IsClean)
    → (c.IsClean → (left : M.Remains) → P left → R left) → (c.IsClean → (left : M.Remains) → Q left → R left)
    → Survives a b P → Survives b c Q → Survives a c R
survives_then a b c P Q R was f g one two = record {
  counts = omega (arith, one.counts, two.counts);
  closes = λ clean opened. elim (one.closes (was clean) opened) [
    | inl still ↦ elim (two.closes clean still) [ inl last ↦ inl last | inr fault ↦ inr (omega (arith, one.counts, fault)) ]
    | inr fault ↦ inr (omega (arith, two.counts, fault))
  ];
  shield = λ h. two.shield (one.shield h);
  crash = λ clean left h. elim (two.crash clean left h) [
    | inl earlier ↦ elim (one.crash (was clean) left earlier) [ inl first ↦ inl first | inr made ↦ inr (f clean left made) ]
    | inr made ↦ inr (g clean left made)
  ];
}

-- ---- reads

-- what fits less than was shown
pub reads_less : {M : Medium} {A E : Type 0} (fits more : State → A → Type 0) (old new : Standing M) (r : Result A E)
    → ((s : State) (a : A) → old.Rests s → more s a → fits s a) → Reads more old new r → Reads fits old new r
reads_less fits more old new r less it = record {
  clean = it.clean;
  was_open = it.was_open;
  is_open = it.is_open;
  answer = λ clean. IfOk-weaker r _ _ (λ a all s rests. less s a rests (all s rests)) (it.answer clean);
  same = it.same;
  crash = it.crash;
}

-- what fits where the records stand so
pub reads_standing : {M : Medium} {A E : Type 0} (fits more : State → A → Type 0) (old new : Standing M) (r : Result A E)
    → ((s : State) (a : A) → IsCounted s → fits s a → more s a) → Reads fits old new r → Reads more old new r
reads_standing fits more old new (Ok a) then it = record {
  clean = it.clean;
  was_open = it.was_open;
  is_open = it.is_open;
  answer = λ clean s rests. then s a (old.counted (it.was_open clean) s rests) (it.answer clean s rests);
  same = it.same;
  crash = it.crash;
}
reads_standing fits more old new (Err e) then it =
    record { clean = it.clean; was_open = it.was_open; is_open = it.is_open; answer = it.answer; same = it.same; crash = it.crash }

-- ---- reads one after the other

-- what is made of an answer
pub read_ok : {M : Medium} {A B E F : Type 0} (fits : State → A → Type 0) (more : State → B → Type 0) (old new : Standing M) (a : A) (b : B)
    → ((s : State) → old.Rests s → fits s a → more s b) → Reads {A = A} {E = E} fits old new (Ok a) → Reads {A = B} {E = F} more old new (Ok b)
read_ok fits more old new a b then it = record {
  clean = it.clean;
  was_open = it.was_open;
  is_open = it.is_open;
  answer = λ clean s r. then s r (it.answer clean s r);
  same = it.same;
  crash = it.crash;
}

-- a read that fails, or whose answer is no answer
pub read_err : {M : Medium} {A B E F : Type 0} (fits : State → A → Type 0) (more : State → B → Type 0) (old new : Standing M) (r : Result A E) (f : F)
    → Reads fits old new r → Reads {A = B} {E = F} more old new (Err f)
read_err fits more old new r f it =
    record { clean = it.clean; was_open = λ clean. tt; is_open = λ clean. tt; answer = λ clean. tt; same = it.same; crash = it.crash }

-- what is read of an answer
pub read_if : {M : Medium} {A B D F : Type 0} (fits : State → A → Type 0) (more : State → B → Type 0) (old new : Standing M) (a : A) (r : Result B F) (P : B
    → Type 0)
    → IfOk r P → ((s : State) (b : B) → P b → fits s a → more s b) → Reads {A = A} {E = D} fits old new (Ok a) → Reads more old new r
read_if fits more old new a (Ok b) P is then it = read_ok fits more old new a b (λ s r found. then s b is found) it
read_if fits more old new a (Err e) P is then it = read_err fits more old new (Ok a) e it

two_reads : {M : Medium} (old mid new : Standing M) → (new.IsClean → mid.IsClean) → (mid.IsClean → IsTrue old.is_open)
    → (mid.IsClean → (s : State) → old.Rests s → mid.Rests s) → Survives old mid (Commits Some old) → Survives mid new (Commits Some mid)
    → Survives old new (Commits Some old)
two_reads old mid new was opened same one two =
    survives_then old mid new (Commits Some old) (Commits Some mid) (Commits Some old) was (λ _ left is. is)
    (λ clean left is. record { was_open = opened (was clean); stands = λ s r. is.stands s (same (was clean) s r) })
    one two

any_ok : {A E P : Type 0} (r : Result A E) → P → OnOk r P
any_ok (Ok a) is = is
any_ok (Err e) is = tt

later : {M : Medium} {A B F : Type 0} (fits : State → A → Type 0) (more : State → B → Type 0) (both : State → B
    → Type 0) (old mid : Standing M) {a : A} (r : Result B F) → ((s : State) (b : B) → old.Rests s → fits s a → more s b → both s b)
    → ((s : State) → old.Rests s → fits s a) → ((s : State) → old.Rests s → mid.Rests s) → IfOk r (λ b. (s : State) → mid.Rests s → more s b)
    → IfOk r (λ b. (s : State) → old.Rests s → both s b)
later fits more both old mid (Ok b) then first same told = λ s rests. then s b rests (first s rests) (told s (same s rests))
later fits more both old mid (Err f) then first same told = tt

-- a read, and then another, whatever that answers
pub read_then : {M : Medium} {A B E F : Type 0} (fits : State → A → Type 0) (more : State → B → Type 0) (both : State → B
    → Type 0) (old mid new : Standing M) (a : A) (r : Result B F)
    → ((s : State) (b : B) → old.Rests s → fits s a → more s b → both s b) → Reads {A = A} {E = E} fits old mid (Ok a) → Reads more mid new r
    → Reads both old new r
read_then fits more both old mid new a r then one two = record {
  clean = λ clean. one.clean (two.clean clean);
  was_open = λ clean. any_ok r (one.was_open (two.clean clean));
  is_open = two.is_open;
  answer = λ clean. later fits more both old mid r then (one.answer (two.clean clean)) (one.same (two.clean clean)) (two.answer clean);
  same = λ clean s r. two.same clean s (one.same (two.clean clean) s r);
  crash = two_reads old mid new two.clean one.was_open one.same one.crash two.crash;
}

-- seen from where the records are
pub read_of : {M : Medium} {A E : Type 0} (fits : State → A → Type 0) (inside outside new : Standing M) (r : Result A E) → inside ≡ outside
    → Reads fits inside new r → Reads fits outside new r
read_of fits inside outside new r same it = subst (λ c. Reads fits c new r) same it

-- a read that failed, by whatever result tells so
pub read_bad : {M : Medium} {A B E F : Type 0} (fits : State → A → Type 0) (more : State → B
    → Type 0) (old new : Standing M) (r : Result A E) (f : Result B F) → IsErr f → Reads fits old new r → Reads more old new f
read_bad fits more old new r (Ok b) err it = absurd cc
read_bad fits more old new r (Err f) err it = read_err fits more old new r f it

-- A query in a transaction of its own.
use Rattle.std.proofs.Common.{◌≡◌, ◌⊎◌, inl, inr, ap, ◌∙◌, ℕ, List, take, Some, Result, Ok, Err, IfOk, IfErr, OnOk, IsErr, IsErrAnd, IsTrue, MatchResult, true, false, true≢false, refl, sym, subst, arith}
use Rattle.std.proofs.lemmas.Result.{IfOk-weaker}
use Rattle.sqlite_trees.specs.Tree.{Trees}
use Rattle.sqlite.specs.Store.{Ghosts}
use Rattle.sqlite.specs.Held.{Held, state}
use Rattle.sqlite.specs.Order.{Row}
use Rattle.sqlite.specs.Effect.{Database}
use Rattle.sqlite.specs.Listing.{understood}
use Rattle.sqlite.specs.declared.error.Error.{Error}
use Rattle.sqlite.specs.State.{State as Connected, HasCleanDisk, Survives, KeepsCommit, IsRolledBack, Shown, FailsToQuery, IsTooLate}
use Rattle.sqlite.proofs.Callers.{IsPlain}
use Rattle.sql_tables.proofs.Inside.{Came, came_of, fails_to_query, shown_marks, shown_open, shown_same}
use Rattle.sql_tables.proofs.Asking.{shown_keeps, failed_keeps, shown_alike}
use Rattle.as2_exchange.specs.State.{State}
use Rattle.as2_store.specs.Tables.{Way, store_schema}
use Rattle.as2_store.specs.Stands.{Holds, Rests}
use Rattle.as2_store.specs.Calls.{IsInside, IsSettled, ReadsTables, WritesTables, CommitsTables}
use Rattle.as2_store.proofs.Committing.{FollowsEach, settled_by, survives_same}
use Rattle.sqlite.proofs.StateLemmas.{survives_then}

-- ---- the query inside

marks_of : (old new : Connected) → IsTrue new.in_transaction → Came old new → new.marks ≡ old.marks
marks_of old new on (inl same) = same.1
marks_of old new on (inr back) = absurd (true≢false (sym on ∙ back.autocommit))

settles : (old new : Connected) → IsTrue old.in_transaction → Came old new → IsSettled new
settles old new on (inl same) =
    record { unmarked = λ off. absurd (true≢false (sym on ∙ sym same.0 ∙ off)); committed = λ off opened. absurd (true≢false (sym on ∙ sym same.0 ∙ off)) }
settles old new on (inr back) = settled_by old new on (inr back)

pub queried_inside : {V : Type 0} {held : ℕ} (items : V → List Row) (sql : List ℕ) (params : Row) (old new : Connected) (r : Result V Error)
    → (HasCleanDisk new → IsTrue old.in_transaction) → (HasCleanDisk new → IfOk r (λ v. Shown sql params old new (items v)))
    → (HasCleanDisk new → IfErr r (λ e. FailsToQuery sql params old new e ⊎ IsTooLate sql params old new e)) → Survives old new (λ _. ⊥)
    → IsInside held old new
queried_inside {held = held} items sql params old new r inside ok err survives = record {
  clean = λ clean. omega (arith, survives.clean, clean);
  kept = λ clean. go r (inside clean) (ok clean) (err clean);
  begun = λ clean on. inside clean;
  marks = λ clean on long. ap (take held) (marks_of old new on (came clean));
  settled = λ clean was. settles old new (inside clean) (came clean);
  survives = survives;
}
  where
    go : (r : Result _ Error) → IsTrue old.in_transaction → IfOk r (λ v. Shown sql params old new (items v))
        → IfErr r (λ e. FailsToQuery sql params old new e ⊎ IsTooLate sql params old new e) → KeepsCommit old new
    go (Ok v) begun shown failed = shown_keeps sql params old new (items v) begun shown
    go (Err e) begun shown failed = failed_keeps sql params old new e failed

    said : (r : Result _ Error) → IfOk r (λ v. Shown sql params old new (items v))
        → IfErr r (λ e. FailsToQuery sql params old new e ⊎ IsTooLate sql params old new e)
        → Came old new
    said (Ok v) shown failed = shown_marks sql params old new (items v) shown
    said (Err e) shown (inl failed) = came_of old new (fails_to_query sql params old new e failed)
    said (Err e) shown (inr late) = came_of old new (inl late.5)

    came : HasCleanDisk new → Came old new
    came clean = said r (ok clean) (err clean)

-- the same of the first query of a transaction, over the connection as the transaction begins
pub queried_first : {S V : Type 0} (g : Ghosts S) (old tx : Held S) (items : V → List Row) (sql : List ℕ) (params : Row) (new : Connected) (r : Result V Error)
    → tx ≡ record old { in_transaction = true } → (HasCleanDisk new → IfOk r (λ v. Shown sql params (state g tx) new (items v)))
    → (HasCleanDisk new → IfErr r (λ e. FailsToQuery sql params (state g tx) new e ⊎ IsTooLate sql params (state g tx) new e))
    → Survives (state g tx) new (λ _. ⊥) → IsInside 0 (state g (record old { in_transaction = true })) new
queried_first {S = S} g old tx items sql params new r begun ok err survives =
    subst (λ (t : Held S). IsInside 0 (state g t) new) begun
    (queried_inside items sql params (state g tx) new r (λ clean. subst (λ (t : Held S). IsTrue t.in_transaction) (sym begun) refl) ok err survives)

-- ---- a query of the store's tables

-- a query of the store's tables leaves each state that they stood for
pub query_keeps : {S : Type 0} (g : Ghosts S) (old : Held S) (mid : Connected) (sql : List ℕ) (params : Row) (rows : List Row)
    → ((way : Way) → IsPlain (understood (store_schema way) sql))
    → (HasCleanDisk mid → Shown sql params (state g (record old { in_transaction = true })) mid rows)
    → HasCleanDisk mid → FollowsEach g old mid Some
query_keeps g old mid sql params rows plain shown clean =
    let begun = state g (record old { in_transaction = true }) in
    let opened = shown_open sql params begun mid rows (shown clean) in
    record {
      was_open = opened;
      reaches = λ s r.
          let stood = r.stands opened in
          let same = shown_same sql params begun mid rows (subst (λ k. IsPlain (understood k sql)) (sym stood.stands.schema) (plain stood.way)) (shown clean) in
          (s, refl, subst (λ (d : Database). Holds d s) (sym same.0.now_is) stood);
    }

-- and its answer is one of what stood
pub answers : {S : Type 0} (g : Ghosts S) (old : Held S) (mid : Connected) (sql : List ℕ) (params : Row) (rows : List Row)
    → ((way : Way) → IsPlain (understood (store_schema way) sql)) → Shown sql params (state g (record old { in_transaction = true })) mid rows
    → (s : State) → Rests (state g old) s → Shown sql params (state g old) (state g old) rows
answers g old mid sql params rows plain shown s r =
    let begun = state g (record old { in_transaction = true }) in
    let stood = r.stands (shown_open sql params begun mid rows shown) in
    shown_alike (state g old) begun mid refl refl sql params rows (subst (λ k. IsPlain (understood k sql)) (sym stood.stands.schema) (plain stood.way)) shown

-- ---- reads

-- a read is a write of the same state
pub as_read : {A E : Type 0} (fits : State → A → Type 0) (old new : Connected) (r : Result A E) → WritesTables Some old new r
    → (HasCleanDisk new → IfOk r (λ a. (s : State) → Rests old s → fits s a)) → ReadsTables fits old new r
as_read fits old new (Ok a) w answer = record {
  clean = w.clean;
  was_open = w.was_open;
  is_open = w.is_open;
  answer = answer;
  same = λ clean s r. let to = w.done clean s r in subst (Rests new) (let same : s ≡ to.state = (let i = to.is in cc) in sym same) to.rests;
  crash = w.crash;
}
as_read fits old new (Err e) w answer =
    record { clean = w.clean; was_open = w.was_open; is_open = w.is_open; answer = answer; same = w.failed; crash = w.crash }

-- what fits less than was shown
pub reads_less : {A E : Type 0} (fits more : State → A → Type 0) (old new : Connected) (r : Result A E)
    → ((s : State) (a : A) → Rests old s → more s a → fits s a) → ReadsTables more old new r → ReadsTables fits old new r
reads_less fits more old new r less it = record {
  clean = it.clean;
  was_open = it.was_open;
  is_open = it.is_open;
  answer = λ clean. IfOk-weaker r _ _ (λ a all s rests. less s a rests (all s rests)) (it.answer clean);
  same = it.same;
  crash = it.crash;
}

-- what fits where the tables stand so
pub reads_standing : {A E : Type 0} (fits more : State → A → Type 0) (old new : Connected) (r : Result A E)
    → ((s : State) (a : A) → Holds old.now s → fits s a → more s a) → ReadsTables fits old new r → ReadsTables more old new r
reads_standing fits more old new (Ok a) then it = record {
  clean = it.clean;
  was_open = it.was_open;
  is_open = it.is_open;
  answer = λ clean s rests. then s a (rests.stands (it.was_open clean)) (it.answer clean s rests);
  same = it.same;
  crash = it.crash;
}
reads_standing fits more old new (Err e) then it =
    record { clean = it.clean; was_open = it.was_open; is_open = it.is_open; answer = it.answer; same = it.same; crash = it.crash }

-- ---- reads one after the other

-- what is made of an answer
pub read_ok : {A B E F : Type 0} (fits : State → A → Type 0) (more : State → B → Type 0) (old new : Connected) (a : A) (b : B)
    → ((s : State) → Rests old s → fits s a → more s b) → ReadsTables {A = A} {E = E} fits old new (Ok a) → ReadsTables {A = B} {E = F} more old new (Ok b)
read_ok fits more old new a b then it = record {
  clean = it.clean;
  was_open = it.was_open;
  is_open = it.is_open;
  answer = λ clean s r. then s r (it.answer clean s r);
  same = it.same;
  crash = it.crash;
}

-- a read that fails, or whose answer is no answer
pub read_err : {A B E F : Type 0} (fits : State → A → Type 0) (more : State → B → Type 0) (old new : Connected) (r : Result A E) (f : F)
    → ReadsTables fits old new r → ReadsTables {A = B} {E = F} more old new (Err f)
read_err fits more old new r f it =
    record { clean = it.clean; was_open = λ clean. tt; is_open = λ clean. tt; answer = λ clean. tt; same = it.same; crash = it.crash }

-- an answer whose failure was told otherwise
pub told_ok : {A E F : Type 0} (r : Result A E) (told : Result A F) (Q : E → F → Type 0) (a : A) → MatchResult r (λ x. told ≡ Ok x) (λ e. IsErrAnd told (Q e))
    → told ≡ Ok a → r ≡ Ok a
told_ok (Ok x) told Q a cases is = cc
told_ok (Err e) told Q a cases is = absurd (subst (λ t. IsErrAnd t (Q e)) is cases)

-- what a read answered whose failure was told otherwise
pub mapped : {A E F : Type 0} (fits : State → A → Type 0) (old new : Connected) (r : Result A E) (told : Result A F) (Q : E → F → Type 0) (a : A)
    → MatchResult r (λ x. told ≡ Ok x) (λ e. IsErrAnd told (Q e)) → told ≡ Ok a
    → ReadsTables fits old new r → ReadsTables {A = A} {E = F} fits old new (Ok a)
mapped fits old new r told Q a cases is it =
    read_ok fits fits old new a a (λ s r found. found) (subst (λ r. ReadsTables fits old new r) (told_ok r told Q a cases is) it)

-- an answer whose error is told in other words
pub reads_told : {A E F : Type 0} (fits more : State → A → Type 0) (old new : Connected) (r : Result A E) (told : Result A F) (Q : E → F → Type 0)
    → MatchResult r (λ x. told ≡ Ok x) (λ e. IsErrAnd told (Q e)) → ((s : State) (a : A) → Rests old s → fits s a → more s a) → ReadsTables fits old new r
    → ReadsTables more old new told
reads_told {A = A} {F = F} fits more old new (Ok a) told Q cases less it =
    subst (λ (t : Result A F). ReadsTables more old new t) (sym cases) (read_ok fits more old new a a (λ s r found. less s a r found) it)
reads_told fits more old new (Err e) (Ok b) Q cases less it = absurd cases
reads_told fits more old new (Err e) (Err f) Q cases less it = read_err fits more old new (Err e) f it

-- what is read of an answer
pub read_if : {A B D F : Type 0} (fits : State → A → Type 0) (more : State → B → Type 0) (old new : Connected) (a : A) (r : Result B F) (P : B → Type 0)
    → IfOk r P → ((s : State) (b : B) → P b → fits s a → more s b) → ReadsTables {A = A} {E = D} fits old new (Ok a) → ReadsTables more old new r
read_if fits more old new a (Ok b) P is then it = read_ok fits more old new a b (λ s r found. then s b is found) it
read_if fits more old new a (Err e) P is then it = read_err fits more old new (Ok a) e it

-- a read, and what is made of its answer, if anything is
pub read_told : {A B D E F : Type 0} (fits : State → A → Type 0) (more : State → B
    → Type 0) (old new : Connected) (a : A) (r : Result B E) (told : Result B F) (Q : E → F → Type 0) (P : B → Type 0)
    → MatchResult r (λ x. told ≡ Ok x) (λ e. IsErrAnd told (Q e)) → IfOk r P → ((s : State) (b : B) → P b → fits s a → more s b)
    → ReadsTables {A = A} {E = D} fits old new (Ok a) → ReadsTables more old new told
read_told {B = B} {F = F} fits more old new a (Ok b) told Q P cases is then it =
    subst (λ (t : Result B F). ReadsTables more old new t) (sym cases) (read_ok fits more old new a b (λ s r found. then s b is found) it)
read_told fits more old new a (Err e) (Ok b) Q P cases is then it = absurd cases
read_told fits more old new a (Err e) (Err f) Q P cases is then it = read_err fits more old new (Ok a) f it

-- no statement ran
pub nothing_inside : {held : ℕ} (c : Connected) → IsInside held c c
nothing_inside c = record {
  clean = λ clean. clean;
  kept = λ clean. record { was_open = λ o. o; committed = λ o. refl };
  begun = λ clean on. on;
  marks = λ clean on long. refl;
  settled = λ clean was. was;
  survives = survives_same c (λ _. ⊥);
}

-- nothing is read, over an open connection
pub unread : {A E : Type 0} (fits : State → A → Type 0) (old : Connected) (a : A) → (HasCleanDisk old → IsTrue old.is_open) → ((s : State) → fits s a)
    → ReadsTables {A = A} {E = E} fits old old (Ok a)
unread fits old a opened known = record {
  clean = λ clean. clean;
  was_open = opened;
  is_open = opened;
  answer = λ clean s r. known s;
  same = λ clean s r. r;
  crash = survives_same old (CommitsTables Some old);
}

two_reads : (old mid new : Connected) → (HasCleanDisk mid → IsTrue old.is_open) → (HasCleanDisk mid → (s : State) → Rests old s → Rests mid s)
    → Survives old mid (CommitsTables Some old) → Survives mid new (CommitsTables Some mid) → Survives old new (CommitsTables Some old)
two_reads old mid new opened same one two =
    survives_then old mid new (CommitsTables Some old) (CommitsTables Some mid) (CommitsTables Some old) (λ _ db is. is)
    (λ clean db is.
    let was : HasCleanDisk mid = omega (arith, two.clean, clean) in
    record { was_open = opened was; stands = λ s r. is.stands s (same was s r) })
    one two

any_ok : {A E P : Type 0} (r : Result A E) → P → OnOk r P
any_ok (Ok a) is = is
any_ok (Err e) is = tt

later : {A B F : Type 0} (fits : State → A → Type 0) (more : State → B → Type 0) (both : State → B → Type 0) (old mid : Connected) {a : A} (r : Result B F)
    → ((s : State) (b : B) → Rests old s → fits s a → more s b → both s b)
    → ((s : State) → Rests old s → fits s a) → ((s : State) → Rests old s → Rests mid s) → IfOk r (λ b. (s : State) → Rests mid s → more s b)
    → IfOk r (λ b. (s : State) → Rests old s → both s b)
later fits more both old mid (Ok b) then first same told = λ s rests. then s b rests (first s rests) (told s (same s rests))
later fits more both old mid (Err f) then first same told = tt

-- a read, and then another, whatever that answers
pub read_then : {A B E F : Type 0} (fits : State → A → Type 0) (more : State → B → Type 0) (both : State → B
    → Type 0) (old mid new : Connected) (a : A) (r : Result B F)
    → ((s : State) (b : B) → Rests old s → fits s a → more s b → both s b) → ReadsTables {A = A} {E = E} fits old mid (Ok a) → ReadsTables more mid new r
    → ReadsTables both old new r
read_then fits more both old mid new a r then one two = record {
  clean = λ clean. one.clean (two.clean clean);
  was_open = λ clean. any_ok r (one.was_open (two.clean clean));
  is_open = two.is_open;
  answer = λ clean. later fits more both old mid r then (one.answer (two.clean clean)) (one.same (two.clean clean)) (two.answer clean);
  same = λ clean s r. two.same clean s (one.same (two.clean clean) s r);
  crash = two_reads old mid new one.was_open one.same one.crash two.crash;
}

-- seen from where the store is
pub read_of : {A E : Type 0} (fits : State → A → Type 0) (inside outside new : Connected) (r : Result A E) → inside ≡ outside → ReadsTables fits inside new r
    → ReadsTables fits outside new r
read_of fits inside outside new r same it = subst (λ c. ReadsTables fits c new r) same it

-- a read that failed, by whatever result tells so
pub read_bad : {A B E F : Type 0} (fits : State → A → Type 0) (more : State → B → Type 0) (old new : Connected) (r : Result A E) (f : Result B F) → IsErr f
    → ReadsTables fits old new r → ReadsTables more old new f
read_bad fits more old new r (Ok b) err it = absurd cc
read_bad fits more old new r (Err f) err it = read_err fits more old new r f it

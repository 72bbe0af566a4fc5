-- What a transaction leaves: the commit of what its statements did, or nothing.
use Rattle.std.proofs.Common.{◌≡◌, ◌⊎◌, ◌≤◌, ◌+◌, inl, inr, ap, sym, subst, ◌∙◌, arith, refl, true≢false, Option, Some, ℕ, List, length, take, Result, Ok, Err, IsErr, IsErrAnd, IsTrue, MatchResult, false, true}
use Rattle.std.proofs.lemmas.Bool.{cases_Bool}
use Rattle.std.proofs.lemmas.List.{length-take}
use Rattle.sqlite.specs.Store.{Ghosts}
use Rattle.sqlite.specs.Held.{Held, state}
use Rattle.sqlite.specs.Effect.{Database}
use Rattle.sqlite.specs.Steps.{FailsToCommit}
use Rattle.sqlite.specs.Order.{Row}
use Rattle.sqlite.specs.declared.error.Error.{Error}
use Rattle.sqlite.specs.State.{State as Connected, HasCleanDisk, Shows, Survives, IsRolledBack, IsUnchanged, ExecutesInside}
use Rattle.sql_tables.proofs.Inside.{kept}
use Rattle.sqlite_trees.specs.Tree.{Trees}
use Rattle.sqlite.proofs.StateLemmas.{survives_then}
use Rattle.sqlite.proofs.Callers.{survives_begin}
use Rattle.as2_exchange.specs.State.{State}
use Rattle.as2_store.specs.Tables.{VersionThree, store_schema}
use Rattle.as2_store.specs.Stands.{Stands, Holds, Rests}
use Rattle.as2_store.specs.Calls.{IsInside, IsSettled, Keeps, CommitsTables, WritesTables}
use Rattle.as2_store.proofs.TransactionEnds.{rests_committed, rests_after, keeps_then, undone}
use Rattle.sqlite_schema.specs.declared.schema.Schema.{Schema}

-- ---- statements one after the other

-- what begins with so many has them
longer : {X : Type 0} (held : ℕ) (xs ys : List X) → held ≤ length xs → take held ys ≡ take held xs → held ≤ length ys
longer held xs ys long same = omega (arith, long, length-take held xs, length-take held ys, ap length same)

-- nothing was done
pub survives_same : (c : Connected) (P : Trees → Type 0) → Survives c c P
survives_same c P = record {
  clean = omega arith;
  shield = λ is. is;
  counts = omega arith;
  limit = refl;
  closes = λ clean is. inl is;
  crash = λ clean db may. inl may;
}

pub inside_then : {held : ℕ} (a b c : Connected) → IsInside held a b → IsInside held b c → IsInside held a c
inside_then {held} a b c one two = record {
  clean = λ clean. one.clean (two.clean clean);
  kept = λ clean. keeps_then a b c (one.kept (two.clean clean)) (two.kept clean);
  begun = λ clean on. one.begun (two.clean clean) (two.begun clean on);
  marks = λ clean on long.
      let same = one.marks (two.clean clean) (two.begun clean on) long in
      two.marks clean on (longer held a.marks b.marks long same) ∙ same;
  settled = λ clean was. two.settled clean (one.settled (two.clean clean) was);
  survives = survives_then a b c _ _ (λ _. ⊥) (λ _ db none. none) (λ _ db none. none) one.survives two.survives;
}

-- the same of statements under a savepoint, which stays where it is
pub inside_at : (a b c : Connected) (at place : ℕ) → place ≡ at → IsInside (at + 1) a b → IsInside (place + 1) b c → IsInside (at + 1) a c
inside_at a b c at place same one two = inside_then a b c one (subst (λ k. IsInside (k + 1) b c) same two)

-- ---- what stands is kept

pub keeps_of : (d : Database) (s : State) → Holds d s → Keeps d.trees s
keeps_of d s it =
    let same : d ≡ record { schema = store_schema it.way; trees = d.trees } =
    ap (λ (x : Schema). let e : Database = record { schema = x; trees = d.trees } in e) it.stands.schema in
    record { way = it.way; stands = subst (λ (e : Database). Stands (VersionThree it.way) e s) same it.stands }

-- the statements of a transaction took each state that the tables stood for to the next one
pub record FollowsEach {S : Type 0} (g : Ghosts S) (old : Held S) (last : Connected) (next : State → Option State) : Type 0 where
  pub was_open : IsTrue (state g old).is_open
  pub reaches : (s : State) → Rests (state g old) s → (t : State) × (next s ≡ Some t) × Holds last.now t

-- a commit of what was done commits the next state
pub committed_next : {S : Type 0} (g : Ghosts S) (old : Held S) (last : Connected) (next : State → Option State) → FollowsEach g old last next → (db : Trees)
    → db ≡ last.now.trees → CommitsTables next (state g old) db
committed_next g old last next it db is = record {
  was_open = it.was_open;
  stands = λ s r. let to =
      it.reaches s r in record { state = to.0; is = to.1; keeps = subst (λ (t : Trees). Keeps t to.0) (sym is) (keeps_of last.now to.0 to.2) };
}

-- one that the transaction goes on behind keeps the savepoints that are held
keeps_marks : (held : ℕ) (sql : List ℕ) (params : Row) (old new : Connected) (r : Result ℕ Error) → ExecutesInside held sql params old new r
    → IsTrue new.in_transaction → held ≤ length old.marks → take held new.marks ≡ take held old.marks
keeps_marks held sql params old new (Ok count) it on long = it.2 long
keeps_marks held sql params old new (Err e) (inl failed) on long = elim failed.1 [
  | inl same ↦ ap (take held) same.2
  | inr back ↦ absurd (true≢false (sym on ∙ back.autocommit))
]
keeps_marks held sql params old new (Err e) (inr refused) on long = ap (take held) refused.2.2

-- one that ends the transaction leaves none marked, and all committed
pub settled_by : (old new : Connected) → IsTrue old.in_transaction → IsUnchanged old new ⊎ IsRolledBack old new → IsSettled new
settled_by old new on (inl same) =
    record {
      unmarked = λ off. absurd (true≢false (sym on ∙ sym same.0.mode ∙ off));
      committed = λ off opened. absurd (true≢false (sym on ∙ sym same.0.mode ∙ off));
    }
settled_by old new on (inr back) =
    record { unmarked = λ off. back.unmarked; committed = λ off opened. (back.undone opened).0 ∙ sym (back.undone opened).1 }

settles : (held : ℕ) (sql : List ℕ) (params : Row) (old new : Connected) (r : Result ℕ Error) → IsTrue old.in_transaction
    → ExecutesInside held sql params old new r → IsSettled new
settles held sql params old new (Ok count) on it =
    record { unmarked = λ off. absurd (true≢false (sym it.1.mode ∙ off)); committed = λ off opened. absurd (true≢false (sym it.1.mode ∙ off)) }
settles held sql params old new (Err e) on (inl failed) = settled_by old new on failed.1
settles held sql params old new (Err e) on (inr refused) = settled_by old new on (inl refused.2)

-- a statement that ran in it, whether it failed or not
pub ran_inside : {S : Type 0} (g : Ghosts S) (sql : List ℕ) (params : Row) (old new : Held S) (r : Result ℕ Error) (stop : Error) (held : ℕ)
    (ended : old.in_transaction ≡ false → (r ≡ Err stop) × (new ≡ old))
    → (HasCleanDisk (state g new) → IsTrue old.in_transaction → ExecutesInside held sql params (state g old) (state g new) r)
    → Survives (state g old) (state g new) (λ _. ⊥) → IsInside held (state g old) (state g new)
ran_inside {S = S} g sql params old new r stop held ended runs survives = record {
  clean = λ clean. omega (arith, survives.clean, clean);
  kept = λ clean. kept g sql params old new r stop held ended (runs clean);
  begun = λ clean on. elim (cases_Bool old.in_transaction) [
    | inl inside ↦ inside
    | inr idle ↦ absurd (true≢false (sym on ∙ ap (λ (h : Held S). h.in_transaction) (ended idle).1 ∙ idle))
  ];
  marks = λ clean on long. elim (cases_Bool old.in_transaction) [
    | inl inside ↦ keeps_marks held sql params (state g old) (state g new) r (runs clean inside) on long
    | inr idle ↦ ap (λ (h : Held S). take held (state g h).marks) (ended idle).1
  ];
  settled = λ clean was. elim (cases_Bool old.in_transaction) [
    | inl inside ↦ settles held sql params (state g old) (state g new) r inside (runs clean inside)
    | inr idle ↦ subst (λ (h : Held S). IsSettled (state g h)) (sym (ended idle).1) was
  ];
  survives = survives;
}

module _ {S : Type 0} (g : Ghosts S) (old : Held S) (last : Connected) (end : Held S) (next : State → Option State) where
  abbrev pub at_begin : Connected
  at_begin = state g (record old { in_transaction = true })

  -- a call that failed, once what was done is undone
  fails : {A E : Type 0} (r : Result A E) → IsErr r → IsInside 0 at_begin last → (HasCleanDisk (state g end) → HasCleanDisk last)
      → (HasCleanDisk (state g end) → IsRolledBack last (state g end)) → Survives (state g old) (state g end) (CommitsTables next (state g old))
      → WritesTables {A = A} {E = E} next (state g old) (state g end) r
  fails (Ok a) err inside was back crash = absurd cc
  fails (Err e) err inside was back crash = record {
    clean = λ clean. inside.clean (was clean);
    was_open = λ clean. tt;
    is_open = λ clean. tt;
    done = λ clean. tt;
    failed = λ clean s r. rests_after (state g old) last (state g end) s r
        (record { was_open = λ o. (inside.kept (was clean)).was_open o; committed = λ o. (inside.kept (was clean)).committed o }) (back clean);
    crash = crash;
  }

  gives_up : {A E : Type 0} (r : Result A E) → IsErr r → IsInside 0 at_begin last → Survives last (state g end) (λ _. ⊥)
      → (HasCleanDisk (state g end) → IsRolledBack last (state g end)) → WritesTables {A = A} {E = E} next (state g old) (state g end) r
  gives_up r err inside late back =
      fails r err inside (λ clean. omega (arith, late.clean, clean)) back
      (survives_then (state g old) last (state g end) (λ _. ⊥) (λ _. ⊥) (CommitsTables next (state g old)) (λ _ db none. absurd none) (λ _ db none. absurd none)
      (survives_begin g old last (λ _. ⊥) inside.survives) late)

  committed_crash : IsInside 0 at_begin last → Survives last (state g end) (λ db. db ≡ last.now.trees) → (HasCleanDisk last → FollowsEach g old last next)
      → Survives (state g old) (state g end) (CommitsTables next (state g old))
  committed_crash inside late done =
      survives_then (state g old) last (state g end) (λ _. ⊥) (λ db. db ≡ last.now.trees) (CommitsTables next (state g old)) (λ _ db none. absurd none)
      (λ clean db is. committed_next g old last next (done (omega (arith, late.clean, clean))) db is)
      (survives_begin g old last (λ _. ⊥) inside.survives) late

  fails_to_commit : {A E : Type 0} (r : Result A E) → IsErr r → IsInside 0 at_begin last → Survives last (state g end) (λ db. db ≡ last.now.trees)
      → (HasCleanDisk last → FollowsEach g old last next) → (HasCleanDisk (state g end) → IsRolledBack last (state g end))
      → WritesTables {A = A} {E = E} next (state g old) (state g end) r
  fails_to_commit r err inside late done back =
      fails r err inside (λ clean. omega (arith, late.clean, clean)) back (committed_crash inside late done)

  pub commits : {A E : Type 0} (a : A) → IsInside 0 at_begin last → Survives last (state g end) (λ db. db ≡ last.now.trees)
      → (HasCleanDisk last → FollowsEach g old last next)
      → (HasCleanDisk (state g end) → Shows last (state g end) last.now last.now false)
      → (settled : (db : Trees) → IsTrue (state g end).is_open → (state g end).may_leave db → db ≡ (state g end).committed.trees)
      → WritesTables {A = A} {E = E} next (state g old) (state g end) (Ok a)
  commits a inside late done shows settled =
      let was : HasCleanDisk (state g end) → HasCleanDisk last = λ clean. omega (arith, late.clean, clean) in
      record {
        clean = λ clean. inside.clean (was clean);
        was_open = λ clean. (done (was clean)).was_open;
        is_open = λ clean. (shows clean).is_open;
        done = λ clean s r.
            let to = (done (was clean)).reaches s r in
            let shown = shows clean in
            record {
              state = to.0;
              is = to.1;
              rests = rests_committed last (state g end) to.0 to.2 shown;
              lasts = record {
                each = λ db may. subst (λ (t : Trees). Keeps t to.0)
                    (sym (settled db shown.is_open may ∙ ap (λ (d : Database). d.trees) shown.committed_is)) (keeps_of last.now to.0 to.2);
              };
            };
        failed = λ clean. tt;
        crash = committed_crash inside late done;
      }

-- ---- the ends of a call, whose connection is given back as `h`

module _ {S : Type 0} (g : Ghosts S) (old : Held S) (last : Connected) (end h : Held S) (same : end ≡ h) (next : State → Option State)
    (inside : IsInside 0 (state g (record old { in_transaction = true })) last) where
  -- the transaction is dropped
  pub dropped : {A E : Type 0} (r : Result A E) → IsErr r → Survives last (state g end) (λ _. ⊥)
      → (HasCleanDisk (state g end) → IsRolledBack last (state g end)) → WritesTables {A = A} {E = E} next (state g old) (state g h) r
  dropped r err late back = subst (λ (h : Held S). WritesTables next (state g old) (state g h) r) same (gives_up g old last end next r err inside late back)

  -- its commit fails
  pub uncommitted : {A E : Type 0} (r : Result A E) (e : Error) → IsErr r → Survives last (state g end) (λ db. db ≡ last.now.trees)
      → (HasCleanDisk last → FollowsEach g old last next) → (HasCleanDisk last → IsTrue last.in_transaction)
      → (HasCleanDisk (state g end) → FailsToCommit last (state g end) e) → WritesTables {A = A} {E = E} next (state g old) (state g h) r
  uncommitted r e err late done within failed =
      subst (λ (h : Held S). WritesTables next (state g old) (state g h) r) same
      (fails_to_commit g old last end next r err inside late done
      (λ clean. undone last (state g end) e (within (omega (arith, late.clean, clean))) (failed clean)))

  -- it is committed
  pub committed : {A E : Type 0} (a : A) → Survives last (state g end) (λ db. db ≡ last.now.trees) → (HasCleanDisk last → FollowsEach g old last next)
      → (HasCleanDisk (state g end) → Shows last (state g end) last.now last.now false)
      → ((db : Trees) → IsTrue (state g end).is_open → (state g end).may_leave db → db ≡ (state g end).committed.trees)
      → WritesTables {A = A} {E = E} next (state g old) (state g h) (Ok a)
  committed {A} {E} a late done shows settled =
      subst (λ (h : Held S). WritesTables {A = A} {E = E} next (state g old) (state g h) (Ok a)) same
      (commits g old last end next a inside late done shows settled)

-- ---- the same write, by other names

-- its failure is told otherwise
pub write_told : {A E F : Type 0} (next : State → Option State) (old new : Connected) (r : Result A E) (told : Result A F) (Q : E → F → Type 0)
    → MatchResult r (λ x. told ≡ Ok x) (λ e. IsErrAnd told (Q e)) → WritesTables next old new r → WritesTables next old new told
write_told {A} {E} {F} next old new (Ok x) told Q is it =
    let same : WritesTables {A = A} {E = F} next old new (Ok x) =
    record { clean = it.clean; was_open = it.was_open; is_open = it.is_open; done = it.done; failed = it.failed; crash = it.crash } in
    subst (WritesTables next old new) (sym is) same
write_told next old new (Err e) (Ok x) Q is it = absurd is
write_told next old new (Err e) (Err f) Q is it =
    record { clean = it.clean; was_open = it.was_open; is_open = it.is_open; done = it.done; failed = it.failed; crash = it.crash }

-- seen from where the store is
pub write_of : {A E : Type 0} (next : State → Option State) (inside outside new : Connected) (r : Result A E) → inside ≡ outside
    → WritesTables next inside new r
    → WritesTables next outside new r
write_of next inside outside new r same it = subst (λ c. WritesTables next c new r) same it

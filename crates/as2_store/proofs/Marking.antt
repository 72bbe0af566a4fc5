-- The ends of a call that writes under a savepoint: alone it commits, or is undone; within a round it is kept or undone, and commits nothing.
-- A failure of the store ends a round.
use Rattle.std.proofs.Common.{◌≡◌, ◌⊎◌, inl, inr, ap, sym, subst, ◌∙◌, arith, refl, true≢false, ℕ, ◌+◌, ◌≤◌, ◌<◌, List, [], ◌∷◌, ◌++◌, length, take, map, slice_get, Bool, true, false, not, Option, Some, None, Result, Ok, Err, IfErr, IsErr, IsTrue}
use Rattle.std.proofs.lemmas.Bool.{cases_Bool}
use Rattle.std.proofs.lemmas.List.{get_or-map, length-append}
use Rattle.std.proofs.lemmas.Option.{get_or_from_slice_get, slice_get-get_or, slice_get_within}
use Rattle.std.proofs.Math.Seq.{get_or-append_seam}
use Rattle.sqlite_trees.specs.Tree.{Trees}
use Rattle.sqlite.specs.Effect.{Database}
use Rattle.sqlite.specs.Held.{Held, state}
use Rattle.sqlite.specs.Store.{Ghosts}
use Rattle.sqlite.specs.Steps.{Discards, FailsAtMark, FailsToMark}
use Rattle.sqlite.specs.declared.error.Error.{Error}
use Rattle.sqlite.specs.State.{State as Connected, Savepoint, HasCleanDisk, Survives, KeepsCommit, IsRolledBack, Fails, Marks, ReleasesAt, Shows, begins_at}
use Rattle.sqlite.proofs.MarkLemmas.{slice_get-take}
use Rattle.sqlite.proofs.StateLemmas.{survives_then}
use Rattle.as2_exchange.specs.State.{State}
use Rattle.as2_store.specs.Stands.{Holds, Rests}
use Rattle.as2_store.specs.Calls.{IsInside, Keeps, CommitsTables, WritesTables}
use Rattle.as2_store.specs.Rounds.{ByMode, WritesBy, in_round}
use Rattle.as2_store.proofs.Committing.{keeps_of, survives_same}
use Rattle.as2_store.proofs.Seen.{and_both, both, holds_seen, rests_lost, rests_seen, seen}
use Rattle.as2_store.proofs.TransactionEnds.{keeps_then, knows_all, rests_after, rests_committed}

-- the statements took each state that the tables stood for to the next one
pub record Follows (begun last : Connected) (next : State → Option State) : Type 0 where
  pub was_open : IsTrue begun.is_open
  pub reaches : (s : State) → Holds begun.now s → (t : State) × (next s ≡ Some t) × Holds last.now t

if_not : (b : Bool) → not b ≡ false → IsTrue b
if_not true h = refl
if_not false h = absurd (true≢false h)

-- ---- the mark

last_of : {X : Type 0} (xs : List X) (x : X) → slice_get (xs ++ x ∷ []) (length xs) ≡ Some x
last_of xs x = slice_get-get_or (xs ++ x ∷ []) (length xs) x (omega (arith, length-append xs (x ∷ []))) ∙ ap Some (get_or-append_seam xs x [] x)

begins_as : (c : Connected) (at : ℕ) (it : Savepoint) → slice_get c.marks at ≡ Some it → begins_at c at ≡ it.begins
begins_as c at it is =
    get_or-map (λ (p : Savepoint). p.begins) c.marks at it false (slice_get_within c.marks at it is)
    ∙ ap (λ (p : Savepoint). p.begins) (get_or_from_slice_get c.marks at it it is)

begins_none : (c : Connected) (at : ℕ) → c.marks ≡ [] → begins_at c at ≡ false
begins_none c at none = ap (λ (ms : List Savepoint). Rattle.std.proofs.Common.slice_index_or (map (λ (p : Savepoint). p.begins) ms) at false) none

none_there : {X : Type 0} (xs : List X) (at : ℕ) (x : X) → xs ≡ [] → slice_get xs at ≡ Some x → ⊥
none_there xs at x none is = absurd (let e : slice_get [] at ≡ Some x = subst (λ ys. slice_get ys at ≡ Some x) none is in cc)

module _ (old begun last : Connected) (at : ℕ) (marked : HasCleanDisk begun → (at ≡ length old.marks) × Marks old begun [])
    (first : Survives old begun (λ _. ⊥)) (inside : IsInside (at + 1) begun last) where
  abbrev pub mark : Savepoint
  mark = record { name = []; begins = not old.in_transaction; db = old.now }

  -- while the transaction goes on the mark is at its place
  stands : HasCleanDisk last → IsTrue last.in_transaction → slice_get last.marks at ≡ Some mark
  stands clean on =
      let it = marked (inside.clean clean) in
      let here : at ≡ length old.marks = it.0 in
      let marks : begun.marks ≡ old.marks ++ mark ∷ [] = it.1.2 in
      let long : at + 1 ≤ length begun.marks = omega (arith, here, ap length marks, length-append old.marks (mark ∷ [])) in
      sym (slice_get-take (at + 1) last.marks at (omega arith))
      ∙ ap (λ ms. slice_get ms at) (inside.marks clean on long)
      ∙ slice_get-take (at + 1) begun.marks at (omega arith)
      ∙ ap (λ ms. slice_get ms at) marks
      ∙ ap (λ i. slice_get (old.marks ++ mark ∷ []) i) here
      ∙ last_of old.marks mark

  -- once it has ended there is none
  unmarked : HasCleanDisk last → last.in_transaction ≡ false → last.marks ≡ []
  unmarked clean off =
      let it = marked (inside.clean clean) in
      let begins : IsTrue begun.in_transaction = it.1.0.mode in
      (inside.settled clean (record {
        unmarked = λ idle. absurd (true≢false (sym begins ∙ idle));
        committed = λ idle opened. absurd (true≢false (sym begins ∙ idle));
      })).unmarked off

  -- whatever is at its place is the mark, and the transaction goes on
  is_mark : HasCleanDisk last → (it : Savepoint) → slice_get last.marks at ≡ Some it → (it ≡ mark) × IsTrue last.in_transaction
  is_mark clean it is = elim (cases_Bool last.in_transaction) [
    | inl on ↦ (let there = stands clean on in cc, on)
    | inr off ↦ absurd (none_there last.marks at it (unmarked clean off) is)
  ]

  -- the savepoint began the transaction where none was open
  begins_there : HasCleanDisk last → IsTrue last.in_transaction → begins_at last at ≡ not old.in_transaction
  begins_there clean on = begins_as last at mark (stands clean on)

  -- the last commit stays
  kept : HasCleanDisk last → KeepsCommit old last
  kept clean =
      let it = marked (inside.clean clean) in
      keeps_then old begun last (record { was_open = λ opened. it.1.0.was_open; committed = λ opened. it.1.0.committed_is }) (inside.kept clean)

  so_far : Survives old last (λ _. ⊥)
  so_far = survives_then old begun last (λ _. ⊥) (λ _. ⊥) (λ _. ⊥) (λ _ db none. none) (λ _ db none. none) first inside.survives

  -- a fact of the tables that were is one of those that were marked
  holds_begun : HasCleanDisk last → (s : State) → Holds old.now s → Holds begun.now s
  holds_begun clean s it = subst (λ (d : Database). Holds d s) (sym (marked (inside.clean clean)).1.0.now_is) it

  -- within a round the savepoint began nothing
  within_none : IsTrue old.in_transaction → HasCleanDisk last → IsTrue last.in_transaction → IsTrue (begins_at last at) → ⊥
  within_none on clean still begins = absurd (true≢false (sym begins ∙ begins_there clean still ∙ ap not on))

  -- ---- what its release leaves

  -- alone it commits
  released_alone : old.in_transaction ≡ false → HasCleanDisk last → IsTrue last.in_transaction → (new : Connected) → ReleasesAt last new at
      → Shows last new last.now last.now false
  released_alone idle clean still new (inl all) = all.1.0
  released_alone idle clean still new (inr part) = absurd (true≢false (sym (begins_there clean still ∙ ap not idle) ∙ part.0))

  -- within a round it stays
  released_within : IsTrue old.in_transaction → HasCleanDisk last → IsTrue last.in_transaction → (new : Connected) → ReleasesAt last new at
      → Shows last new last.now last.committed true
  released_within on clean still new (inl all) = absurd (within_none on clean still all.0)
  released_within on clean still new (inr part) = part.1.0

  -- ---- what a failure leaves

  -- all since the last commit is undone, or what was written since the mark is, within a round
  abbrev pub Undone : Connected → Type 0
  Undone new = IsRolledBack last new ⊎ (IsTrue old.in_transaction × IsTrue last.is_open × (new.now ≡ old.now))

  -- the mark couldn't be gone back to
  fails_at : (new : Connected) (e : Error) → HasCleanDisk last → FailsAtMark last new at e → IsRolledBack last new
  fails_at new e clean (inl failed) = failed.3
  fails_at new e clean (inr idle) = elim (cases_Bool last.in_transaction) [
    | inl on ↦ absurd (omega (arith, slice_get_within last.marks at mark (stands clean on), idle.1))
    | inr off ↦
        let same = idle.2 in
        let begins : IsTrue begun.in_transaction = (marked (inside.clean clean)).1.0.mode in
        let settled = inside.settled clean
        (record { unmarked = λ none. absurd (true≢false (sym begins ∙ none)); committed = λ none opened. absurd (true≢false (sym begins ∙ none)) }) in
        record {
          was_open = λ opened. same.0.was_open;
          undone = λ opened. (same.0.now_is ∙ settled.committed off same.0.was_open, same.0.committed_is);
          autocommit = same.0.mode ∙ off;
          unmarked = same.2 ∙ settled.unmarked off;
          counts = same.1;
        }
  ]

  discards : (new : Connected) → HasCleanDisk last → Discards last new at → Undone new
  discards new clean (inl all) = inl all.1
  discards new clean (inr back) =
      let it = is_mark clean back.0 back.1 in
      let within : not old.in_transaction ≡ false = ap (λ (p : Savepoint). p.begins) (sym it.0) ∙ back.2 in
      inr (if_not old.in_transaction within, back.3.was_open, back.3.now_is ∙ ap (λ (p : Savepoint). p.db) it.0)

  pub dropped_undone : (new : Connected) → HasCleanDisk last → Discards last new at ⊎ ((e : Error) × FailsAtMark last new at e) → Undone new
  dropped_undone new clean (inl back) = discards new clean back
  dropped_undone new clean (inr failed) = inl (fails_at new failed.0 clean failed.1)

  module _ (new : Connected) (next : State → Option State) where
    -- what a commit may commit: where the mark began the transaction, what was written
    abbrev pub Commits : Trees → Type 0
    Commits db = IsTrue (begins_at last at) × (db ≡ last.now.trees)

    commits_next : HasCleanDisk last → Follows begun last next → (db : Trees) → Commits db → CommitsTables next old db
    commits_next clean done db it = record {
      was_open = (marked (inside.clean clean)).1.0.was_open;
      stands = λ s r.
          let to = done.reaches s (holds_begun clean s (r.stands (marked (inside.clean clean)).1.0.was_open)) in
          record { state = to.0; is = to.1; keeps = subst (λ (t : Trees). Keeps t to.0) (sym it.1) (keeps_of last.now to.0 to.2) };
    }

    -- a call that fails
    fails : {A E : Type 0} (P : Trees → Type 0) (r : Result A E) → IsErr r → Survives last new P
        → (old.in_transaction ≡ false → HasCleanDisk new → (db : Trees) → P db → CommitsTables next old db)
        → (IsTrue old.in_transaction → HasCleanDisk new → (db : Trees) → P db → ⊥) → (HasCleanDisk new → Undone new)
        → ByMode (λ o n. WritesTables {A = A} {E = E} next o n r) old new
    fails P (Ok a) err late commits never undone = absurd cc
    fails P (Err e) err late commits never undone =
        let was : HasCleanDisk new → HasCleanDisk last = λ clean. omega (arith, late.clean, clean) in
        let nothing : IsTrue old.in_transaction → Survives old new (λ _. ⊥) =
        λ on. survives_then old last new (λ _. ⊥) P (λ _. ⊥) (λ _ db none. none) (never on) so_far late in
        record {
          alone = λ idle. record {
            clean = λ clean. omega (arith, so_far.clean, late.clean, clean);
            was_open = λ clean. tt;
            is_open = λ clean. tt;
            done = λ clean. tt;
            failed = λ clean s r. elim (undone clean) [
              | inl back ↦ rests_after old last new s r (kept (was clean)) back
              | inr stays ↦ absurd (true≢false (sym stays.0 ∙ idle))
            ];
            crash = survives_then old last new (λ _. ⊥) P (CommitsTables next old) (λ _ db none. absurd none) (commits idle) so_far late;
          };
          ends = λ clean idle. elim (undone clean) [
            | inl back ↦ back.autocommit
            | inr stays ↦ absurd (true≢false (sym stays.0 ∙ idle))
          ];
          within = λ on. record {
            clean = λ clean. omega (arith, so_far.clean, late.clean, clean);
            was_open = λ clean. tt;
            is_open = λ clean. tt;
            done = λ clean. tt;
            failed = λ clean s r. elim (undone clean) [
              | inl back ↦ rests_lost new s r.knows back.autocommit
              | inr stays ↦ rests_seen new s
                  (subst (λ (d : Database). Holds d s) (sym stays.2) (holds_seen old s on ((kept (was clean)).was_open stays.1) r))
            ];
            crash = seen old new (CommitsTables next (in_round old)) on (nothing on) (λ clean db opened still is. elim (undone clean) [
              | inl back ↦ absurd (true≢false (sym still ∙ back.autocommit))
              | inr stays ↦ inl ((kept (was clean)).was_open stays.1, is ∙ ap (λ (d : Database). d.trees) stays.2)
            ]);
          };
          uncommitted = nothing;
        }

    -- ---- the ends

    -- it is dropped
    pub dropped : {A E : Type 0} (r : Result A E) → IsErr r → Survives last new (λ _. ⊥)
        → (HasCleanDisk new → Discards last new at ⊎ ((e : Error) × FailsAtMark last new at e))
        → ByMode (λ o n. WritesTables {A = A} {E = E} next o n r) old new
    dropped r err late undone =
        fails (λ _. ⊥) r err late (λ idle clean db none. absurd none) (λ on clean db none. none)
        (λ clean. dropped_undone new (omega (arith, late.clean, clean)) (undone clean))

    -- its commit fails
    pub uncommitted : {A E : Type 0} (r : Result A E) (e : Error) → IsErr r → Survives last new Commits → (HasCleanDisk last → Follows begun last next)
        → (HasCleanDisk last → IsTrue last.in_transaction) → (HasCleanDisk new → FailsAtMark last new at e)
        → ByMode (λ o n. WritesTables {A = A} {E = E} next o n r) old new
    uncommitted r e err late done stays failed =
        let was : HasCleanDisk new → HasCleanDisk last = λ clean. omega (arith, late.clean, clean) in
        fails Commits r err late (λ idle clean db it. commits_next (was clean) (done (was clean)) db it)
        (λ on clean db it. within_none on (was clean) (stays (was clean)) it.0)
        (λ clean. inl (fails_at new e (was clean) (failed clean)))

    -- it is committed
    pub committed : {A E : Type 0} (a : A) → Survives last new Commits → (HasCleanDisk last → Follows begun last next)
        → (HasCleanDisk last → IsTrue last.in_transaction) → (HasCleanDisk new → ReleasesAt last new at)
        → ((db : Trees) → IsTrue new.is_open → new.may_leave db → db ≡ new.committed.trees)
        → ByMode (λ o n. WritesTables {A = A} {E = E} next o n (Ok a)) old new
    committed a late done stays released settled =
        let was : HasCleanDisk new → HasCleanDisk last = λ clean. omega (arith, late.clean, clean) in
        let opened : HasCleanDisk new → IsTrue old.is_open = λ clean. (marked (inside.clean (was clean))).1.0.was_open in
        let to = λ (clean : HasCleanDisk new) (s : State) (it : Holds old.now s). (done (was clean)).reaches s (holds_begun (was clean) s it) in
        let nothing : IsTrue old.in_transaction → Survives old new (λ _. ⊥) =
        λ on. survives_then old last new (λ _. ⊥) Commits (λ _. ⊥) (λ _ db none. none)
        (λ clean db it. within_none on (was clean) (stays (was clean)) it.0) so_far late in
        record {
          alone = λ idle.
              let shown = λ (clean : HasCleanDisk new). released_alone idle (was clean) (stays (was clean)) new (released clean) in
              record {
                clean = λ clean. omega (arith, so_far.clean, late.clean, clean);
                was_open = opened;
                is_open = λ clean. (shown clean).is_open;
                done = λ clean s r.
                    let next = to clean s (r.stands (opened clean)) in
                    record {
                      state = next.0;
                      is = next.1;
                      rests = rests_committed last new next.0 next.2 (shown clean);
                      lasts = record {
                        each = λ db may. subst (λ (t : Trees). Keeps t next.0)
                            (sym (settled db (shown clean).is_open may ∙ ap (λ (d : Database). d.trees) (shown clean).committed_is))
                            (keeps_of last.now next.0 next.2);
                      };
                    };
                failed = λ clean. tt;
                crash = survives_then old last new (λ _. ⊥) Commits (CommitsTables next old) (λ _ db none. absurd none)
                    (λ clean db it. commits_next (was clean) (done (was clean)) db it) so_far late;
              };
          ends = λ clean idle. (released_alone idle (was clean) (stays (was clean)) new (released clean)).mode;
          within = λ on.
              let shown = λ (clean : HasCleanDisk new). released_within on (was clean) (stays (was clean)) new (released clean) in
              record {
                clean = λ clean. omega (arith, so_far.clean, late.clean, clean);
                was_open = λ clean. and_both old.is_open old.in_transaction (opened clean) on;
                is_open = λ clean. and_both new.is_open new.in_transaction (shown clean).is_open (shown clean).mode;
                done = λ clean s r.
                    let next = to clean s (holds_seen old s on (opened clean) r) in
                    record {
                      state = next.0;
                      is = next.1;
                      rests = rests_seen new next.0 (subst (λ (d : Database). Holds d next.0) (sym (shown clean).now_is) next.2);
                      lasts = record {
                        each = λ db may. subst (λ (t : Trees). Keeps t next.0)
                            (sym (may.1 ∙ ap (λ (d : Database). d.trees) (shown clean).now_is)) (keeps_of last.now next.0 next.2);
                      };
                    };
                failed = λ clean. tt;
                crash = seen old new (CommitsTables next (in_round old)) on (nothing on) (λ clean db is_open still is. inr (record {
                  was_open = and_both old.is_open old.in_transaction (opened clean) on;
                  stands = λ s r.
                      let next = to clean s (holds_seen old s on (opened clean) r) in
                      record {
                        state = next.0;
                        is = next.1;
                        keeps = subst (λ (t : Trees). Keeps t next.0)
                            (sym (is ∙ ap (λ (d : Database). d.trees) (shown clean).now_is)) (keeps_of last.now next.0 next.2);
                      };
                }));
              };
          uncommitted = nothing;
        }

-- ---- no savepoint is begun

pub unmarked_call : {A E X : Type 0} (old new : Connected) (next : State → Option State) (r : Result A E) (marking : Result X Error) (e : Error) → IsErr r
    → marking ≡ Err e → FailsToMark old new marking → ByMode (λ o n. WritesTables {A = A} {E = E} next o n r) old new
unmarked_call old new next (Ok a) marking e err is failed = absurd cc
unmarked_call {X = X} old new next (Err f) marking e err is failed =
    let back : HasCleanDisk new → IsRolledBack old new =
    λ clean. (subst (λ (m : Result X Error). IfErr m (Fails old new ⊥)) is (failed.0 clean)).3 in
    record {
      alone = λ idle. record {
        clean = λ clean. omega (arith, failed.1.clean, clean);
        was_open = λ clean. tt;
        is_open = λ clean. tt;
        done = λ clean. tt;
        failed = λ clean s r. rests_after old old new s r (record { was_open = λ h. h; committed = λ _. refl }) (back clean);
        crash = survives_then old old new (λ _. ⊥) (λ _. ⊥) (CommitsTables next old) (λ _ db none. absurd none) (λ _ db none. absurd none)
            (survives_same old (λ _. ⊥)) failed.1;
      };
      ends = λ clean idle. (back clean).autocommit;
      within = λ on. record {
        clean = λ clean. omega (arith, failed.1.clean, clean);
        was_open = λ clean. tt;
        is_open = λ clean. tt;
        done = λ clean. tt;
        failed = λ clean s r. rests_lost new s r.knows (back clean).autocommit;
        crash = seen old new (CommitsTables next (in_round old)) on failed.1 (λ clean db opened still is.
            absurd (true≢false (sym still ∙ (back clean).autocommit)));
      };
      uncommitted = λ on. failed.1;
    }

-- ---- the same of connections: one begins the savepoint, and is given back as `h`

module _ {S : Type 0} (g : Ghosts S) (old begun : Held S) (at : ℕ)
    (marked : HasCleanDisk (state g begun) → (at ≡ length (state g old).marks) × Marks (state g old) (state g begun) [])
    (first : Survives (state g old) (state g begun) (λ _. ⊥)) (last : Connected) (inside : IsInside (at + 1) (state g begun) last) (end h : Held S)
    (same : end ≡ h) (end_at : ℕ) (here : end_at ≡ at) (next : State → Option State) where
  -- the savepoint is dropped
  pub drops : {A E : Type 0} (r : Result A E) → IsErr r → Survives last (state g end) (λ _. ⊥)
      → (HasCleanDisk (state g end) → Discards last (state g end) end_at ⊎ ((e : Error) × FailsAtMark last (state g end) end_at e))
      → WritesBy next (state g old) (state g h) r
  drops r err late undone =
      subst (λ (k : Held S). WritesBy next (state g old) (state g k) r) same
      (dropped (state g old) (state g begun) last at marked first inside (state g end) next r err late
      (subst (λ k. HasCleanDisk (state g end) → Discards last (state g end) k ⊎ ((e : Error) × FailsAtMark last (state g end) k e)) here undone))

  -- its commit fails
  pub fails_to_commit : {A E : Type 0} (r : Result A E) (e : Error) → IsErr r
      → Survives last (state g end) (λ db. IsTrue (begins_at last end_at) × (db ≡ last.now.trees)) → (HasCleanDisk last → Follows (state g begun) last next)
      → (HasCleanDisk last → IsTrue last.in_transaction) → (HasCleanDisk (state g end) → FailsAtMark last (state g end) end_at e)
      → WritesBy next (state g old) (state g h) r
  fails_to_commit r e err late done stays failed =
      subst (λ (k : Held S). WritesBy next (state g old) (state g k) r) same
      (uncommitted (state g old) (state g begun) last at marked first inside (state g end) next r e err
      (subst (λ k. Survives last (state g end) (λ db. IsTrue (begins_at last k) × (db ≡ last.now.trees))) here late) done stays
      (subst (λ k. HasCleanDisk (state g end) → FailsAtMark last (state g end) k e) here failed))

  -- it is committed
  pub commits : {A E : Type 0} (a : A) → Survives last (state g end) (λ db. IsTrue (begins_at last end_at) × (db ≡ last.now.trees))
      → (HasCleanDisk last → Follows (state g begun) last next) → (HasCleanDisk last → IsTrue last.in_transaction)
      → (HasCleanDisk (state g end) → ReleasesAt last (state g end) end_at)
      → ((db : Trees) → IsTrue (state g end).is_open → (state g end).may_leave db → db ≡ (state g end).committed.trees)
      → WritesBy {A = A} {E = E} next (state g old) (state g h) (Ok a)
  commits {A} {E} a late done stays released settled =
      subst (λ (k : Held S). WritesBy {A = A} {E = E} next (state g old) (state g k) (Ok a)) same
      (committed (state g old) (state g begun) last at marked first inside (state g end) next a
      (subst (λ k. Survives last (state g end) (λ db. IsTrue (begins_at last k) × (db ≡ last.now.trees))) here late) done stays
      (subst (λ k. HasCleanDisk (state g end) → ReleasesAt last (state g end) k) here released) settled)

-- A query within a round: nothing changes, and nothing is committed.
use Rattle.std.proofs.Common.{◌≡◌, ◌⊎◌, inl, inr, ap, sym, subst, ◌∙◌, arith, refl, true≢false, ℕ, List, Bool, not, true, false, Some, Result, Ok, Err, IfOk, IfErr, IsErr, IsTrue}
use Rattle.sqlite_trees.specs.Tree.{Trees}
use Rattle.sqlite.specs.Order.{Row}
use Rattle.sqlite.specs.Effect.{Database}
use Rattle.sqlite.specs.Listing.{understood}
use Rattle.sqlite.specs.declared.error.Error.{Error}
use Rattle.sqlite.specs.State.{State as Connected, HasCleanDisk, Survives, Shown, FailsToQuery, CommitsShowing, IsRolledBack}
use Rattle.sqlite.proofs.Callers.{IsPlain}
use Rattle.sqlite.proofs.StateLemmas.{survives_weaker}
use Rattle.sql_tables.proofs.Inside.{fails_to_query, shown_open, shown_same}
use Rattle.sql_tables.proofs.Asking.{shown_alike, shown_is_open, shown_stays}
use Rattle.as2_exchange.specs.State.{State}
use Rattle.as2_store.specs.Tables.{Way, store_schema}
use Rattle.as2_store.specs.Stands.{Holds, Rests}
use Rattle.as2_store.specs.Calls.{CommitsTables, Keeps, ReadsTables}
use Rattle.as2_store.specs.Rounds.{ByMode, ReadsBy, in_round}
use Rattle.as2_store.proofs.Committing.{keeps_of, survives_same}
use Rattle.as2_store.proofs.Seen.{and_both, holds_seen, rests_lost, rests_seen, seen}

-- it isn't in autocommit
pub is_within : (b : Bool) → not b ≡ false → IsTrue b
is_within true h = refl
is_within false h = absurd (true≢false h)

-- it is
pub is_idle : (r b : Bool) → r ≡ not b → IsTrue r → b ≡ false
is_idle r true same h = absurd (true≢false (sym h ∙ same))
is_idle r false same h = refl

-- a read that is refused, and touches nothing
pub untouched : {A E : Type 0} (fits : State → A → Type 0) (old : Connected) (r : Result A E) → IsErr r → ReadsBy fits old old r
untouched fits old (Ok a) err = absurd cc
untouched fits old (Err e) err = record {
  alone = λ idle. record {
    clean = λ clean. clean;
    was_open = λ clean. tt;
    is_open = λ clean. tt;
    answer = λ clean. tt;
    same = λ clean s r. r;
    crash = survives_same old (CommitsTables Some old);
  };
  ends = λ clean idle. idle;
  within = λ on. record {
    clean = λ clean. clean;
    was_open = λ clean. tt;
    is_open = λ clean. tt;
    answer = λ clean. tt;
    same = λ clean s r. r;
    crash = survives_same (in_round old) (CommitsTables Some (in_round old));
  };
  uncommitted = λ on. survives_same old (λ _. ⊥);
}

-- a read that was made alone
pub alone_by : {A E : Type 0} (fits : State → A → Type 0) (old new : Connected) (r : Result A E) → old.in_transaction ≡ false → new.in_transaction ≡ false
    → ReadsTables fits old new r → ReadsBy fits old new r
alone_by fits old new r idle after it = record {
  alone = λ _. it;
  ends = λ clean _. after;
  within = λ on. absurd (true≢false (sym on ∙ idle));
  uncommitted = λ on. absurd (true≢false (sym on ∙ idle));
}

-- within a transaction no query commits
showing_none : (sql : List ℕ) (params : Row) (old : Connected) (db : Trees) → IsTrue old.in_transaction → CommitsShowing sql params old db → ⊥
unfolding CommitsShowing
showing_none sql params old db on it = true≢false (sym on ∙ it.3.0)

module _ {V : Type 0} (items : V → List Row) (sql : List ℕ) (params : Row) (old new : Connected) (on : IsTrue old.in_transaction)
    (plain : (way : Way) → IsPlain (understood (store_schema way) sql)) (nothing : Survives old new (λ _. ⊥)) where
  -- over a store's tables it changes nothing
  same : (rows : List Row) (s : State) → Holds old.now s → Shown sql params old new rows → new.now ≡ old.now
  same rows s it shown =
      (shown_same sql params old new rows (subst (λ k. IsPlain (understood k sql)) (sym it.stands.schema) (plain it.way)) shown).0.now_is

  went : (r : Result V Error) → (HasCleanDisk new → IfOk r (λ v. Shown sql params old new (items v)))
      → (HasCleanDisk new → IfErr r (λ e. FailsToQuery sql params old new e))
      → ReadsTables (λ s v. Shown sql params old old (items v)) (in_round old) (in_round new) r
  went (Ok v) ok err =
      let opened = λ (clean : HasCleanDisk new). shown_open sql params old new (items v) (ok clean) in
      record {
        clean = λ clean. omega (arith, nothing.clean, clean);
        was_open = λ clean. and_both old.is_open old.in_transaction (opened clean) on;
        is_open = λ clean. and_both new.is_open new.in_transaction (shown_is_open sql params old new (items v) (ok clean))
            (shown_stays sql params old new (items v) on (ok clean));
        answer = λ clean s r.
            let it = holds_seen old s on (opened clean) r in
            shown_alike old old new refl refl sql params (items v) (subst (λ k. IsPlain (understood k sql)) (sym it.stands.schema) (plain it.way)) (ok clean);
        same = λ clean s r.
            let it = holds_seen old s on (opened clean) r in
            rests_seen new s (subst (λ (d : Database). Holds d s) (sym (same (items v) s it (ok clean))) it);
        crash = seen old new (CommitsTables Some (in_round old)) on nothing (λ clean db is_open still is. inr (record {
          was_open = and_both old.is_open old.in_transaction (opened clean) on;
          stands = λ s r.
              let it = holds_seen old s on (opened clean) r in
              record {
                state = s;
                is = refl;
                keeps = subst (λ (t : Trees). Keeps t s)
                    (sym (is ∙ ap (λ (d : Database). d.trees) (same (items v) s it (ok clean)))) (keeps_of old.now s it);
              };
        }));
      }
  went (Err e) ok err = record {
    clean = λ clean. omega (arith, nothing.clean, clean);
    was_open = λ clean. tt;
    is_open = λ clean. tt;
    answer = λ clean. tt;
    same = λ clean s r. elim (fails_to_query sql params old new e (err clean)) [
      | inl still ↦ rests_seen new s (subst (λ (d : Database). Holds d s) (sym still.0.now_is) (holds_seen old s on still.0.was_open r))
      | inr back ↦ rests_lost new s r.knows back.autocommit
    ];
    crash = seen old new (CommitsTables Some (in_round old)) on nothing (λ clean db opened still is. elim (fails_to_query sql params old new e (err clean)) [
      | inl kept ↦ inl (kept.0.was_open, is ∙ ap (λ (d : Database). d.trees) kept.0.now_is)
      | inr back ↦ absurd (true≢false (sym still ∙ back.autocommit))
    ]);
  }

-- a read within a round
pub queried_within : {V : Type 0} (items : V → List Row) (sql : List ℕ) (params : Row) (old new : Connected) (r : Result V Error) → IsTrue old.in_transaction
    → ((way : Way) → IsPlain (understood (store_schema way) sql)) → (HasCleanDisk new → IfOk r (λ v. Shown sql params old new (items v)))
    → (HasCleanDisk new → IfErr r (λ e. FailsToQuery sql params old new e)) → Survives old new (CommitsShowing sql params old)
    → ReadsBy (λ s v. Shown sql params old old (items v)) old new r
queried_within items sql params old new r on plain ok err survives =
    let nothing = survives_weaker old new (CommitsShowing sql params old) (λ _. ⊥) (λ clean db it. showing_none sql params old db on it) survives in
    record {
      alone = λ idle. absurd (true≢false (sym on ∙ idle));
      ends = λ clean idle. absurd (true≢false (sym on ∙ idle));
      within = λ _. went items sql params old new on plain nothing r ok err;
      uncommitted = λ _. nothing;
    }

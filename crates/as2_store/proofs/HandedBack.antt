-- What is handed back, where a connection is refused; and what is adopted.
use Rattle.std.proofs.Common.{◌≡◌, ◌⊎◌, inl, inr, ℕ, List, [], ◌∷◌, codes, Some, None, Ok, IsTrue, true, false, refl, sym, ap, subst, ◌∙◌, arith}
use Rattle.sqlite_trees.specs.Tree.{Trees}
use Rattle.sqlite.specs.Store.{Ghosts}
use Rattle.sqlite.specs.Held.{Held, state}
use Rattle.sqlite.specs.Order.{Row}
use Rattle.sqlite.specs.Steps.{FailsToCommit}
use Rattle.sqlite.specs.declared.error.Error.{Error}
use Rattle.sqlite.specs.State.{State as Connected, HasCleanDisk, Survives, IsRolledBack, Shown, FailsToQuery, IsTooLate}
use Rattle.sqlite.proofs.StateLemmas.{survives_then}
use Rattle.sqlite.proofs.Callers.{survives_begin}
use Rattle.sql_tables.specs.Changes.{IsOutside}
use Rattle.sql_tables.proofs.Inside.{failed_or_open, shown_open}
use Rattle.as2_exchange.specs.State.{State}
use Rattle.as2_exchange.specs.declared.fault.StoreFault.{StoreFault}
use Rattle.as2_exchange.specs.declared.fault.StoreFault.TheVariants.{NotAStore}
use Rattle.sqlite.specs.Schema.{Schema}
use Rattle.as2_store.proofs.Statements.{meta_read_text}
use Rattle.as2_store.specs.Tables.{current_number}
use Rattle.as2_store.specs.Stands.{Holds, MetaSays, adoption_fault}
use Rattle.as2_records.specs.Standing.{may_come}
use Rattle.as2_store.specs.Calls.{IsInside, IsGivenBack, IsReason, WritesTables, Adopts}
use Rattle.as2_store.proofs.TransactionEnds.{undone}
use Rattle.as2_store.proofs.MetaRow.{said_fails, reads_said, says_held, meta_cells}

-- ---- a transaction that is given up

pub gives_back : {S : Type 0} (g : Ghosts S) (old : Held S) (last : Connected) (end : Held S) (late commits : Trees → Type 0)
    → IsInside 0 (state g (record old { in_transaction = true })) last → Survives last (state g end) late
    → (HasCleanDisk last → (db : Trees) → late db → commits db) → (state g end).in_transaction ≡ false
    → (HasCleanDisk (state g end) → IsRolledBack last (state g end)) → IsGivenBack commits (state g old) (state g end)
gives_back g old last end late commits inside survives leads autocommit back =
    let was : HasCleanDisk (state g end) → HasCleanDisk last = λ clean. omega (arith, survives.clean, clean) in
    record {
      clean = λ clean. inside.clean (was clean);
      autocommit = autocommit;
      was_open = λ clean opened. (inside.kept (was clean)).was_open ((back clean).was_open opened);
      tables = λ clean opened committed.
          let it = back clean in
          let was_open = it.was_open opened in
          let kept = (inside.kept (was clean)).committed was_open ∙ committed in
          ((it.undone opened).0 ∙ kept, (it.undone opened).1 ∙ kept);
      crash = survives_then (state g old) last (state g end) (λ _. ⊥) late commits (λ _ db none. absurd none)
          (λ clean db is. leads (omega (arith, survives.clean, clean)) db is)
          (survives_begin g old last (λ _. ⊥) inside.survives) survives;
    }

-- the ends of a call, whose connection is given back as `h`
module _ {S : Type 0} (g : Ghosts S) (old : Held S) (last : Connected) (end h : Held S) (same : end ≡ h) (commits : Trees → Type 0)
    (inside : IsInside 0 (state g (record old { in_transaction = true })) last) where
  -- the transaction is dropped
  pub hands_back : Survives last (state g end) (λ _. ⊥) → (state g end).in_transaction ≡ false
      → (HasCleanDisk (state g end) → IsRolledBack last (state g end)) → IsGivenBack commits (state g old) (state g h)
  hands_back late ended back =
      subst (λ (h : Held S). IsGivenBack commits (state g old) (state g h)) same
      (gives_back g old last end (λ _. ⊥) commits inside late (λ clean db none. absurd none) ended back)

  -- its commit fails
  pub hands_back_uncommitted : (e : Error) → Survives last (state g end) (λ db. db ≡ last.now.trees)
      → (HasCleanDisk last → (db : Trees) → db ≡ last.now.trees → commits db) → (state g end).in_transaction ≡ false
      → (HasCleanDisk last → IsTrue last.in_transaction) → (HasCleanDisk (state g end) → FailsToCommit last (state g end) e)
      → IsGivenBack commits (state g old) (state g h)
  hands_back_uncommitted e late leads ended within failed =
      subst (λ (h : Held S). IsGivenBack commits (state g old) (state g h)) same
      (gives_back g old last end (λ db. db ≡ last.now.trees) commits inside late leads ended
      (λ clean. undone last (state g end) e (within (omega (arith, late.clean, clean))) (failed clean)))

-- ---- why the row of `meta` can't be read

-- a query that failed in the transaction: for a reason from outside, or the connection was open before
pub fails_by : {S : Type 0} (g : Ghosts S) (old : Held S) (mid : Connected) (e : Error)
    → FailsToQuery meta_read_text [] (state g (record old { in_transaction = true })) mid e
    ⊎ IsTooLate meta_read_text [] (state g (record old { in_transaction = true })) mid e
    → IsOutside e ⊎ IsTrue (state g old).is_open
fails_by g old mid e (inl failed) = failed_or_open meta_read_text [] (state g (record old { in_transaction = true })) mid e failed
fails_by g old mid e (inr late) = absurd (let outside = late.3 in cc)

says_inside : {S : Type 0} (g : Ghosts S) (old : Held S) (kind : List ℕ) (version : ℕ) → MetaSays (state g old) kind version
    → MetaSays (state g (record old { in_transaction = true })) kind version
says_inside g old kind version it =
    record { next_receipt = it.next_receipt; next_document = it.next_document; tables = it.tables; indexes = it.indexes; schema = it.schema; meta = it.meta }

pub row_fails : {S : Type 0} (g : Ghosts S) (old : Held S) (mid : Connected) (e : Error)
    → FailsToQuery meta_read_text [] (state g (record old { in_transaction = true })) mid e
    ⊎ IsTooLate meta_read_text [] (state g (record old { in_transaction = true })) mid e
    → (kind : List ℕ) (version : ℕ) → MetaSays (state g old) kind version → IsOutside e
row_fails g old mid e (inl failed) kind version it =
    said_fails (state g (record old { in_transaction = true })) mid e kind version (says_inside g old kind version it) failed
row_fails g old mid e (inr late) kind version it = absurd (let outside = late.3 in cc)

pub row_shown : {S : Type 0} (g : Ghosts S) (old : Held S) (mid : Connected) (rows : List Row)
    → Shown meta_read_text [] (state g (record old { in_transaction = true })) mid rows → (kind : List ℕ) (version : ℕ)
    → (it : MetaSays (state g old) kind version)
    → rows ≡ meta_cells kind version it.next_receipt it.next_document ∷ []
unfolding says_inside
row_shown g old mid rows shown kind version it =
    reads_said (state g (record old { in_transaction = true })) mid rows shown kind version (says_inside g old kind version it)

-- a fault from outside is one that may come, whatever the tables are
pub comes : (c : Connected) (f : StoreFault) → may_come f ≡ true → IsReason c f
comes c f is = record { of_store = λ s r. is; of_row = λ kind version it. inl is; of_blank = λ blank. inl is }

-- a query that fails
pub unread_by : {S : Type 0} (g : Ghosts S) (old : Held S) (mid : Connected) (e : Error) (f : StoreFault)
    → FailsToQuery meta_read_text [] (state g (record old { in_transaction = true })) mid e
    ⊎ IsTooLate meta_read_text [] (state g (record old { in_transaction = true })) mid e
    → (IsOutside e → may_come f ≡ true) → (may_come f ≡ true) ⊎ (f ≡ NotAStore) → IsReason (state g old) f
unread_by g old mid e f failed outside known = record {
  of_store = λ s r. elim (fails_by g old mid e failed) [
    | inl out ↦ outside out
    | inr opened ↦ outside
        (row_fails g old mid e failed (codes "as2-station") current_number (says_held (state g old) s (r.stands opened)))
  ];
  of_row = λ kind version it. inl (outside (row_fails g old mid e failed kind version it));
  of_blank = λ blank. known;
}

tables_of_store : (c : Connected) (s : State) → Holds c.now s → c.now.schema.tables ≡ [] → ⊥
tables_of_store c s it none = let same = sym (ap (λ (k : Schema). k.tables) it.stands.schema) ∙ none in cc

tables_said : (c : Connected) (kind : List ℕ) (version : ℕ) → MetaSays c kind version → c.now.schema.tables ≡ [] → ⊥
tables_said c kind version it none = let same = sym (ap (λ (k : Schema). k.tables) it.schema) ∙ none in cc

-- there is no table
pub bare_by : (old : Connected) → IsTrue old.is_open → old.now.schema.tables ≡ [] → IsReason old NotAStore
bare_by old opened none = record {
  of_store = λ s r. absurd (tables_of_store old s (r.stands opened) none);
  of_row = λ kind version it. absurd (tables_said old kind version it none);
  of_blank = λ blank. inr refl;
}

-- what the row says, where there are tables
pub said_by : {S : Type 0} (g : Ghosts S) (old : Held S) (mid : Connected) (rows : List Row) (f : StoreFault)
    → Shown meta_read_text [] (state g (record old { in_transaction = true })) mid rows
    → ((kind : List ℕ) (version n m : ℕ) → rows ≡ meta_cells kind version n m ∷ [] → Some f ≡ adoption_fault kind version)
    → ((state g old).now.schema.tables ≡ [] → ⊥) → IsReason (state g old) f
said_by g old mid rows f shown says tables =
    let opened = shown_open meta_read_text [] (state g (record old { in_transaction = true })) mid rows shown in
    record {
      of_store = λ s r.
          let it = says_held (state g old) s (r.stands opened) in
          let none : Some f ≡ None =
          says (codes "as2-station") current_number it.next_receipt it.next_document
          (row_shown g old mid rows shown (codes "as2-station") current_number it) in
          absurd cc;
      of_row = λ kind version it. inr (sym (says kind version it.next_receipt it.next_document (row_shown g old mid rows shown kind version it)));
      of_blank = λ blank. absurd (tables (ap (λ (k : Schema). k.tables) (blank.no_table opened)));
    }

-- ---- what is adopted

pub adopts : {S : Type 0} (g : Ghosts S) (old : Held S) (mid : Connected) (end : Held S) (rows : List Row) {A E : Type 0} (a : A)
    → WritesTables {A = A} {E = E} Some (state g old) (state g end) (Ok a) → (HasCleanDisk (state g end) → HasCleanDisk mid)
    → (HasCleanDisk mid → Shown meta_read_text [] (state g (record old { in_transaction = true })) mid rows)
    → ((kind : List ℕ) (version n m : ℕ) → rows ≡ meta_cells kind version n m ∷ [] → None ≡ adoption_fault kind version)
    → ((state g old).now.schema.tables ≡ [] → ⊥)
    → Adopts (state g old) (state g end)
adopts g old mid end rows a it was shown says tables = record {
  clean = it.clean;
  is_open = it.is_open;
  done = it.done;
  adoption_fault = λ clean kind version said. sym
      (says kind version said.next_receipt said.next_document (row_shown g old mid rows (shown (was clean)) kind version said));
  no_blank = λ clean blank. tables (ap (λ (k : Schema). k.tables) (blank.no_table (it.was_open clean)));
  crash = it.crash;
}

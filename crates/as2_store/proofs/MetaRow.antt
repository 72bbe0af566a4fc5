-- The row of `meta`: how it is read, and how its counter is raised.
use Rattle.std.proofs.Common.{◌≡◌, ◌≢◌, ◌+◌, ◌==◌, ◌&&◌, length, cond, inl, inr, ℕ, ◌<◌, ◌^◌, List, [], ◌∷◌, map, codes, Option, Ok, true, true≢false, refl, sym, ap, subst, ◌∙◌, pos, negsuc, arith, rules, w64, to_z, of_z, IsPermutation, Bool, false}
use Rattle.std.proofs.lemmas.Int.{to_z-of_z}
use Rattle.std.proofs.lemmas.Bool.Decides.{nat_tests}
use Rattle.as2_store.proofs.QueriedRows.{and_true}
use Rattle.sqlite.specs.declared.types.Value.TheVariants.{Int, Text}
use Rattle.sqlite.specs.Order.{Row}
use Rattle.sqlite.specs.Term.{lit}
use Rattle.sqlite.specs.Query.{inner, end}
use Rattle.sqlite.specs.Program.{overlay}
use Rattle.sqlite.specs.Table.{Table}
use Rattle.sqlite_schema.specs.declared.schema.Index.{Index}
use Rattle.sqlite.specs.Effect.{Database, RefusesToRead}
use Rattle.sqlite.specs.Listing.{understood, reads_listing, IsSourceOf}
use Rattle.sqlite.specs.declared.error.Error.{Error}
use Rattle.sqlite.specs.declared.error.Error.TheVariants.{SqliteFailure}
use Rattle.sqlite.specs.declared.error.ErrorCode.TheVariants.{OperationInterrupted}
use Rattle.sqlite.specs.State.{State as Connected, FailsToQuery, Shown, Executes}
use Rattle.sqlite.proofs.Callers.{IsPlain, command_of, reads_as, one_permutation}
use Rattle.sqlite_typing.specs.Types.{accepts_program}
use Rattle.sqlite_sql.proofs.QueryLemmas.{no_fold_overflows}
use Rattle.sqlite_tied.specs.Compute.{everything}
use Rattle.sql_tables.specs.Changes.{ChangesTable, over_table, shown_of, chosen_rows, passes, IsOutside}
use Rattle.sql_tables.proofs.Writes.{cast_int}
use Rattle.sql_tables.proofs.Changing.{updates}
use Rattle.sql_tables.proofs.Inside.{shown_open}
use Rattle.sql_tables.proofs.Queries.{in_any_order, numbers_equal}
use Rattle.sql_tables.proofs.Failing.{HasParameters, fails_outside}
use Rattle.as2_exchange.specs.State.{State}
use Rattle.as2_rows.specs.Rows.{whole}
use Rattle.as2_store.specs.Tables.{Way, Layout, VersionThree, number_of, current_number, behind_meta, indexes_of, store_schema, meta_tree, meta_table}
use Rattle.as2_store.proofs.Statements.{meta_read_text, receipt_text, document_text}
use Rattle.as2_store.specs.Stands.{Stands, Holds, MetaSays, HasCounters, meta_row, meta_shown, HoldsIfOpen}
use Rattle.as2_store.proofs.ForeignKeys.{quiet}
use Rattle.as2_store.proofs.Texts.{meta_command, meta_columns, with_meta_first, meta_read_is, meta_read_plain, meta_read_unlisted, receipt_terms, receipt_project, receipt_is, receipt_plain, document_terms, document_project, document_is, document_plain}

-- a number that is passed as i64
pub fits_i64 : (n : ℕ) → n < 2 ^ 63 → to_z w64 (of_z w64 (pos n)) ≡ pos n
fits_i64 n h = to_z-of_z w64 (pos n) (search rules)

-- ---- reading it

takes : (tables : List Table) (indexes : List Index) → HasParameters meta_read_text 0 (understood (with_meta_first tables indexes) meta_read_text)
unfolding understood everything
takes tables indexes = (omega arith, refl)

accepts : (tables : List Table) (indexes : List Index)
    → accepts_program (with_meta_first tables indexes) [] (over_table meta_tree [] meta_columns [] (lit (Int (negsuc 0)))) [] ≡ true
accepts tables indexes = refl

stops : (tables : List Table) (indexes : List Index) (limit : Option ℕ) (db : Database) (e : Error) → db.schema ≡ with_meta_first tables indexes
    → RefusesToRead limit meta_command db [] e → e ≡ SqliteFailure OperationInterrupted
stops tables indexes limit db e has (inl typed) =
    absurd (true≢false (sym (accepts tables indexes)
    ∙ ap (λ s. accepts_program s [] (over_table meta_tree [] meta_columns [] (lit (Int (negsuc 0)))) []) (sym has) ∙ typed.1))
stops tables indexes limit db e has (inr (inl over)) =
    absurd (elim over.1 [ inl group ↦ group | inr fold ↦ no_fold_overflows (overlay db.trees []) (inner meta_tree end) ([] ∷ []) refl fold ])
stops tables indexes limit db e has (inr (inr stop)) = stop.0

-- where the row is there, it can be read but for a cause from outside
pub said_fails : (old new : Connected) (e : Error) (kind : List ℕ) (version : ℕ) → MetaSays old kind version → FailsToQuery meta_read_text [] old new e
    → IsOutside e
said_fails old new e kind version it h =
    let has = it.schema in
    fails_outside meta_read_text [] old new e (subst (λ s. IsPlain (understood s meta_read_text)) (sym has) (meta_read_plain it.tables it.indexes))
    (subst (λ s. HasParameters meta_read_text 0 (understood s meta_read_text)) (sym has) (takes it.tables it.indexes))
    (λ c db is source refused.
    let command : c.command ≡ meta_command = ap command_of (sym is ∙ ap (λ s. understood s meta_read_text) has) ∙ meta_read_is it.tables it.indexes in
    let same : db ≡ old.now =
    subst (λ b. IsSourceOf b old.now db) (ap (λ s. reads_listing s meta_read_text) has ∙ meta_read_unlisted it.tables it.indexes) source in
    stops it.tables it.indexes old.step_limit db e (ap (λ (d : Database). d.schema) same ∙ has)
    (subst (λ k. RefusesToRead old.step_limit k db [] e) command refused))
    h

abbrev pub meta_cells : List ℕ → ℕ → ℕ → ℕ → Row
meta_cells kind version n m = Text kind ∷ whole version ∷ whole n ∷ whole m ∷ []

-- the row is shown as it is
pub reads_said : (old new : Connected) (rows : List Row) → Shown meta_read_text [] old new rows → (kind : List ℕ) (version : ℕ)
    → (it : MetaSays old kind version) → rows ≡ meta_cells kind version it.next_receipt it.next_document ∷ []
reads_said old new rows h kind version it =
    let read = reads_as meta_read_text [] old new (with_meta_first it.tables it.indexes) it.schema meta_command (meta_read_is it.tables it.indexes)
    (meta_read_plain it.tables it.indexes) (meta_read_unlisted it.tables it.indexes) rows h in
    let all = in_any_order meta_tree [] meta_columns old.now.trees [] rows read.answer in
    one_permutation (meta_cells kind version it.next_receipt it.next_document) rows
    (subst (λ l. IsPermutation (map (shown_of meta_columns []) (chosen_rows [] [] l)) rows) it.meta all)

-- the tables of a store say its kind and its version
unfoldable pub says_of : (layout : Layout) (c : Connected) (s : State) → Stands layout c.now s → MetaSays c (codes "as2-station") (number_of layout)
says_of layout c s it = record {
  next_receipt = s.next_in;
  next_document = s.next_out;
  tables = behind_meta layout;
  indexes = indexes_of layout;
  schema = it.schema;
  meta = it.meta;
}

pub says_held : (c : Connected) (s : State) → Holds c.now s → MetaSays c (codes "as2-station") current_number
says_held c s it = says_of (VersionThree it.way) c s it.stands

pub reads_meta : (old new : Connected) (rows : List Row) → Shown meta_read_text [] old new rows → (s : State) → HoldsIfOpen old s
    → rows ≡ meta_shown current_number s.next_in s.next_out ∷ []
unfolding says_of says_held
reads_meta old new rows h s r =
    reads_said old new rows h (codes "as2-station") current_number (says_held old s (r (shown_open meta_read_text [] old new rows h)))

-- ---- raising its counter

abbrev pub one_param : ℕ → Row
one_param n = Int (pos n) ∷ []

abbrev pub raise_params : ℕ → Row
raise_params n = Int (pos n) ∷ Int (pos (n + 1)) ∷ []

-- where a row was changed, it had this number
pub counts_receipts : (way : Way) (old new : Connected) (number count n m : ℕ) → Executes receipt_text (raise_params number) old new (Ok count)
    → HasCounters way old.now n m → count ≢ 0
    → (number ≡ n) × ChangesTable old new (store_schema way) meta_tree (meta_row current_number (number + 1) m ∷ [])
counts_receipts way old new number count n m h has some =
    let done = updates receipt_text (raise_params number) old new (store_schema way) has.schema 0 meta_table refl receipt_terms receipt_project
    (λ _. pos 1) (λ k. meta_row current_number k m) (λ _. refl) (λ _. meta_row current_number (number + 1) m) (λ _. refl) (λ _. simp cast_int)
    (n ∷ []) has.meta (tt, tt) (quiet way meta_tree) (receipt_is way) (receipt_plain way) count h in
    go (passes receipt_terms (raise_params number) (meta_row current_number n m)) (ap (λ b. b && true) (numbers_equal n number) ∙ and_true _) done.0 done.1
  where
    go : (t : Bool) → t ≡ (n == number)
        → ChangesTable old new (store_schema way) meta_tree (cond t (meta_row current_number (number + 1) m) (meta_row current_number n m) ∷ [])
        → count ≡ length (cond t (n ∷ []) []) → (number ≡ n) × ChangesTable old new (store_schema way) meta_tree (meta_row current_number (number + 1) m ∷ [])
    go true is changed counted = (grind (arith, nat_tests, is), changed)
    go false is changed counted = absurd (some counted)

pub counts_documents : (way : Way) (old new : Connected) (number count n m : ℕ) → Executes document_text (raise_params number) old new (Ok count)
    → HasCounters way old.now n m → count ≢ 0
    → (number ≡ m) × ChangesTable old new (store_schema way) meta_tree (meta_row current_number n (number + 1) ∷ [])
counts_documents way old new number count n m h has some =
    let done = updates document_text (raise_params number) old new (store_schema way) has.schema 0 meta_table refl document_terms document_project
    (λ _. pos 1) (λ k. meta_row current_number n k) (λ _. refl) (λ _. meta_row current_number n (number + 1)) (λ _. refl) (λ _. simp cast_int)
    (m ∷ []) has.meta (tt, tt) (quiet way meta_tree) (document_is way) (document_plain way) count h in
    go (passes document_terms (raise_params number) (meta_row current_number n m)) (ap (λ b. b && true) (numbers_equal m number) ∙ and_true _) done.0 done.1
  where
    go : (t : Bool) → t ≡ (m == number)
        → ChangesTable old new (store_schema way) meta_tree (cond t (meta_row current_number n (number + 1)) (meta_row current_number n m) ∷ [])
        → count ≡ length (cond t (m ∷ []) []) → (number ≡ m) × ChangesTable old new (store_schema way) meta_tree (meta_row current_number n (number + 1) ∷ [])
    go true is changed counted = (grind (arith, nat_tests, is), changed)
    go false is changed counted = absurd (some counted)

-- INSERT of what a query over another table shows.
use Rattle.std.proofs.Common.{◌≡◌, ◌≢◌, ◌∙◌, ℕ, ℤ, pos, ◌<◌, List, [], ◌∷◌, ◌++◌, map, drop, slice_get, Bool, false, cond, Some, Ok, refl, sym, ap, subst, negsuc, append_assoc, append-nil}
use Rattle.std.specs.List.{AllByRecursion}
use Rattle.sqlite.specs.declared.types.Value.TheVariants.{Int}
use Rattle.sqlite.specs.Cast.{cast_row}
use Rattle.sqlite.specs.Command.TheVariants.{Insert}
use Rattle.sqlite.specs.Edit.{edit_of, numbered, put_all, with_rowid, Applies}
use Rattle.sqlite.specs.Effect.{Answers, Database}
use Rattle.sqlite.specs.Listing.{understood}
use Rattle.sqlite.specs.Collation.{Collation}
use Rattle.sqlite.specs.Order.{Row}
use Rattle.sqlite.specs.Query.{IsSureAnswer}
use Rattle.sqlite.specs.Rowids.{Rowids}
use Rattle.sqlite.specs.Rowids.TheVariants.{Chosen}
use Rattle.sqlite.specs.Rows.{Written, count_of, rowids_for, stamped}
use Rattle.sqlite.specs.Schema.{Schema}
use Rattle.sqlite.specs.Source.TheVariants.{Query}
use Rattle.sqlite.specs.State.{State as Connected, Executes}
use Rattle.sqlite.specs.Table.{Table}
use Rattle.sqlite.specs.Term.{Term, lit}
use Rattle.sqlite.specs.Tree.{Trees, put_row, rowid, IsAscending}
use Rattle.sqlite.proofs.Callers.{IsPlain, command_of, one_step}
use Rattle.sqlite_schema.specs.declared.program.Program.{Program}
use Rattle.sqlite_schema.specs.declared.schema.Keys.TheVariants.{Enforced}
use Rattle.sqlite_schema.specs.Rules.{Fits}
use Rattle.sqlite_sql.specs.Ops.{is_null}
use Rattle.sqlite_value.specs.declared.keys.Key.{Key}
use Rattle.sqlite_trees.proofs.ListLemmas.{all-append}
use Rattle.sql_tables.specs.Changes.{ChangesTable, over_table}
use Rattle.sql_tables.proofs.Writes.{no_works, ran_insert, same_value, unless, went}
use Rattle.as2_store.proofs.NumberedRows.{puts_between}

-- the query that shows rows of a table; it compares none with another, so the collations say nothing
abbrev pub copy_of : ℕ → List Term → List Term → List (Term × Key) → List Collation → Program
copy_of tree terms project order by = record { lets = []; body = record (over_table tree terms project order (lit (Int (negsuc 0)))) { collations = by } }

pub none_compared : (tree : ℕ) (terms project : List Term) (order : List (Term × Key)) (by : List Collation) (db : Trees) (params : Row) (rows : List Row)
    → IsSureAnswer (record (over_table tree terms project order (lit (Int (negsuc 0)))) { collations = by }) db params rows
    → IsSureAnswer (over_table tree terms project order (lit (Int (negsuc 0)))) db params rows
none_compared tree terms project order by db params rows sure lost =
    let a = sure lost in
    record {
      staged = a.staged;
      grouped = a.grouped;
      kept = a.kept;
      distinct = a.distinct;
      ordered = a.ordered;
      same = a.same;
      sorted = a.sorted;
      shown = a.shown;
    }

-- ---- the statement

both_false : (b c : Bool) → b ≡ false → cond b c false ≡ false
both_false b c e = rw e

chosen_for : (table : Table) (top : ℤ) → table.is_counted ≡ false → rowids_for table top ≡ Chosen
chosen_for table top e = rw e

module _ (sql : List ℕ) (params : Row) (old new : Connected) (schema : Schema) (has : old.now.schema ≡ schema) (at : ℕ) (table : Table)
    (place : slice_get schema.tables at ≡ Some table)
    (uncounted : table.is_counted ≡ false) (unstamped : stamped table params ≡ params) (q : Program) where
  -- the rows that the query shows, and the edit that puts them in
  pub record Copied : Type 0 where
    pub sources : List Row
    pub answers : Answers (record { schema = schema; trees = old.now.trees }) q params sources
    pub changed : (rows : List Row)
        → put_all (old.now.trees table.tree) (numbered Chosen (old.now.trees table.tree) (map (λ s. cast_row table (drop 0 s)) sources)) ≡ rows
        → ChangesTable old new schema table.tree rows

  pub copies : command_of (understood schema sql) ≡ Insert at (Query q) → IsPlain (understood schema sql) → (count : ℕ)
      → Executes sql params old new (Ok count) → Copied
  copies is plain count h =
      let db = old.now.trees in
      let it = ran_insert sql params old new schema has at table place (Query q) is plain count h in
      let given = went it.ran in
      let counter = went given.2 in
      let edit = went counter.2 in
      let counts = went edit.2 in
      let top = count_of counter.0 in
      let E = λ (k : Rowids). edit_of db table [] k 0 given.0 in
      let does = one_step schema Enforced db edit.0 (E (rowids_for table top)) (no_works schema Enforced table.tree (E (rowids_for table top)).news) edit.1 in
      let done : Applies schema Enforced db (E Chosen) edit.0 = subst (λ k. Applies schema Enforced db (E k) edit.0) (chosen_for table top uncounted) does in
      let mid : counts.0 ≡ edit.0 = same_value (unless _ _ _ (both_false table.is_counted _ uncounted) counts.1) in
      let trees : it.written.trees ≡ edit.0 = ap (λ (w : Written). w.trees) (same_value counts.2) ∙ mid in
      let now = ap (λ (d : Database). d.trees) it.now_is ∙ trees in
      record {
        sources = given.0;
        answers = subst (λ ps. Answers (record { schema = schema; trees = db }) q ps given.0) unstamped given.1;
        changed = λ rows leads. record {
          schema_is = ap (λ (d : Database). d.schema) it.now_is;
          rows_are = ap (λ (t : Trees). t table.tree) now ∙ done.rows ∙ leads;
          others = subst (λ (t : Trees). AllByRecursion (λ u. u.tree ≢ table.tree → t u.tree ≡ db u.tree) schema.tables) (sym now) done.tables;
          fits = subst (λ t. Fits schema t) (sym now) done.fits;
          sound = it.sound;
          shown = it.shown;
          marks = it.marks;
        };
      }

-- ---- rows with their numbers, in order

with_given : (rows : List Row) (row : Row) → is_null (rowid row) ≡ false → with_rowid Chosen rows row ≡ row
with_given rows row given = rw given

module _ {X : Type 0} (row : X → Row) (number : X → ℕ) (keyed : (x : X) → rowid (row x) ≡ Int (pos (number x))) where
  all_given : (rows : List Row) (xs : List X) → numbered Chosen rows (map row xs) ≡ map row xs
  all_given rows [] = refl
  all_given rows (x ∷ xs) =
      let one = with_given rows (row x) (ap is_null (keyed x)) in
      ap (λ r. r ∷ numbered Chosen (put_row r rows) (map row xs)) one ∙ ap (λ l. row x ∷ l) (all_given (put_row (row x) rows) xs)

  puts_behind : (ys xs : List X) → AllByRecursion (λ y. AllByRecursion (λ x. number y < number x) xs) ys → IsAscending (λ x y. number x < number y) xs
      → put_all (map row ys) (map row xs) ≡ map row (ys ++ xs)
  puts_behind ys [] low up = ap (map row) (sym (append-nil ys))
  puts_behind ys (x ∷ xs) low up =
      ap (λ l. put_all l (map row xs)) (ap (λ l. put_row (row x) (map row l)) (sym (append-nil ys)) ∙ puts_between row number keyed x ys [] (firsts ys low) tt)
      ∙ puts_behind (ys ++ x ∷ []) xs (all-append (λ y. AllByRecursion (λ z. number y < number z) xs) ys (x ∷ []) (rests ys low) (up.0, tt)) up.1
      ∙ ap (map row) (append_assoc ys (x ∷ []) xs)
    where
      firsts : (ys : List X) → AllByRecursion (λ y. AllByRecursion (λ z. number y < number z) (x ∷ xs)) ys → AllByRecursion (λ y. number y < number x) ys
      firsts [] all = tt
      firsts (y ∷ ys) all = (all.0.0, firsts ys all.1)

      rests : (ys : List X) → AllByRecursion (λ y. AllByRecursion (λ z. number y < number z) (x ∷ xs)) ys
          → AllByRecursion (λ y. AllByRecursion (λ z. number y < number z) xs) ys
      rests [] all = tt
      rests (y ∷ ys) all = (all.0.1, rests ys all.1)

  pub puts_in_order : (rows : List Row) (xs : List X) → rows ≡ [] → IsAscending (λ x y. number x < number y) xs
      → put_all rows (numbered Chosen rows (map row xs)) ≡ map row xs
  puts_in_order rows xs none up = ap (λ l. put_all l (numbered Chosen l (map row xs))) none ∙ ap (put_all []) (all_given [] xs) ∙ puts_behind [] xs tt up

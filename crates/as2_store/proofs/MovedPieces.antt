-- What the statements leave that move the contents of a migrated inbox.
use Rattle.std.proofs.Common.{◌≡◌, ◌∙◌, ℕ, ℤ, ◌&&◌, nat_lt, List, [], ◌∷◌, ◌++◌, map, filter, Bool, true, not, Ok, refl, ap, subst, arith, IsPermutation, append-nil}
use Rattle.std.proofs.lemmas.List.Sorted.{IsPermutation-map, IsPermutation-trans, length_permutation}
use Rattle.sqlite.specs.declared.types.Value.TheVariants.{Null, Int}
use Rattle.sqlite.specs.Cast.{cast_row}
use Rattle.sqlite.specs.Collation.{Collation}
use Rattle.sqlite.specs.Command.TheVariants.{Delete, Insert}
use Rattle.sqlite.specs.Listing.{understood}
use Rattle.sqlite.specs.Order.{Row}
use Rattle.sqlite.specs.Program.{overlay}
use Rattle.sqlite.specs.Source.TheVariants.{Query}
use Rattle.sqlite.specs.State.{State as Connected, Executes}
use Rattle.sqlite.specs.Term.{Term}
use Rattle.sqlite.specs.Tree.{IsTable}
use Rattle.sqlite.proofs.Callers.{IsPlain, command_of}
use Rattle.sql_tables.specs.Changes.{ChangesTable, HasRows, numbered_row, passes}
use Rattle.sql_tables.proofs.Deleting.{delete_program, deletes}
use Rattle.sql_tables.proofs.Queries.{in_any_order, numbers_below}
use Rattle.sql_tables.proofs.Sorting.{unchanged}
use Rattle.sql_tables.proofs.Writes.{cast_int, cast_null}
use Rattle.as2_exchange.specs.State.{State}
use Rattle.as2_rows.specs.Contents.{Piece, piece_shown}
use Rattle.as2_rows.specs.Rows.{whole}
use Rattle.as2_store.specs.Migrating.{AreShared, IsCopied}
use Rattle.as2_store.specs.Stands.{inbox_pieces}
use Rattle.as2_store.specs.Tables.{Migrated, store_schema, inbox_piece_table, inbox_piece_tree, first_piece_table, first_piece_tree}
use Rattle.as2_store.proofs.Copying.{copies, copy_of, none_compared}
use Rattle.as2_store.proofs.ForeignKeys.{quiet}
use Rattle.as2_store.proofs.MigrationTexts.{below_terms, clear_below_is, clear_below_plain, clear_piece_is, clear_piece_plain, copy_below_is, copy_below_plain, copy_piece_is, copy_piece_plain, copy_piece_terms}
use Rattle.as2_store.proofs.QueriedRows.{and_true}
use Rattle.as2_store.proofs.SharedRows.{are_under, keeps_rest, puts_picked, shared, under}
use Rattle.as2_store.proofs.Statements.{clear_below_text, clear_piece_text, copy_below_text, copy_piece_text}
use Rattle.as2_store.proofs.Untouched.{AtMeta, AtInbox, AtInboxPiece, AtOutbox, AtOutboxPiece, AtEvidence, AtWaiting, AtOrigin, AtResent, keeping}

cast_piece : (p : Piece) → cast_row (inbox_piece_table Migrated) (Null ∷ piece_shown p) ≡ Null ∷ piece_shown p
cast_piece p = simp (cast_int, cast_null)

-- a text that copies pieces of the first version's table, and one that takes out the same
pub record Moves (copying clearing : List ℕ) (terms : List Term) (params : Row) (p : Piece → Bool) : Type 0 where
  pub by : List Collation
  pub copies_is : command_of (understood (store_schema Migrated) copying) ≡ Insert 8 (Query (copy_of first_piece_tree terms copy_piece_terms [] by))
  pub copies_plain : IsPlain (understood (store_schema Migrated) copying)
  pub clears_is : command_of (understood (store_schema Migrated) clearing) ≡ Delete 2 (delete_program first_piece_tree terms)
  pub clears_plain : IsPlain (understood (store_schema Migrated) clearing)
  pub tests : (n : ℤ) (x : Piece) → passes terms params (Int n ∷ piece_shown x) ≡ p x

module _ (copying clearing : List ℕ) (terms : List Term) (params : Row) (p : Piece → Bool) (texts : Moves copying clearing terms params p) where
  -- the rows of a table, of these pieces
  record ArePut (b c : Connected) (all : List Piece) : Type 0 where
    rows : List Row
    changed : ChangesTable b c (store_schema Migrated) (inbox_piece_tree Migrated) rows
    are : HasRows rows (map piece_shown all)

  puts_pieces : (b c : Connected) (count : ℕ) (moved left : List Piece) → b.now.schema ≡ store_schema Migrated
      → HasRows (b.now.trees first_piece_tree) (map piece_shown left) → HasRows (b.now.trees (inbox_piece_tree Migrated)) (map piece_shown moved)
      → Executes copying params b c (Ok count) → ArePut b c (moved ++ filter p left)
  puts_pieces b c count moved left has there held h =
      let copied = copies copying params b c (store_schema Migrated) has 8 (inbox_piece_table Migrated) refl refl
      (append-nil params) _ texts.copies_is texts.copies_plain count h in
      let all = in_any_order first_piece_tree terms copy_piece_terms b.now.trees params copied.sources
      (none_compared first_piece_tree terms copy_piece_terms [] texts.by (overlay b.now.trees []) params copied.sources copied.answers.answer) in
      record {
        rows = _;
        changed = copied.changed _ refl;
        are = puts_picked piece_shown terms params p texts.tests
            (inbox_piece_table Migrated) first_piece_tree copy_piece_terms b.now.trees copied.sources left there (λ n x. refl) cast_piece all
            (b.now.trees (inbox_piece_tree Migrated)) moved held;
      }

  record AreLeft (b c : Connected) (all : List Piece) : Type 0 where
    rows : List Row
    changed : ChangesTable b c (store_schema Migrated) first_piece_tree rows
    are : HasRows rows (map piece_shown all)

  takes_pieces : (b c : Connected) (count : ℕ) (left : List Piece) → b.now.schema ≡ store_schema Migrated
      → HasRows (b.now.trees first_piece_tree) (map piece_shown left) → Executes clearing params b c (Ok count)
      → AreLeft b c (filter (λ x. not (p x)) left)
  takes_pieces b c count left has there h =
      let it = are_under piece_shown (b.now.trees first_piece_tree) left there in
      let done = deletes clearing params b c (store_schema Migrated) has 2 first_piece_table refl terms (λ (y : ℤ × Piece). y.0)
      (under piece_shown) (λ _. refl) it.entries it.rows_are (subst IsTable it.rows_are there.rise)
      (quiet Migrated first_piece_tree) texts.clears_is texts.clears_plain count h in
      record { rows = _; changed = done.0; are = keeps_rest piece_shown terms params p texts.tests (b.now.trees first_piece_tree) left there it }

  pub moves_pieces : (a b c : Connected) (i j : ℕ) (s : State) → Executes copying params a b (Ok i) → Executes clearing params b c (Ok j) → AreShared a.now s
      → AreShared c.now s
  moves_pieces a b c i j s one two it =
      let put = puts_pieces a b i it.moved it.left it.schema it.first_contents it.contents one in
      let o1 = put.changed.others in
      let k1 = keeping Migrated AtInboxPiece a.now.trees b.now.trees o1 in
      let taken = takes_pieces b c j it.left put.changed.schema_is (unchanged (o1.1.1.0 (λ e. omega arith)) it.first_contents) two in
      let o2 = taken.changed.others in
      record {
        schema = taken.changed.schema_is;
        meta = o2.0 (λ e. omega arith) ∙ k1 AtMeta (λ e. omega arith) ∙ it.meta;
        first_inbox = o2.1.0 (λ e. omega arith) ∙ o1.1.0 (λ e. omega arith) ∙ it.first_inbox;
        inbox = o2.1.1.1.1.1.1.1.0 (λ e. omega arith) ∙ k1 AtInbox (λ e. omega arith) ∙ it.inbox;
        moved = it.moved ++ filter p it.left;
        left = filter (λ x. not (p x)) it.left;
        all = shared p it.moved it.left (inbox_pieces s.inbox) it.all;
        contents = unchanged (o2.1.1.1.1.1.1.1.1.0 (λ e. omega arith) ∙ put.changed.rows_are) put.are;
        first_contents = unchanged taken.changed.rows_are taken.are;
        outbox = o2.1.1.1.0 (λ e. omega arith) ∙ k1 AtOutbox (λ e. omega arith) ∙ it.outbox;
        outbox_contents = unchanged (o2.1.1.1.1.0 (λ e. omega arith) ∙ k1 AtOutboxPiece (λ e. omega arith)) it.outbox_contents;
        evidence = o2.1.1.1.1.1.0 (λ e. omega arith) ∙ k1 AtEvidence (λ e. omega arith) ∙ it.evidence;
        waits = o2.1.1.1.1.1.1.0 (λ e. omega arith) ∙ k1 AtWaiting (λ e. omega arith) ∙ it.waits;
        no_origin = o2.1.1.1.1.1.1.1.1.1.0 (λ e. omega arith) ∙ k1 AtOrigin (λ e. omega arith) ∙ it.no_origin;
        no_resent = o2.1.1.1.1.1.1.1.1.1.1.0 (λ e. omega arith) ∙ k1 AtResent (λ e. omega arith) ∙ it.no_resent;
      }

-- ---- those of the receipts below a number

moves_below : (below : ℕ) → Moves copy_below_text clear_below_text below_terms (whole below ∷ []) (λ x. nat_lt x.number below)
moves_below below = record {
  by = _;
  copies_is = copy_below_is;
  copies_plain = copy_below_plain;
  clears_is = clear_below_is;
  clears_plain = clear_below_plain;
  tests = λ n x. ap (λ b. b && true) (numbers_below x.number below) ∙ and_true _;
}

pub moved_below : (below : ℕ) (a b c : Connected) (i j : ℕ) (s : State) → Executes copy_below_text (whole below ∷ []) a b (Ok i)
    → Executes clear_below_text (whole below ∷ []) b c (Ok j) → AreShared a.now s → AreShared c.now s
moved_below below = moves_pieces copy_below_text clear_below_text below_terms (whole below ∷ []) (λ x. nat_lt x.number below) (moves_below below)

-- ---- all that are left

moves_rest : Moves copy_piece_text clear_piece_text [] [] (λ _. true)
moves_rest = record {
  by = _;
  copies_is = copy_piece_is;
  copies_plain = copy_piece_plain;
  clears_is = clear_piece_is;
  clears_plain = clear_piece_plain;
  tests = λ n x. refl;
}

none_left : (xs : List Piece) → filter (λ _. not true) xs ≡ []
none_left [] = refl
none_left (x ∷ xs) = none_left xs

no_pieces : (rows : List Row) (shown : List Row) → HasRows rows shown → shown ≡ [] → rows ≡ []
no_pieces rows shown has none = nothing has.numbered has.rows_are (subst (IsPermutation (map (λ r. r.1) has.numbered)) none has.columns)
  where
    nothing : (rs : List (ℤ × Row)) → rows ≡ map numbered_row rs → IsPermutation (map (λ r. r.1) rs) [] → rows ≡ []
    nothing [] are same = are
    nothing (r ∷ rs) are same = absurd (omega (arith, length_permutation _ _ same))

pub moved_rest : (a b c : Connected) (i j : ℕ) (s : State) → Executes copy_piece_text [] a b (Ok i) → Executes clear_piece_text [] b c (Ok j)
    → AreShared a.now s → IsCopied c.now s
unfolding moves_pieces moves_rest
moved_rest a b c i j s one two it =
    let done = moves_pieces copy_piece_text clear_piece_text [] [] (λ _. true) moves_rest a b c i j s one two it in
    let none : done.left ≡ [] = none_left it.left in
    let all : IsPermutation done.moved (inbox_pieces s.inbox) =
    subst (λ l. IsPermutation l (inbox_pieces s.inbox)) (ap (λ l. done.moved ++ l) none ∙ append-nil done.moved) done.all in
    let rows = done.contents in
    record {
      schema = done.schema;
      meta = done.meta;
      entries = record {
        inbox = done.inbox;
        inbox_contents = record {
          numbered = rows.numbered;
          rows_are = rows.rows_are;
          rise = rows.rise;
          columns = IsPermutation-trans _ _ _ rows.columns (IsPermutation-map piece_shown _ _ all);
        };
        outbox = done.outbox;
        outbox_contents = done.outbox_contents;
        evidence = done.evidence;
        waits = done.waits;
      };
      first_inbox = done.first_inbox;
      no_content = no_pieces (c.now.trees first_piece_tree) (map piece_shown done.left) done.first_contents (ap (map piece_shown) none);
      no_origin = done.no_origin;
      no_resent = done.no_resent;
    }

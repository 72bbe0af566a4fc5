-- Pieces go in beside those that are there.
use Rattle.std.proofs.Common.{◌≡◌, ◌≢◌, ℕ, ◌+◌, ◌*◌, ◌<◌, List, [], ◌∷◌, ◌++◌, map, length, Ok, Some, None, Bool, true, false, nat_lt, cond, refl, sym, ap, subst, ◌∙◌, arith, append_assoc, zero, suc}
use Rattle.std.specs.List.{AllByRecursion, range_with_len}
use Rattle.std.proofs.lemmas.List.{map-append}
use Rattle.std.proofs.lemmas.Bool.Decides.{nat_tests}
use Rattle.sqlite.specs.declared.types.Value.TheVariants.{Null, Int}
use Rattle.sqlite.specs.Order.{Row}
use Rattle.sqlite.specs.Table.{Table}
use Rattle.sqlite.specs.Tree.{Trees, put_row}
use Rattle.sqlite.specs.Edit.{next_rowid}
use Rattle.sqlite.specs.State.{State as Connected, Executes}
use Rattle.sql_tables.specs.Changes.{HasRows}
use Rattle.sql_tables.proofs.Sorting.{unchanged, one_more_row}
use Rattle.sql_tables.proofs.Writes.{cast_int, cast_null, IsOneRow, inserts_chosen}
use Rattle.as2_mic.specs.Pieces.{piece_size, piece_at}
use Rattle.as2_rows.specs.Contents.{Piece, piece_bytes, piece_of, piece_shown}
use Rattle.as2_store.specs.Tables.{Way, store_schema, inbox_piece_table, inbox_piece_tree, outbox_piece_table, outbox_piece_tree}
use Rattle.as2_store.specs.declared.contents.Mailbox.{Mailbox}
use Rattle.as2_store.specs.declared.contents.Mailbox.TheVariants.{Inbox, Outbox}
use Rattle.as2_store.proofs.Statements.{piece_put_text}
use Rattle.as2_store.specs.Adding.{AppendsPieces, piece_tree}
use Rattle.as2_store.proofs.Texts.{inbox_piece_place, inbox_piece_there, piece_put_terms, in_piece_put_is, in_piece_put_plain, out_piece_put_is, out_piece_put_plain}

-- ---- one more

puts_piece : (p : Piece) (before : List Piece) (rows : List Row) → HasRows rows (map piece_shown before)
    → HasRows (put_row (Int (next_rowid rows) ∷ piece_shown p) rows) (map piece_shown (before ++ p ∷ []))
puts_piece p before rows has =
    subst (HasRows (put_row (Int (next_rowid rows) ∷ piece_shown p) rows)) (sym (map-append piece_shown before (p ∷ [])))
    (one_more_row rows (map piece_shown before) (piece_shown p) has)

-- ---- one after another

pub others_then : (a b c : Trees) (tree : ℕ) (tables : List Table) → AllByRecursion (λ t. t.tree ≢ tree → b t.tree ≡ a t.tree) tables
    → AllByRecursion (λ t. t.tree ≢ tree → c t.tree ≡ b t.tree) tables
    → AllByRecursion (λ t. t.tree ≢ tree → c t.tree ≡ a t.tree) tables
others_then a b c tree [] one two = tt
others_then a b c tree (t ∷ tables) one two = (λ other. two.0 other ∙ one.0 other, others_then a b c tree tables one.1 two.1)

pub appended_then : (way : Way) (a b c : Connected) (tree : ℕ) (ps qs : List Piece) → AppendsPieces way a b tree ps → AppendsPieces way b c tree qs
    → AppendsPieces way a c tree (ps ++ qs)
appended_then way a b c tree ps qs one two = record {
  schema_is = two.schema_is;
  pieces_are = λ before are. subst (λ all. HasRows (c.now.trees tree) (map piece_shown all)) (append_assoc before ps qs)
      (two.pieces_are (before ++ ps) (one.pieces_are before are));
  others = others_then a.now.trees b.now.trees c.now.trees tree (store_schema way).tables one.others two.others;
}

-- ---- the statement

in_piece : (way : Way) (p : Piece) → IsOneRow (inbox_piece_table way) (piece_shown p) piece_put_terms 4 (Null ∷ piece_shown p)
in_piece way p = record { source = Null ∷ piece_shown p; made = refl; cast_is = simp (cast_null, cast_int) }

out_piece : (p : Piece) → IsOneRow outbox_piece_table (piece_shown p) piece_put_terms 4 (Null ∷ piece_shown p)
out_piece p = record { source = Null ∷ piece_shown p; made = refl; cast_is = simp (cast_null, cast_int) }

pub puts_piece_in : (way : Way) (mailbox : Mailbox) (old new : Connected) (p : Piece) (count : ℕ) → old.now.schema ≡ store_schema way
    → Executes (piece_put_text mailbox) (piece_shown p) old new (Ok count) → AppendsPieces way old new (piece_tree way mailbox) (p ∷ [])
puts_piece_in way Inbox old new p count has h =
    let it = inserts_chosen (piece_put_text Inbox) (piece_shown p) old new (store_schema way) has (inbox_piece_place way) (inbox_piece_table way)
    (inbox_piece_there way) refl piece_put_terms 4 (Null ∷ piece_shown p) (in_piece way p) (piece_shown p) refl (in_piece_put_is way)
    (in_piece_put_plain way) count h in
    record {
      schema_is = it.schema_is;
      pieces_are = λ before are. unchanged it.rows_are (puts_piece p before (old.now.trees (inbox_piece_tree way)) are);
      others = it.others;
    }
puts_piece_in way Outbox old new p count has h =
    let it = inserts_chosen (piece_put_text Outbox) (piece_shown p) old new (store_schema way) has 4 outbox_piece_table refl refl piece_put_terms 4
    (Null ∷ piece_shown p) (out_piece p) (piece_shown p) refl (out_piece_put_is way) (out_piece_put_plain way) count h in
    record {
      schema_is = it.schema_is;
      pieces_are = λ before are. unchanged it.rows_are (puts_piece p before (old.now.trees outbox_piece_tree) are);
      others = it.others;
    }

-- ---- the loop over a content

some_piece_by : (content : List ℕ) (i : ℕ) (t : Bool) (p : List ℕ) → nat_lt (i * piece_size) (length content) ≡ t
    → cond t (Some (piece_bytes content i)) None ≡ Some p → (i * piece_size < length content) × (p ≡ piece_bytes content i)
some_piece_by content i true p is found = (grind (arith, nat_tests), cc)
some_piece_by content i false p is found = absurd cc

pub some_piece : (content : List ℕ) (i : ℕ) (p : List ℕ) → piece_at content i ≡ Some p → (i * piece_size < length content) × (p ≡ piece_bytes content i)
some_piece content i p found = some_piece_by content i (nat_lt (i * piece_size) (length content)) p refl found

-- the pieces before this position
abbrev pub pieces_before : ℕ → List ℕ → ℕ → List Piece
pieces_before number content i = map (piece_of number content) (range_with_len 0 i)

more_from : (n a : ℕ) → range_with_len a (suc n) ≡ range_with_len a n ++ (a + n) ∷ []
more_from zero a = ap (λ k. k ∷ []) (omega arith)
more_from (suc n) a = ap (λ l. a ∷ l) (more_from n (a + 1) ∙ ap (λ k. range_with_len (a + 1) n ++ k ∷ []) (omega arith))

range_more : (n : ℕ) → range_with_len 0 (n + 1) ≡ range_with_len 0 n ++ n ∷ []
range_more n =
    let next : n + 1 ≡ suc n = omega arith in
    let same : 0 + n ≡ n = omega arith in
    ap (range_with_len 0) next ∙ more_from n 0 ∙ ap (λ k. range_with_len 0 n ++ k ∷ []) same

pub one_before : (number : ℕ) (content : List ℕ) (i : ℕ) (p : List ℕ) → p ≡ piece_bytes content i
    → pieces_before number content i ++ (record { number = number; position = i; bytes = p }) ∷ [] ≡ pieces_before number content (i + 1)
one_before number content i p is =
    ap (λ b. pieces_before number content i ++ (record { number = number; position = i; bytes = b }) ∷ []) is
    ∙ sym (ap (map (piece_of number content)) (range_more i) ∙ map-append (piece_of number content) (range_with_len 0 i) (i ∷ []))

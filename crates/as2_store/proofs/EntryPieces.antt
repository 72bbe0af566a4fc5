-- The pieces of one entry, found among those of all.
use Rattle.std.proofs.Common.{◌≡◌, ℕ, ◌==◌, List, [], ◌∷◌, ◌++◌, map, Some, Bool, true, false, ◌&&◌, cond, refl, sym, ap, ap₂, subst, ◌∙◌, pos, negsuc, codes, Less, arith, append-nil}
use Rattle.std.specs.List.{AllByRecursion, IsDistinct, filter, find, flat_map, range_with_len}
use Rattle.std.proofs.lemmas.Bool.Decides.{nat_tests}
use Rattle.std.proofs.lemmas.List.Elements.{filter-append}
use Rattle.sqlite.specs.declared.types.Value.TheVariants.{Int}
use Rattle.sqlite.specs.Order.{Row, value_cmp}
use Rattle.sqlite.specs.Term.{lit}
use Rattle.sqlite.specs.Tree.{IsAscending}
use Rattle.sqlite.specs.Command.{Command}
use Rattle.sqlite.specs.Command.TheVariants.{Select}
use Rattle.sqlite.specs.Listing.{understood, reads_listing}
use Rattle.sqlite.specs.State.{State as Connected, Shown}
use Rattle.sqlite.proofs.Callers.{IsPlain, command_of, reads_as}
use Rattle.sql_tables.specs.Changes.{HasRows, over_table}
use Rattle.sql_tables.proofs.Inside.{shown_open}
use Rattle.sql_tables.proofs.Queries.{by_column, numbers_equal}
use Rattle.sql_tables.proofs.Sorting.{shows_sorted_entries}
use Rattle.as2_exchange.specs.State.{State}
use Rattle.as2_exchange.specs.declared.inbox.InEntry.{InEntry}
use Rattle.as2_exchange.specs.declared.outbox.OutEntry.{OutEntry}
use Rattle.as2_rows.specs.Rows.{whole}
use Rattle.as2_rows.specs.Contents.{Piece, pieces, piece_of, piece_shown}
use Rattle.as2_rows.proofs.Joining.{pieces_rise}
use Rattle.as2_mic.specs.Pieces.{piece_count}
use Rattle.as2_store.specs.Tables.{Way, store_schema, inbox_piece_tree, outbox_piece_tree}
use Rattle.as2_store.proofs.Statements.{in_pieces_text, out_pieces_text}
use Rattle.as2_store.specs.Stands.{HoldsIfOpen}
use Rattle.as2_store.proofs.QueriedRows.{and_true, found_all}
use Rattle.as2_store.proofs.Texts.{piece_terms, piece_column_terms, in_pieces_is, in_pieces_plain, in_pieces_unlisted, out_pieces_is, out_pieces_plain, out_pieces_unlisted}

abbrev pub number_params : ℕ → Row
number_params n = Int (pos n) ∷ []

-- ---- the pieces of one entry

keeps_own : (n : ℕ) (content : List ℕ) (ks : List ℕ) → filter (λ p. p.number == n) (map (piece_of n content) ks) ≡ map (piece_of n content) ks
keeps_own n content [] = refl
keeps_own n content (k ∷ ks) = go (n == n) (grind (arith, nat_tests)) (keeps_own n content ks)
  where
    go : (t : Bool) → t ≡ true → filter (λ p. p.number == n) (map (piece_of n content) ks) ≡ map (piece_of n content) ks
        → cond t (piece_of n content k ∷ filter (λ p. p.number == n) (map (piece_of n content) ks))
        (filter (λ p. p.number == n) (map (piece_of n content) ks)) ≡ piece_of n content k ∷ map (piece_of n content) ks
    go true is rest = ap (λ l. piece_of n content k ∷ l) rest
    go false is rest = absurd cc

drops_other : (m n : ℕ) (content : List ℕ) (ks : List ℕ) → (m == n) ≡ false → filter (λ p. p.number == n) (map (piece_of m content) ks) ≡ []
drops_other m n content [] other = refl
drops_other m n content (k ∷ ks) other = go (m == n) other (drops_other m n content ks other)
  where
    go : (t : Bool) → t ≡ false → filter (λ p. p.number == n) (map (piece_of m content) ks) ≡ []
        → cond t (piece_of m content k ∷ filter (λ p. p.number == n) (map (piece_of m content) ks))
        (filter (λ p. p.number == n) (map (piece_of m content) ks)) ≡ []
    go true is rest = absurd cc
    go false is rest = rest

pub turned : (m n : ℕ) → (n == m) ≡ false → (m == n) ≡ false
turned m n other = grind (arith, nat_tests)

abbrev own : ℕ → List Piece → List Piece
own n ps = filter (λ q. q.number == n) ps

module _ {X : Type 0} (number : X → ℕ) (content : X → List ℕ) where
  abbrev pub all_pieces : List X → List Piece
  all_pieces xs = flat_map (λ x. pieces (number x) (content x)) xs

  drops_others : (n : ℕ) (xs : List X) → AllByRecursion (λ m. (n == m) ≡ false) (map number xs) → own n (all_pieces xs) ≡ []
  drops_others n [] other = refl
  drops_others n (x ∷ xs) other =
      filter-append (λ p. p.number == n) (pieces (number x) (content x)) (all_pieces xs)
      ∙ ap₂ (λ a b. a ++ b) (drops_other (number x) n (content x) (range_with_len 0 (piece_count (content x))) (turned (number x) n other.0))
      (drops_others n xs other.1)

  gathered : (x e : X) (p : X → Bool) (xs : List X) (t : Bool) → AllByRecursion (λ m. (number x == m) ≡ false) (map number xs)
      → cond t (Some x) (find p xs) ≡ Some e
      → (find p xs ≡ Some e → own (number e) (all_pieces xs) ≡ pieces (number e) (content e))
      → own (number e) (pieces (number x) (content x)) ++ own (number e) (all_pieces xs) ≡ pieces (number e) (content e)
  gathered x e p xs true other is later =
      let same : x ≡ e = cc in
      subst (λ y. own (number y) (pieces (number x) (content x)) ++ own (number y) (all_pieces xs) ≡ pieces (number y) (content y)) same
      (ap₂ (λ a b. a ++ b) (keeps_own (number x) (content x) (range_with_len 0 (piece_count (content x)))) (drops_others (number x) xs other)
      ∙ append-nil (pieces (number x) (content x)))
  gathered x e p xs false other is later =
      ap₂ (λ a b. a ++ b) (drops_other (number x) (number e) (content x) (range_with_len 0 (piece_count (content x)))
      (found_all number (λ m. (number x == m) ≡ false) p xs e other is)) (later is)

  pub gathers : (p : X → Bool) (xs : List X) (e : X) → IsDistinct (λ a b. a == b) (map number xs) → find p xs ≡ Some e
      → own (number e) (all_pieces xs) ≡ pieces (number e) (content e)
  unfolding IsDistinct
  gathers p [] e distinct found = absurd cc
  gathers p (x ∷ xs) e distinct found =
      filter-append (λ q. q.number == number e) (pieces (number x) (content x)) (all_pieces xs)
      ∙ gathered x e p xs (p x) distinct.0 found (gathers p xs e distinct.1)

abbrev pieces_command : ℕ → Command
pieces_command tree = Select (record { lets = []; body = over_table tree piece_terms piece_column_terms (by_column 2) (lit (Int (negsuc 0))) })
    (codes "number" ∷ codes "position" ∷ codes "bytes" ∷ [])

-- a query of the pieces of the entry of a number
module _ (way : Way) (sql : List ℕ) (tree : ℕ) (is : command_of (understood (store_schema way) sql) ≡ pieces_command tree)
    (plain : IsPlain (understood (store_schema way) sql)) (unlisted : reads_listing (store_schema way) sql ≡ false)
    {X : Type 0} (number : X → ℕ) (content : X → List ℕ) where
  finds_pieces : (old new : Connected) (n : ℕ) (rows : List Row) → Shown sql (number_params n) old new rows → old.now.schema ≡ (store_schema way)
      → (xs : List X)
      → HasRows (old.now.trees tree) (map piece_shown (all_pieces number content xs)) → IsDistinct (λ a b. a == b) (map number xs) → (p : X → Bool) (e : X)
      → find p xs ≡ Some e → n ≡ number e
      → rows ≡ map piece_shown (pieces (number e) (content e))
  finds_pieces old new n rows h has xs are distinct p e found same =
      let ps = all_pieces number content xs in
      let read = reads_as sql (number_params n) old new (store_schema way) has (pieces_command tree) is plain unlisted rows h in
      let own : filter (λ q. q.number == n) ps ≡ pieces (number e) (content e) = ap (λ k. filter (λ (q : Piece). q.number == k) ps) same
      ∙ gathers number content p xs e distinct found in
      shows_sorted_entries tree piece_terms piece_column_terms 1 old.now.trees (number_params n) rows piece_shown (λ q. q.number == n) piece_shown
      (λ _ q. ap (λ b. b && true) (numbers_equal q.number n) ∙ and_true _) (λ _ q. refl) ps are
      (subst (IsAscending (λ (a b : Piece). value_cmp (whole a.position) (whole b.position) ≡ Less)) (sym own) (pieces_rise (number e) (content e))) read.answer
      ∙ ap (map piece_shown) own

pub finds_in_pieces : (old new : Connected) (n : ℕ) (rows : List Row) → Shown in_pieces_text (number_params n) old new rows → (s : State) → HoldsIfOpen old s
    → (p : InEntry → Bool) (e : InEntry) → find p s.inbox ≡ Some e → n ≡ e.number
    → rows ≡ map piece_shown (pieces e.number e.posted.content)
finds_in_pieces old new n rows h s r =
    let here = r (shown_open in_pieces_text (number_params n) old new rows h) in
    let way = here.way in
    let it = here.stands in
    finds_pieces way in_pieces_text (inbox_piece_tree way) (in_pieces_is way) (in_pieces_plain way) (in_pieces_unlisted way)
    (λ (e : InEntry). e.number) (λ e. e.posted.content) old new n rows h it.schema s.inbox it.entries.inbox_contents it.receipts.1.distinct

pub finds_out_pieces : (old new : Connected) (n : ℕ) (rows : List Row) → Shown out_pieces_text (number_params n) old new rows → (s : State) → HoldsIfOpen old s
    → (p : OutEntry → Bool) (d : OutEntry) → find p s.outbox ≡ Some d → n ≡ d.number
    → rows ≡ map piece_shown (pieces d.number d.content)
finds_out_pieces old new n rows h s r =
    let here = r (shown_open out_pieces_text (number_params n) old new rows h) in
    let way = here.way in
    let it = here.stands in
    finds_pieces way out_pieces_text outbox_piece_tree (out_pieces_is way) (out_pieces_plain way) (out_pieces_unlisted way)
    (λ (d : OutEntry). d.number) (λ d. d.content) old new n rows h it.schema s.outbox it.entries.outbox_contents it.documents.1.distinct

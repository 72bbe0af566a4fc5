-- What the queries of the inbox answer.
use Rattle.std.proofs.Common.{◌≡◌, ℕ, pos, ◌<◌, ◌≤◌, ◌^◌, ◌==◌, nat_le, inl, inr, List, [], ◌∷◌, ◌++◌, map, Bool, true, false, ◌&&◌, refl, sym, ap, ap₂, ◌∙◌, negsuc, arith}
use Rattle.std.specs.List.{filter}
use Rattle.std.proofs.lemmas.List.{map-append}
use Rattle.as2_records.specs.declared.summaries.InRow.{InRow}
use Rattle.as2_records.specs.Summaries.{in_summary}
use Rattle.std.specs.List.{AllByRecursion}
use Rattle.std.proofs.lemmas.Bool.{cases_Bool}
use Rattle.std.proofs.lemmas.Bool.Decides.{nat_tests}
use Rattle.sqlite_trees.proofs.ListLemmas.{filter_same}
use Rattle.as2_exchange.proofs.Lists.{all_weaken}
use Rattle.sqlite.specs.declared.types.Value.TheVariants.{Int, Blob}
use Rattle.sqlite.specs.Order.{Row}
use Rattle.sqlite.specs.Term.{Term, lit}
use Rattle.sqlite.specs.Command.TheVariants.{Select}
use Rattle.sqlite.specs.Listing.{understood, reads_listing}
use Rattle.sqlite.specs.State.{State as Connected, Shown}
use Rattle.sqlite.proofs.Callers.{IsPlain, command_of}
use Rattle.sql_tables.specs.Changes.{over_table, passes}
use Rattle.sql_tables.proofs.Inside.{shown_open}
use Rattle.sql_tables.proofs.Queries.{by_number, blobs_equal, numbers_equal}
use Rattle.as2_exchange.specs.State.{State, end_of_numbers}
use Rattle.as2_exchange.specs.declared.inbox.InEntry.{InEntry}
use Rattle.as2_exchange.specs.Readings.{value_of}
use Rattle.as2_rows.specs.Rows.{in_row, in_shown}
use Rattle.as2_store.specs.Tables.{Way, store_schema, inbox_tree}
use Rattle.as2_store.proofs.Statements.{in_by_key_text, in_by_number_text, in_all_text}
use Rattle.as2_store.specs.Stands.{HoldsIfOpen}
use Rattle.as2_exchange.specs.State.{has_key}
use Rattle.as2_store.proofs.NumberedRows.{entries_rise}
use Rattle.as2_store.proofs.QueriedRows.{reads_rows, and_true}
use Rattle.as2_store.proofs.Texts.{in_column_terms, in_names, key_terms, number_terms, in_by_number_is, in_by_number_plain, in_by_number_unlisted, in_by_key_is, in_by_key_plain, in_by_key_unlisted, in_all_is, in_all_plain, in_all_unlisted}

-- a query over the inbox, in the order of the numbers
module _ (sql : List ℕ) (plain : (way : Way) → IsPlain (understood (store_schema way) sql))
    (unlisted : (way : Way) → reads_listing (store_schema way) sql ≡ false) (terms : List Term)
    (is : (way : Way) → command_of (understood (store_schema way) sql) ≡ Select
    (record { lets = []; body = over_table (inbox_tree way) terms in_column_terms by_number (lit (Int (negsuc 0))) }) in_names) (params : Row)
    (p : InEntry → Bool) (same : (e : InEntry) → passes terms params (in_row e) ≡ p e) where
  reads_entries : (old new : Connected) (rows : List Row) → Shown sql params old new rows → (s : State) → HoldsIfOpen old s
      → rows ≡ map in_shown (filter p s.inbox)
  reads_entries old new rows h s r =
      let here = r (shown_open sql params old new rows h) in
      let way = here.way in
      let it = here.stands in
      reads_rows way sql (plain way) (unlisted way) (inbox_tree way) terms in_column_terms in_names (is way) params in_row in_shown
      (λ _. refl) p same old new rows h it.schema s.inbox it.entries.inbox
      (entries_rise in_row (λ (e : InEntry). e.number) (λ _. refl) s.next_in s.inbox it.receipts.1)

abbrev pub key_params : List ℕ → List ℕ → List ℕ → Row
key_params sender receiver value = Blob sender ∷ Blob receiver ∷ Blob value ∷ []

of_key : (sender receiver value : List ℕ) (e : InEntry)
    → passes key_terms (key_params sender receiver value) (in_row e) ≡ has_key sender receiver value e.posted
unfolding value_of
of_key sender receiver value e =
    ap₂ ◌&&◌ (blobs_equal e.posted.sender sender)
    (ap₂ ◌&&◌ (blobs_equal e.posted.receiver receiver) (ap (λ b. b && true) (blobs_equal (value_of e.posted.id) value) ∙ and_true _))

pub finds_key : (sender receiver value : List ℕ) (old new : Connected) (rows : List Row)
    → Shown in_by_key_text (key_params sender receiver value) old new rows → (s : State) → HoldsIfOpen old s
    → rows ≡ map in_shown (filter (λ (e : InEntry). has_key sender receiver value e.posted) s.inbox)
finds_key sender receiver value =
    reads_entries in_by_key_text in_by_key_plain in_by_key_unlisted key_terms in_by_key_is (key_params sender receiver value)
    (λ (e : InEntry). has_key sender receiver value e.posted) (of_key sender receiver value)

abbrev pub by_number_params : ℕ → Row
by_number_params n = Int (pos n) ∷ []

-- a number that is never given may stand for any that is never given
same_test : (n w m : ℕ) → (end_of_numbers ≤ n → w ≡ end_of_numbers) → (n < end_of_numbers → w ≡ n) → m < end_of_numbers → (m == w) ≡ (m == n)
same_test n w m beyond within small = elim (cases_Bool (nat_le end_of_numbers n)) [
  | inl high ↦ let past : end_of_numbers ≤ n = grind (arith, nat_tests) in ap (λ k. m == k) (beyond past) ∙ other m end_of_numbers small
      ∙ sym (other m n (omega (arith, small, past)))
  | inr low ↦ let under : n < end_of_numbers = grind (arith, nat_tests) in ap (λ k. m == k) (within under)
]
  where
    other : (a b : ℕ) → a < b → (a == b) ≡ false
    other a b less = grind (arith, nat_tests)

pub asked_small : (n w : ℕ) → (end_of_numbers ≤ n → w ≡ end_of_numbers) → (n < end_of_numbers → w ≡ n) → w < 2 ^ 63
asked_small n w beyond within = elim (cases_Bool (nat_le end_of_numbers n)) [
  | inl high ↦ let past : end_of_numbers ≤ n = grind (arith, nat_tests) in omega (arith, beyond past)
  | inr low ↦ let under : n < end_of_numbers = grind (arith, nat_tests) in omega (arith, under, within under)
]

pub same_tests : {E : Type 0} (number : E → ℕ) (n w : ℕ) → (end_of_numbers ≤ n → w ≡ end_of_numbers) → (n < end_of_numbers → w ≡ n) → (es : List E)
    → AllByRecursion (λ m. m < end_of_numbers) (map number es)
    → AllByRecursion (λ (e : E). (number e == w) ≡ (number e == n)) es
same_tests number n w beyond within [] all = tt
same_tests number n w beyond within (e ∷ es) all = (same_test n w (number e) beyond within all.0, same_tests number n w beyond within es all.1)

pub finds_number : (n w : ℕ) → (end_of_numbers ≤ n → w ≡ end_of_numbers) → (n < end_of_numbers → w ≡ n) → (old new : Connected) (rows : List Row)
    → Shown in_by_number_text (by_number_params w) old new rows → (s : State) → HoldsIfOpen old s
    → rows ≡ map in_shown (filter (λ (e : InEntry). e.number == n) s.inbox)
finds_number n w beyond within old new rows h s r =
    let it = (r (shown_open in_by_number_text (by_number_params w) old new rows h)).stands in
    let low = all_weaken (λ m. m < s.next_in) (λ m. m < end_of_numbers) (λ m less. omega (arith, less, it.receipts.0.most))
    (map (λ (e : InEntry). e.number) s.inbox) it.receipts.1.below in
    reads_entries in_by_number_text in_by_number_plain in_by_number_unlisted number_terms in_by_number_is (by_number_params w) (λ e. e.number == w)
    (λ e. ap (λ b. b && true) (numbers_equal e.number w) ∙ and_true _) old new rows h s r
    ∙ ap (map in_shown) (filter_same (λ (e : InEntry). e.number == w) (λ (e : InEntry). e.number == n) s.inbox
    (same_tests (λ (e : InEntry). e.number) n w beyond within s.inbox low))

every : (es : List InEntry) → filter (λ _. true) es ≡ es
every [] = refl
every (e ∷ es) = ap (λ l. e ∷ l) (every es)

pub lists_all : (old new : Connected) (rows : List Row) → Shown in_all_text [] old new rows → (s : State) → HoldsIfOpen old s → rows ≡ map in_shown s.inbox
lists_all old new rows h s r = reads_entries in_all_text in_all_plain in_all_unlisted [] in_all_is [] (λ _. true) (λ _. refl) old new rows h s r
    ∙ ap (map in_shown) (every s.inbox)

-- ---- all rows, one after another

pub one_more_entry : (es : List InEntry) (e : InEntry) (done : List InRow) (row : InRow) → done ≡ map in_summary es → row ≡ in_summary e
    → done ++ row ∷ [] ≡ map in_summary (es ++ e ∷ [])
one_more_entry es e done row so_far is = ap₂ (λ l x. l ++ x ∷ []) so_far is ∙ sym (map-append in_summary es (e ∷ []))

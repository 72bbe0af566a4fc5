-- What is due, as the queries of what waits show it.
use Rattle.std.proofs.Common.{◌≡◌, ℕ, ◌+◌, ◌*◌, ◌<◌, ◌==◌, ◌&&◌, nat_le, nat_lt, List, [], ◌∷◌, ◌++◌, map, take, filter, Option, Some, None, IfSome, Bool, true, false, cond, Less, refl, sym, ap, ap₂, pos, ◌∙◌, arith}
use Rattle.std.specs.List.{AllByRecursion}
use Rattle.std.proofs.lemmas.Int.{ints}
use Rattle.std.proofs.lemmas.Bool.Decides.{nat_tests}
use Rattle.std.proofs.lemmas.List.Elements.{filter_agree}
use Rattle.sqlite.specs.declared.types.Value.TheVariants.{Int}
use Rattle.sqlite.specs.Collation.TheVariants.{Binary}
use Rattle.sqlite.specs.Ops.{binary, is_true}
use Rattle.sqlite.specs.Order.{Row, value_cmp}
use Rattle.sqlite.specs.Term.{lit}
use Rattle.sqlite.specs.Tree.{IsAscending}
use Rattle.sqlite.specs.Command.TheVariants.{Select}
use Rattle.sqlite.specs.State.{State as Connected, Shown}
use Rattle.sqlite.proofs.Callers.{reads_as}
use Rattle.sqlite_sql.specs.declared.ops.BinaryOp.TheVariants.{Compare}
use Rattle.sqlite_sql.specs.declared.ops.CompareOp.TheVariants.{Le}
use Rattle.sqlite_value.proofs.OrderLemmas.{value_cmp-Int}
use Rattle.sqlite_trees.proofs.ListLemmas.{all-append, all_weaker, all_both, ascending-filter, ascending_from_map, filter-map, filter_same}
use Rattle.sql_tables.specs.Changes.{over_table, passes}
use Rattle.sql_tables.proofs.Inside.{shown_open}
use Rattle.sql_tables.proofs.Queries.{by_number, numbers_at_least, numbers_at_most, numbers_below, numbers_equal, null_at_most, none_passes, shows_entries}
use Rattle.as2_exchange.specs.State.{State, end_of_numbers}
use Rattle.as2_exchange.specs.Tries.{is_due}
use Rattle.as2_exchange.specs.Due.{least, smaller}
use Rattle.as2_exchange.specs.declared.inbox.InEntry.{InEntry}
use Rattle.as2_exchange.specs.declared.outbox.OutEntry.{OutEntry}
use Rattle.as2_exchange.proofs.Lists.{all_weaken}
use Rattle.as2_records.specs.Due.{is_behind, numbers_behind}
use Rattle.as2_records.proofs.Behind.{those_behind}
use Rattle.as2_rows.specs.Rows.{whole, whole_or_null}
use Rattle.as2_rows.specs.Waiting.{WaitingRow, waiting_in, to_send, to_send_receipt, to_hear, to_end}
use Rattle.as2_store.specs.Tables.{Layout, store_schema, waiting_tree}
use Rattle.as2_store.specs.Stands.{Stands, place, waiting_row, documents_waiting, all_waiting, HoldsIfOpen}
use Rattle.as2_store.specs.Due.{due_numbers, least_behind, number_rows}
use Rattle.as2_store.proofs.Statements.{any_due_text, least_due_text}
use Rattle.as2_store.proofs.Texts.{due_columns, any_due_terms, any_due_is, any_due_plain, any_due_unlisted, least_due_terms, least_due_is, least_due_plain, least_due_unlisted}
use Rattle.as2_store.proofs.QueriedRows.{and_true}
use Rattle.as2_store.proofs.WaitingRows.{IsEvidenceAsked, documents_of, ins_small}
use Rattle.as2_store.proofs.OwedTables.{places_in_order}

-- ---- what the statements ask

-- the moment has come
has_come : (m : ℕ) (due : Option ℕ) → is_true (binary (Compare Le Binary) (whole_or_null due) (Int (pos m))) ≡ is_due m due
has_come m None = null_at_most m
has_come m (Some due) = numbers_at_most due m

abbrev pub any_params : ℕ → ℕ → Row
any_params kind m = Int (pos kind) ∷ Int (pos m) ∷ []

pub any_passes : (kind m : ℕ) (w : WaitingRow) → passes any_due_terms (any_params kind m) (waiting_row w) ≡ (w.kind == kind && is_due m w.due)
any_passes kind m w = ap₂ ◌&&◌ (numbers_equal w.kind kind) (ap (λ b. b && true) (has_come m w.due) ∙ and_true _)

abbrev pub least_params : ℕ → Option ℕ → ℕ → Row
least_params kind b m = Int (pos (kind * end_of_numbers + least_behind b)) ∷ Int (pos ((kind + 1) * end_of_numbers)) ∷ Int (pos m) ∷ []

-- it stands at a place of this kind that is behind, and is due
abbrev is_between : ℕ → Option ℕ → ℕ → WaitingRow → Bool
is_between kind b m w =
    nat_le (kind * end_of_numbers + least_behind b) (place w) && (nat_lt (place w) ((kind + 1) * end_of_numbers) && is_due m w.due)

least_passes : (kind : ℕ) (b : Option ℕ) (m : ℕ) (w : WaitingRow)
    → passes least_due_terms (least_params kind b m) (waiting_row w) ≡ is_between kind b m w
least_passes kind b m w = ap₂ ◌&&◌ (numbers_at_least (place w) (kind * end_of_numbers + least_behind b))
    (ap₂ ◌&&◌ (numbers_below (place w) ((kind + 1) * end_of_numbers)) (ap (λ b. b && true) (has_come m w.due) ∙ and_true _))

-- it is of the kind, due and behind
abbrev is_due_behind : ℕ → Option ℕ → ℕ → WaitingRow → Bool
is_due_behind kind b m w = (w.kind == kind && is_due m w.due) && is_behind b w.number

behind_all : (kind k n : ℕ) → n < end_of_numbers
    → (nat_le (kind * end_of_numbers + 0) (k * end_of_numbers + n) && nat_lt (k * end_of_numbers + n) ((kind + 1) * end_of_numbers)) ≡ ((k == kind) && true)
behind_all kind k n small = grind (arith, nat_tests, small)

behind_one : (kind k n last : ℕ) → n < end_of_numbers
    → (nat_le (kind * end_of_numbers + (last + 1)) (k * end_of_numbers + n) && nat_lt (k * end_of_numbers + n) ((kind + 1) * end_of_numbers))
    ≡ ((k == kind) && nat_lt last n)
behind_one kind k n last small = grind (arith, nat_tests, small)

behind_end : (kind k n last : ℕ) → n < end_of_numbers → nat_lt last end_of_numbers ≡ false
    → (nat_le (kind * end_of_numbers + end_of_numbers) (k * end_of_numbers + n) && nat_lt (k * end_of_numbers + n) ((kind + 1) * end_of_numbers))
    ≡ ((k == kind) && nat_lt last n)
behind_end kind k n last small past = grind (arith, nat_tests, small, past)

-- a place is one of the kind that is behind, where the number at it is one that is given
places_behind : (kind : ℕ) (b : Option ℕ) (k n : ℕ) → n < end_of_numbers
    → (nat_le (kind * end_of_numbers + least_behind b) (k * end_of_numbers + n) && nat_lt (k * end_of_numbers + n) ((kind + 1) * end_of_numbers))
    ≡ ((k == kind) && is_behind b n)
places_behind kind None k n small = behind_all kind k n small
places_behind kind (Some last) k n small = go (nat_lt last end_of_numbers) refl
  where
    go : (t : Bool) → nat_lt last end_of_numbers ≡ t
        → (nat_le (kind * end_of_numbers + cond t (last + 1) end_of_numbers) (k * end_of_numbers + n)
        && nat_lt (k * end_of_numbers + n) ((kind + 1) * end_of_numbers)) ≡ ((k == kind) && nat_lt last n)
    go true is = behind_one kind k n last small
    go false is = behind_end kind k n last small is

same_kind : (kind : ℕ) (b : Option ℕ) (m : ℕ) (w : WaitingRow) → w.number < end_of_numbers → is_between kind b m w ≡ is_due_behind kind b m w
same_kind kind b m w small =
    joined (nat_le (kind * end_of_numbers + least_behind b) (place w)) (nat_lt (place w) ((kind + 1) * end_of_numbers)) (w.kind == kind)
    (is_behind b w.number) (is_due m w.due) (places_behind kind b w.kind w.number small)
  where
    turned : (c e d : Bool) → ((c && e) && d) ≡ ((c && d) && e)
    turned true true true = refl
    turned true true false = refl
    turned true false true = refl
    turned true false false = refl
    turned false e d = refl

    joined : (a f c e d : Bool) → (a && f) ≡ (c && e) → (a && (f && d)) ≡ ((c && d) && e)
    joined true f c e d is = ap (λ t. t && d) is ∙ turned c e d
    joined false f c e d is = ap (λ t. t && d) is ∙ turned c e d

-- ---- what waits

pub numbers_small : {layout : Layout} (t : Connected) (s : State) → Stands layout t.now s → AllByRecursion (λ w. w.number < end_of_numbers) (all_waiting s)
numbers_small t s it =
    let outs = all_weaken (λ k. k < s.next_out) (λ k. k < end_of_numbers) (λ k less. omega (arith, less, it.documents.0.most))
    (map (λ (d : OutEntry). d.number) s.outbox) it.documents.1.below in
    let ins = all_weaken (λ k. k < s.next_in) (λ k. k < end_of_numbers) (λ k less. omega (arith, less, it.receipts.0.most))
    (map (λ (e : InEntry). e.number) s.inbox) it.receipts.1.below in
    let of = λ (kind : ℕ). all_weaker (IsEvidenceAsked kind end_of_numbers) (λ w. w.number < end_of_numbers) (λ w is. is.1)
    (documents_waiting kind s.outbox) (documents_of kind end_of_numbers s.outbox outs) in
    all-append (λ w. w.number < end_of_numbers) (documents_waiting to_send s.outbox)
    (waiting_in s.inbox ++ (documents_waiting to_hear s.outbox ++ documents_waiting to_end s.outbox)) (of to_send)
    (all-append (λ w. w.number < end_of_numbers) (waiting_in s.inbox) (documents_waiting to_hear s.outbox ++ documents_waiting to_end s.outbox)
    (all_weaker (IsEvidenceAsked to_send_receipt end_of_numbers) (λ w. w.number < end_of_numbers) (λ w is. is.1) (waiting_in s.inbox)
    (ins_small end_of_numbers s.inbox ins))
    (all-append (λ w. w.number < end_of_numbers) (documents_waiting to_hear s.outbox) (documents_waiting to_end s.outbox) (of to_hear) (of to_end)))

of_the_kind : (kind : ℕ) (b : Option ℕ) (m : ℕ) (ws : List WaitingRow) → AllByRecursion (λ w. w.kind ≡ kind) (filter (is_due_behind kind b m) ws)
of_the_kind kind b m [] = tt
of_the_kind kind b m (w ∷ ws) = go (w.kind == kind) refl (is_due m w.due) (is_behind b w.number) (of_the_kind kind b m ws)
  where
    go : (t : Bool) → (w.kind == kind) ≡ t → (d e : Bool) → AllByRecursion (λ w. w.kind ≡ kind) (filter (is_due_behind kind b m) ws)
        → AllByRecursion (λ w. w.kind ≡ kind) (cond ((t && d) && e) (w ∷ filter (is_due_behind kind b m) ws) (filter (is_due_behind kind b m) ws))
    go true is true true rest = ((grind (arith, nat_tests, is)), rest)
    go true is true false rest = rest
    go true is false e rest = rest
    go false is d e rest = rest

abbrev IsEarlier : WaitingRow → WaitingRow → Type 0
IsEarlier v w = value_cmp (Int (pos (place v))) (Int (pos (place w))) ≡ Less

before : (m n : ℕ) → value_cmp (Int (pos m)) (Int (pos n)) ≡ Less → m < n
before m n is = let less = sym (value_cmp-Int (pos m) (pos n)) ∙ is in grind (arith, ints, less)

-- of one kind the numbers rise as the places do
numbers_rise : (kind : ℕ) (ws : List WaitingRow) → AllByRecursion (λ w. w.kind ≡ kind) ws → IsAscending IsEarlier ws
    → IsAscending (λ v w. v.number < w.number) ws
numbers_rise kind [] of up = tt
numbers_rise kind (w ∷ ws) of up = (
  all_both (λ v. v.kind ≡ kind) (IsEarlier w) (λ v. w.number < v.number)
      (λ v is less. omega (arith, of.0, is, before (place w) (place v) less)) ws of.1 up.0,
  numbers_rise kind ws of.1 up.1,
)

-- ---- the least of numbers that rise

least_above : (n : ℕ) (ns : List ℕ) → AllByRecursion (λ k. n < k) ns → IfSome (least ns) (λ k. n < k)
least_above n [] all = tt
least_above n (k ∷ ns) all = go (least ns) (least_above n ns all.1)
  where
    go : (o : Option ℕ) → IfSome o (λ k. n < k) → n < smaller k o
    go None above = all.0
    go (Some j) above = by (nat_le k j)
      where
        by : (t : Bool) → n < cond t k j
        by true = all.0
        by false = above

first_is_least : (n : ℕ) (ns : List ℕ) → AllByRecursion (λ k. n < k) ns → least (n ∷ ns) ≡ Some n
first_is_least n ns all = go (least ns) (least_above n ns all)
  where
    go : (o : Option ℕ) → IfSome o (λ k. n < k) → Some (smaller n o) ≡ Some n
    go None above = refl
    go (Some k) above = ap (λ t. Some (cond t n k)) (low k above)
      where
        low : (k : ℕ) → n < k → nat_le n k ≡ true
        low k less = grind (arith, nat_tests)

abbrev number_shown : WaitingRow → Row
number_shown w = whole w.number ∷ []

first_shown : (ws : List WaitingRow) → IsAscending (λ v w. v.number < w.number) ws → take 1 (map number_shown ws) ≡ number_rows (least (map (λ w. w.number) ws))
first_shown [] up = refl
first_shown (w ∷ ws) up = sym (ap number_rows (first_is_least w.number (map (λ v. v.number) ws) (mapped ws up.0)))
  where
    mapped : (vs : List WaitingRow) → AllByRecursion (λ v. w.number < v.number) vs → AllByRecursion (λ k. w.number < k) (map (λ v. v.number) vs)
    mapped [] all = tt
    mapped (v ∷ vs) all = (all.0, mapped vs all.1)

-- ---- the queries

pub finds_none : (kind m : ℕ) (old new : Connected) (rows : List Row) → Shown any_due_text (any_params kind m) old new rows → (s : State) → HoldsIfOpen old s
    → rows ≡ [] → due_numbers kind m s ≡ []
finds_none kind m old new rows h s r none =
    let here = r (shown_open any_due_text (any_params kind m) old new rows h) in
    let way = here.way in
    let it = here.stands in
    let read = reads_as any_due_text (any_params kind m) old new (store_schema way) it.schema
    (Select (record { lets = []; body = over_table waiting_tree any_due_terms due_columns [] (lit (Int (pos 1))) }) _) (any_due_is way)
    (any_due_plain way) (any_due_unlisted way) rows h in
    let passed = none_passes waiting_tree any_due_terms due_columns old.now.trees (any_params kind m) rows read.answer none in
    let same = sym (filter-map (passes any_due_terms (any_params kind m)) waiting_row (all_waiting s))
    ∙ ap (filter (passes any_due_terms (any_params kind m))) (sym it.entries.waits) ∙ passed in
    ap (map (λ w. w.number))
    (sym (filter_agree (λ w. passes any_due_terms (any_params kind m) (waiting_row w)) (λ w. w.kind == kind && is_due m w.due)
    (any_passes kind m) (all_waiting s)) ∙ unmapped _ same)
  where
    unmapped : (ws : List WaitingRow) → map waiting_row ws ≡ [] → ws ≡ []
    unmapped [] is = refl
    unmapped (w ∷ ws) is = absurd cc

pub finds_least : (kind : ℕ) (b : Option ℕ) (m : ℕ) (old new : Connected) (rows : List Row) → Shown least_due_text (least_params kind b m) old new rows
    → (s : State) → HoldsIfOpen old s → rows ≡ number_rows (least (numbers_behind b (due_numbers kind m s)))
finds_least kind b m old new rows h s r =
    let here = r (shown_open least_due_text (least_params kind b m) old new rows h) in
    let way = here.way in
    let it = here.stands in
    let read = reads_as least_due_text (least_params kind b m) old new (store_schema way) it.schema
    (Select (record { lets = []; body = over_table waiting_tree least_due_terms due_columns by_number (lit (Int (pos 1))) }) _)
    (least_due_is way) (least_due_plain way) (least_due_unlisted way) rows h in
    let table = places_in_order old.now s it in
    let found = filter (is_due_behind kind b m) (all_waiting s) in
    let up = ascending-filter _ (is_due_behind kind b m) (all_waiting s) (ascending_from_map _ waiting_row (all_waiting s) table) in
    shows_entries waiting_tree least_due_terms due_columns (lit (Int (pos 1))) old.now.trees (least_params kind b m) rows waiting_row
    (is_between kind b m) number_shown (least_passes kind b m) (λ _. refl) (all_waiting s) it.entries.waits table read.answer
    ∙ ap (λ ws. take 1 (map number_shown ws)) (filter_same (is_between kind b m) (is_due_behind kind b m) (all_waiting s)
    (all_weaker (λ w. w.number < end_of_numbers) (λ w. is_between kind b m w ≡ is_due_behind kind b m w)
    (λ w small. same_kind kind b m w small) (all_waiting s) (numbers_small old s it)))
    ∙ first_shown found (numbers_rise kind found (of_the_kind kind b m (all_waiting s)) up)
    ∙ ap (λ ks. number_rows (least ks)) (those_behind (λ (w : WaitingRow). w.number) (λ w. w.kind == kind && is_due m w.due) b (all_waiting s))

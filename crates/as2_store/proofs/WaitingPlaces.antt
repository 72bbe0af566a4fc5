-- What waits, in order of the places; and a receipt there in place of what stood at its place.
use Rattle.std.proofs.Common.{◌≡◌, ℕ, ◌<◌, ◌==◌, ◌&&◌, List, [], ◌∷◌, ◌++◌, map, Option, option_map, Some, None, IfSome, true, false, not, cond, Result, Ok, Err, OnOk, ◌≢◌, refl, sym, ap, ap₂, subst, pos, ◌∙◌, arith, append_assoc}
use Rattle.std.specs.List.{AllByRecursion, filter_map, cons_option}
use Rattle.std.proofs.lemmas.Bool.Decides.{nat_tests}
use Rattle.std.proofs.lemmas.List.Elements.{filter-append, filter_agree}
use Rattle.sqlite.specs.Effect.{Database, IsDatabase}
use Rattle.sqlite.specs.Order.{Row}
use Rattle.sqlite.specs.Tree.{IsTable, IsAscending, put_row}
use Rattle.sqlite.specs.State.{State as Connected, Executes}
use Rattle.sqlite_trees.proofs.ListLemmas.{all-append, all_weaker, all_both, filter_all, ascending-append, ascending-filter, ascending-map, ascending_from_map}
use Rattle.sql_tables.specs.Changes.{ChangesTable, passes}
use Rattle.sql_tables.proofs.Queries.{numbers_equal}
use Rattle.sql_tables.proofs.Deleting.{deletes}
use Rattle.as2_exchange.specs.State.{end_of_numbers}
use Rattle.as2_exchange.specs.declared.inbox.InEntry.{InEntry}
use Rattle.as2_exchange.specs.declared.outbox.OutEntry.{OutEntry}
use Rattle.as2_rows.specs.Waiting.{WaitingRow, out_kind, in_kind, in_waiting, out_waiting, waiting_in, to_send, to_send_receipt, to_hear, to_end}
use Rattle.as2_store.specs.Tables.{Way, store_schema, waiting_table, waiting_tree}
use Rattle.as2_store.proofs.Statements.{waiting_take_text}
use Rattle.as2_store.specs.Stands.{place, waiting_row, documents_waiting}
use Rattle.as2_store.specs.Adding.{NotesWaiting, noted_rows}
use Rattle.as2_store.specs.Requeuing.{HoldsWaiting, RenewsWaiting, not_at}
use Rattle.as2_store.specs.Settling.{place_of}
use Rattle.as2_store.proofs.MetaRow.{one_param}
use Rattle.as2_store.proofs.NumberedRows.{given_rise, ordered_rise, puts_between}
use Rattle.as2_store.proofs.AddedPieces.{others_then}
use Rattle.as2_store.proofs.WaitingRows.{IsEvidenceAsked, IsLast}
use Rattle.as2_store.proofs.QueriedRows.{and_true}
use Rattle.as2_store.proofs.ForeignKeys.{quiet}
use Rattle.as2_store.proofs.Texts.{number_terms, waiting_take_is, waiting_take_plain}

-- ---- the statement

pub takes_waiting : {way : Way} (p count : ℕ) (old new : Connected) (ws : List WaitingRow) → HoldsWaiting way old.now ws
    → Executes waiting_take_text (one_param p) old new (Ok count) → ChangesTable old new (store_schema way) waiting_tree (map waiting_row (not_at p ws))
takes_waiting {way} p count old new ws it h =
    let done = deletes waiting_take_text (one_param p) old new (store_schema way) it.schema 6 waiting_table refl number_terms
    (λ (w : WaitingRow). pos (place w)) waiting_row (λ _. refl) ws it.rows it.in_order (quiet way waiting_tree) (waiting_take_is way)
    (waiting_take_plain way) count h in
    subst (λ l. ChangesTable old new (store_schema way) waiting_tree (map waiting_row l))
    (filter_agree (λ (w : WaitingRow). not (passes number_terms (one_param p) (waiting_row w))) (λ (w : WaitingRow). not (place w == p))
    (λ w. ap not (ap (λ b. b && true) (numbers_equal (place w) p) ∙ and_true _)) ws) done.0

-- what waits is in order once some of it is taken out
pub still_held : {way : Way} (old new : Connected) (p : ℕ) (ws : List WaitingRow) → HoldsWaiting way old.now ws
    → ChangesTable old new (store_schema way) waiting_tree (map waiting_row (not_at p ws)) → HoldsWaiting way new.now (not_at p ws)
still_held old new p ws it done = record {
  schema = done.schema_is;
  rows = done.rows_are;
  in_order = ascending-map _ waiting_row (not_at p ws) (ascending-filter _ (λ w. not (place w == p)) ws (ascending_from_map _ waiting_row ws it.in_order));
}

-- three statements, one after another
pub taken_then : (way : Way) (a b c d : Connected) (first second third : List Row) → ChangesTable a b (store_schema way) waiting_tree first
    → ChangesTable b c (store_schema way) waiting_tree second → ChangesTable c d (store_schema way) waiting_tree third → RenewsWaiting way a d third
taken_then way a b c d first second third one two three = record {
  sound = three.sound;
  schema_is = three.schema_is;
  rows_are = three.rows_are;
  others = others_then a.now.trees b.now.trees d.now.trees waiting_tree (store_schema way).tables one.others
      (others_then b.now.trees c.now.trees d.now.trees waiting_tree (store_schema way).tables two.others three.others);
}

-- some of it is taken out, and what is noted then is put in
pub noted_then : (way : Way) (a b c : Connected) (rows : List Row) (o : Option WaitingRow) → RenewsWaiting way a b rows → NotesWaiting way b c o
    → RenewsWaiting way a c (noted_rows o rows)
noted_then way a b c rows None one two = record {
  sound = subst IsDatabase (sym two) one.sound;
  schema_is = ap (λ (d : Database). d.schema) two ∙ one.schema_is;
  rows_are = ap (λ (d : Database). d.trees waiting_tree) two ∙ one.rows_are;
  others = subst (λ (d : Database). AllByRecursion (λ t. t.tree ≢ waiting_tree → d.trees t.tree ≡ a.now.trees t.tree) (store_schema way).tables)
      (sym two) one.others;
}
noted_then way a b c rows (Some w) one two = record {
  sound = two.sound;
  schema_is = two.schema_is;
  rows_are = two.rows_are ∙ ap (put_row (waiting_row w)) one.rows_are;
  others = others_then a.now.trees b.now.trees c.now.trees waiting_tree (store_schema way).tables one.others two.others;
}

pub changed_renewed : (way : Way) (a b : Connected) (rows : List Row) → ChangesTable a b (store_schema way) waiting_tree rows → RenewsWaiting way a b rows
changed_renewed way a b rows one = record { sound = one.sound; schema_is = one.schema_is; rows_are = one.rows_are; others = one.others }

-- whatever the last statement answers
pub ok_noted : {V E : Type 0} (r : Result V E) (a b c : Connected) (o : Option WaitingRow) {X : Type 0} (rows : X → List Row) (P : Way → X → Type 0)
    → ((way : Way) (x : X) → P way x → RenewsWaiting way a b (rows x))
    → OnOk r ((way : Way) → b.now.schema ≡ store_schema way → NotesWaiting way b c o)
    → OnOk r ((way : Way) (x : X) → P way x → RenewsWaiting way a c (noted_rows o (rows x)))
ok_noted (Ok v) a b c o rows P one two = λ way x p. let first = one way x p in noted_then way a b c (rows x) o first (two way first.schema_is)
ok_noted (Err e) a b c o rows P one two = tt

-- ---- the places rise

abbrev IsUnder : WaitingRow → WaitingRow → Type 0
IsUnder v w = v.number < w.number

abbrev IsBefore : WaitingRow → WaitingRow → Type 0
IsBefore v w = place v < place w

number_kept : (n : ℕ) (due : Option ℕ) (o : Option ℕ)
    → IfSome (option_map (λ kind. record { kind = kind; number = n; due = due }) o) (λ (w : WaitingRow). w.number ≡ n)
number_kept n due None = tt
number_kept n due (Some kind) = refl

by_place : (kind next : ℕ) (ws : List WaitingRow) → AllByRecursion (IsEvidenceAsked kind next) ws → IsAscending IsUnder ws → IsAscending IsBefore ws
by_place kind next [] of up = tt
by_place kind next (w ∷ ws) of up = (
  all_both (IsEvidenceAsked kind next) (λ v. w.number < v.number) (λ v. place w < place v)
      (λ v is less. omega (arith, of.0.0, is.0, less)) ws of.1 up.0,
  by_place kind next ws of.1 up.1,
)

abbrev IsPast : ℕ → WaitingRow → Type 0
IsPast kind w = kind < w.kind

past : (low kind next : ℕ) → low < kind → (ws : List WaitingRow) → AllByRecursion (IsEvidenceAsked kind next) ws → AllByRecursion (IsPast low) ws
past low kind next less ws of = all_weaker (IsEvidenceAsked kind next) (IsPast low) (λ w is. omega (arith, less, is.0)) ws of

-- those of one kind, and behind them those of greater kinds
then : (kind : ℕ) (xs ys : List WaitingRow) → AllByRecursion (IsEvidenceAsked kind end_of_numbers) xs → IsAscending IsUnder xs → AllByRecursion (IsPast kind) ys
    → IsAscending IsBefore ys → IsAscending IsBefore (xs ++ ys)
then kind xs ys of up behind later =
    ascending-append IsBefore xs ys (by_place kind end_of_numbers xs of up) later
    (all_weaker (IsEvidenceAsked kind end_of_numbers) (λ x. AllByRecursion (IsBefore x) ys)
    (λ x is. all_weaker (IsPast kind) (IsBefore x) (λ y far. omega (arith, is.0, is.1, far)) ys behind) xs of)

pub documents_rise : (kind : ℕ) (ds : List OutEntry) → IsAscending (λ (x y : OutEntry). x.number < y.number) ds
    → IsAscending IsUnder (documents_waiting kind ds)
documents_rise kind ds up =
    ascending-filter IsUnder (λ w. w.kind == kind) (filter_map out_waiting ds)
    (given_rise out_waiting (λ (d : OutEntry). d.number) (λ (w : WaitingRow). w.number) (λ d. number_kept d.number d.due (out_kind d.detail d.attempt)) ds up)

pub receipts_rise : (es : List InEntry) → IsAscending (λ (x y : InEntry). x.number < y.number) es → IsAscending IsUnder (waiting_in es)
receipts_rise es up = given_rise in_waiting (λ (e : InEntry). e.number) (λ (w : WaitingRow). w.number)
    (λ e. number_kept e.number e.due (in_kind e.receipt_stage e.attempt)) es up

pub places_rise : (send answer hear end : List WaitingRow) → AllByRecursion (IsEvidenceAsked to_send end_of_numbers) send
    → AllByRecursion (IsEvidenceAsked to_send_receipt end_of_numbers) answer → AllByRecursion (IsEvidenceAsked to_hear end_of_numbers) hear
    → AllByRecursion (IsEvidenceAsked to_end end_of_numbers) end → IsAscending IsUnder send → IsAscending IsUnder answer → IsAscending IsUnder hear
    → IsAscending IsUnder end → IsTable (map waiting_row (send ++ (answer ++ (hear ++ end))))
places_rise send answer hear end s a h e us ua uh ue =
    let hears = past to_send_receipt to_hear end_of_numbers (omega arith) hear h in
    let ends = past to_send_receipt to_end end_of_numbers (omega arith) end e in
    let last = all-append (IsPast to_send_receipt) hear end hears ends in
    let lasts = all_weaker (IsPast to_send_receipt) (IsPast to_send) (λ w far. omega (arith, far)) (hear ++ end) last in
    ordered_rise waiting_row place (λ _. refl) (send ++ (answer ++ (hear ++ end)))
    (then to_send send (answer ++ (hear ++ end)) s us
    (all-append (IsPast to_send) answer (hear ++ end) (past to_send to_send_receipt end_of_numbers (omega arith) answer a) lasts)
    (then to_send_receipt answer (hear ++ end) a ua last
    (then to_hear hear end h uh (past to_hear to_end end_of_numbers (omega arith) end e) (by_place to_end end_of_numbers end e ue))))

-- ---- one is put in anew

joined : (a f b r : List WaitingRow) → a ++ ((f ++ b) ++ r) ≡ (a ++ f) ++ (b ++ r)
joined a f b r = ap (λ l. a ++ l) (append_assoc f b r) ∙ sym (append_assoc a f (b ++ r))

kept_low : (p : ℕ) (ws : List WaitingRow) → AllByRecursion (λ w. place w < p) ws → AllByRecursion (λ w. not (place w == p) ≡ true) ws
kept_low p ws all = all_weaker (λ w. place w < p) (λ w. not (place w == p) ≡ true) (λ w less. one (place w) less) ws all
  where
    one : (q : ℕ) → q < p → not (q == p) ≡ true
    one q less = grind (arith, nat_tests)

kept_high : (p : ℕ) (ws : List WaitingRow) → AllByRecursion (λ w. p < place w) ws → AllByRecursion (λ w. not (place w == p) ≡ true) ws
kept_high p ws all = all_weaker (λ w. p < place w) (λ w. not (place w == p) ≡ true) (λ w less. one (place w) less) ws all
  where
    one : (q : ℕ) → p < q → not (q == p) ≡ true
    one q less = grind (arith, nat_tests)

dropped : (p q : ℕ) → q ≡ p → not (q == p) ≡ false
dropped p q same = grind (arith, nat_tests)

pub taken : (p : ℕ) (o : Option WaitingRow) → IfSome o (λ w. place w ≡ p) → (front back : List WaitingRow) → AllByRecursion (λ w. place w < p) front
    → AllByRecursion (λ w. p < place w) back
    → not_at p (front ++ cons_option o back) ≡ front ++ back
taken p None at front back low high =
    filter-append (λ w. not (place w == p)) front back ∙ ap₂ ◌++◌ (filter_all _ front (kept_low p front low)) (filter_all _ back (kept_high p back high))
taken p (Some w) at front back low high =
    filter-append (λ w. not (place w == p)) front (w ∷ back)
    ∙ ap₂ ◌++◌ (filter_all _ front (kept_low p front low))
    (ap (λ b. cond b (w ∷ not_at p back) (not_at p back)) (dropped p (place w) at) ∙ filter_all _ back (kept_high p back high))

pub renewed : (n : ℕ) (new : Option WaitingRow) → IfSome new (IsLast n) → n < end_of_numbers → (o : Option WaitingRow) → IfSome o (IsLast n)
    → (send front back hear end : List WaitingRow)
    → AllByRecursion (IsEvidenceAsked to_send end_of_numbers) send → AllByRecursion (IsEvidenceAsked to_send_receipt n) front
    → AllByRecursion (λ v. (v.kind ≡ to_send_receipt) × (n < v.number)) back
    → AllByRecursion (IsEvidenceAsked to_hear end_of_numbers) hear → AllByRecursion (IsEvidenceAsked to_end end_of_numbers) end
    → noted_rows new (map waiting_row
    (not_at (place_of to_send_receipt n) (send ++ ((front ++ cons_option o back) ++ (hear ++ end))))) ≡ map waiting_row
    (send ++ ((front ++ cons_option new back) ++ (hear ++ end)))
renewed n new is small o was send front back hear end s f b h e =
    let p = place_of to_send_receipt n in
    let low = all-append (λ q. place q < p) send front
    (all_weaker (IsEvidenceAsked to_send end_of_numbers) (λ q. place q < p) (λ q of. omega (arith, of.0, of.1)) send s)
    (all_weaker (IsEvidenceAsked to_send_receipt n) (λ q. place q < p) (λ q of. omega (arith, of.0, of.1)) front f) in
    let ends = all-append (λ q. p < place q) hear end
    (all_weaker (IsEvidenceAsked to_hear end_of_numbers) (λ q. p < place q) (λ q of. omega (arith, of.0, of.1, small)) hear h)
    (all_weaker (IsEvidenceAsked to_end end_of_numbers) (λ q. p < place q) (λ q of. omega (arith, of.0, of.1, small)) end e) in
    let high = all-append (λ q. p < place q) back (hear ++ end)
    (all_weaker (λ v. (v.kind ≡ to_send_receipt) × (n < v.number)) (λ q. p < place q) (λ q of. omega (arith, of.0, of.1)) back b) ends in
    ap (λ l. noted_rows new (map waiting_row (not_at p l))) (spread o)
    ∙ ap (λ l. noted_rows new (map waiting_row l)) (taken p o (stood o was) (send ++ front) (back ++ (hear ++ end)) low high)
    ∙ put new is low high
    ∙ ap (map waiting_row) (sym (spread new))
  where
    spread : (o : Option WaitingRow) → send ++ ((front ++ cons_option o back) ++ (hear ++ end)) ≡ (send ++ front) ++ cons_option o (back ++ (hear ++ end))
    spread None = joined send front back (hear ++ end)
    spread (Some v) = joined send front (v ∷ back) (hear ++ end)

    at_place : (v : WaitingRow) → IsLast n v → place v ≡ place_of to_send_receipt n
    at_place v is = omega (arith, is.0, is.1)

    stood : (o : Option WaitingRow) → IfSome o (IsLast n) → IfSome o (λ v. place v ≡ place_of to_send_receipt n)
    stood None was = tt
    stood (Some v) was = at_place v was

    put : (new : Option WaitingRow) → IfSome new (IsLast n) → AllByRecursion (λ q. place q < place_of to_send_receipt n) (send ++ front)
        → AllByRecursion (λ q. place_of to_send_receipt n < place q) (back ++ (hear ++ end))
        → noted_rows new (map waiting_row ((send ++ front) ++ (back ++ (hear ++ end)))) ≡ map waiting_row
        ((send ++ front) ++ cons_option new (back ++ (hear ++ end)))
    put None is low high = refl
    put (Some w) is low high =
        puts_between waiting_row place (λ _. refl) w (send ++ front) (back ++ (hear ++ end))
        (subst (λ k. AllByRecursion (λ q. place q < k) (send ++ front)) (sym (at_place w is)) low)
        (subst (λ k. AllByRecursion (λ q. k < place q) (back ++ (hear ++ end))) (sym (at_place w is)) high)

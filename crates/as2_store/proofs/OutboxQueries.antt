-- What the queries of the outbox and of the evidence answer.
use Rattle.std.proofs.Common.{◌≡◌, ℕ, ◌==◌, ◌<◌, ◌≤◌, List, [], ◌∷◌, map, slice_get, Option, option_and_then, option_map, Some, None, IfSome, Bool, true, false, ◌&&◌, cond, nat_lt, refl, sym, ap, ap₂, subst, ◌∙◌, arith}
use Rattle.std.specs.List.{AllByRecursion, IsDistinct, filter, filter_map, find, cons_option}
use Rattle.std.proofs.lemmas.Bool.Decides.{nat_tests}
use Rattle.sqlite.specs.declared.types.Value.TheVariants.{Blob}
use Rattle.sqlite.specs.Order.{Row}
use Rattle.sqlite.specs.State.{State as Connected, Shown}
use Rattle.sql_tables.proofs.Inside.{shown_open}
use Rattle.sql_tables.proofs.Queries.{blobs_equal, numbers_equal}
use Rattle.as2_names.specs.Identifiers.{without_brackets}
use Rattle.as2_exchange.specs.State.{State, end_of_numbers}
use Rattle.as2_exchange.proofs.Decisions.{number_is}
use Rattle.as2_exchange.proofs.Lists.{all_weaken}
use Rattle.sqlite_trees.proofs.ListLemmas.{filter_same}
use Rattle.as2_exchange.specs.declared.outbox.Evidence.{Evidence}
use Rattle.as2_exchange.specs.declared.outbox.OutEntry.{OutEntry}
use Rattle.as2_rows.specs.Rows.{out_row, out_shown, evidence_row, evidence_shown}
use Rattle.as2_rows.specs.Summaries.{evidence_in}
use Rattle.as2_records.specs.Summaries.{out_entry, out_summary}
use Rattle.as2_rows.specs.declared.evidence.EvidenceRow.{EvidenceRow}
use Rattle.as2_records.specs.declared.summaries.OutRow.{OutRow}
use Rattle.as2_store.specs.Tables.{outbox_tree, evidence_tree}
use Rattle.as2_store.proofs.Statements.{out_by_id_text, out_by_number_text, evidence_by_number_text}
use Rattle.as2_store.specs.Stands.{evidence_rows, HoldsIfOpen}
use Rattle.as2_store.specs.Finding.{evidence_at, has_id, shown_evidence}
use Rattle.as2_store.proofs.NumberedRows.{numbers_rise, given_rise, ordered_rise, entries_rise, found_number}
use Rattle.as2_store.proofs.QueriedRows.{reads_rows, and_true}
use Rattle.as2_store.proofs.InboxQueries.{by_number_params, same_tests}
use Rattle.as2_store.proofs.EntryPieces.{turned}
use Rattle.as2_store.proofs.Texts.{out_column_terms, out_names, id_terms, number_terms, out_by_id_is, out_by_id_plain, out_by_id_unlisted, out_by_number_is, out_by_number_plain, out_by_number_unlisted, evidence_column_terms, evidence_names, evidence_by_number_is, evidence_by_number_plain, evidence_by_number_unlisted}

abbrev pub id_params : List ℕ → Row
id_params value = Blob value ∷ []

pub finds_id : (value : List ℕ) (old new : Connected) (rows : List Row) → Shown out_by_id_text (id_params value) old new rows → (s : State) → HoldsIfOpen old s
    → rows ≡ map out_shown (filter (has_id value) s.outbox)
finds_id value old new rows h s r =
    let here = r (shown_open out_by_id_text (id_params value) old new rows h) in
    let way = here.way in
    let it = here.stands in
    reads_rows way out_by_id_text (out_by_id_plain way) (out_by_id_unlisted way) outbox_tree id_terms out_column_terms out_names (out_by_id_is way)
    (id_params value) out_row out_shown (λ _. refl) (has_id value)
    (λ d. ap (λ b. b && true) (blobs_equal (without_brackets d.id) value) ∙ and_true _) old new rows h it.schema s.outbox it.entries.outbox
    (entries_rise out_row (λ (d : OutEntry). d.number) (λ _. refl) s.next_out s.outbox it.documents.1)

pub finds_document : (n w : ℕ) → (end_of_numbers ≤ n → w ≡ end_of_numbers) → (n < end_of_numbers → w ≡ n) → (old new : Connected) (rows : List Row)
    → Shown out_by_number_text (by_number_params w) old new rows → (s : State) → HoldsIfOpen old s
    → rows ≡ map out_shown (filter (λ (d : OutEntry). d.number == n) s.outbox)
finds_document n w beyond within old new rows h s r =
    let here = r (shown_open out_by_number_text (by_number_params w) old new rows h) in
    let way = here.way in
    let it = here.stands in
    let low = all_weaken (λ m. m < s.next_out) (λ m. m < end_of_numbers) (λ m less. omega (arith, less, it.documents.0.most))
    (map (λ (d : OutEntry). d.number) s.outbox) it.documents.1.below in
    reads_rows way out_by_number_text (out_by_number_plain way) (out_by_number_unlisted way) outbox_tree number_terms out_column_terms out_names
    (out_by_number_is way) (by_number_params w) out_row out_shown (λ _. refl) (λ d. d.number == w)
    (λ d. ap (λ b. b && true) (numbers_equal d.number w) ∙ and_true _) old new rows h it.schema s.outbox it.entries.outbox
    (entries_rise out_row (λ (d : OutEntry). d.number) (λ _. refl) s.next_out s.outbox it.documents.1)
    ∙ ap (map out_shown) (filter_same (λ (d : OutEntry). d.number == w) (λ (d : OutEntry). d.number == n) s.outbox
    (same_tests (λ (d : OutEntry). d.number) n w beyond within s.outbox low))

-- ---- the evidence

abbrev pub receipt_row : OutEntry → Option EvidenceRow
receipt_row d = option_map (evidence_in d.number) d.evidence

abbrev pub receipts : List OutEntry → List EvidenceRow
receipts ds = filter_map receipt_row ds

abbrev pub row_of : EvidenceRow → Row
row_of r = evidence_row r.number r.evidence

abbrev shown_of_row : EvidenceRow → Row
shown_of_row r = evidence_shown r.number r.evidence

pub rows_of : (ds : List OutEntry) → evidence_rows ds ≡ map row_of (receipts ds)
rows_of [] = refl
rows_of (d ∷ ds) = go d.evidence (rows_of ds)
  where
    go : (o : Option Evidence) → evidence_rows ds ≡ map row_of (receipts ds)
        → cons_option (option_map (evidence_row d.number) o) (evidence_rows ds) ≡ map row_of (cons_option (option_map (evidence_in d.number) o) (receipts ds))
    go None rest = rest
    go (Some e) rest = ap (λ l. evidence_row d.number e ∷ l) rest

pub kept : (d : OutEntry) → IfSome (receipt_row d) (λ r. r.number ≡ d.number)
kept d = go d.evidence
  where
    go : (o : Option Evidence) → IfSome (option_map (evidence_in d.number) o) (λ r. r.number ≡ d.number)
    go None = tt
    go (Some e) = refl

abbrev pub of_number : ℕ → List EvidenceRow → List EvidenceRow
of_number n rs = filter (λ r. r.number == n) rs

other_first : (m n : ℕ) (o : Option Evidence) (rest : List EvidenceRow) → (m == n) ≡ false
    → of_number n (cons_option (option_map (evidence_in m) o) rest) ≡ of_number n rest
other_first m n None rest other = refl
other_first m n (Some e) rest other = ap (λ t. cond t (evidence_in m e ∷ of_number n rest) (of_number n rest)) other

own_first : (n : ℕ) (o : Option Evidence) (rest : List EvidenceRow) → of_number n rest ≡ []
    → of_number n (cons_option (option_map (evidence_in n) o) rest) ≡ cons_option (option_map (evidence_in n) o) []
own_first n None rest none = none
own_first n (Some e) rest none = ap (λ t. cond t (evidence_in n e ∷ of_number n rest) (of_number n rest)) (itself n) ∙ ap (λ l. evidence_in n e ∷ l) none
  where
    itself : (n : ℕ) → (n == n) ≡ true
    itself n = grind (arith, nat_tests)

of_others : (n : ℕ) (ds : List OutEntry) → AllByRecursion (λ m. (n == m) ≡ false) (map (λ (d : OutEntry). d.number) ds) → of_number n (receipts ds) ≡ []
of_others n [] other = refl
of_others n (d ∷ ds) other = other_first d.number n d.evidence (receipts ds) (turned d.number n other.0) ∙ of_others n ds other.1

abbrev pub settled_at : ℕ → List OutEntry → Option Evidence
settled_at n ds = option_and_then (λ (d : OutEntry). d.evidence) (find (λ (d : OutEntry). d.number == n) ds)

pub receipts_at : (n : ℕ) (ds : List OutEntry) → IsDistinct (λ a b. a == b) (map (λ (x : OutEntry). x.number) ds)
    → of_number n (receipts ds) ≡ cons_option (option_map (evidence_in n) (settled_at n ds)) []
unfolding IsDistinct
receipts_at n [] apart = refl
receipts_at n (d ∷ ds) apart = go (d.number == n) refl (receipts_at n ds apart.1)
  where
    go : (t : Bool) → (d.number == n) ≡ t → of_number n (receipts ds) ≡ cons_option (option_map (evidence_in n) (settled_at n ds)) []
        → of_number n (cons_option (receipt_row d) (receipts ds)) ≡ cons_option
        (option_map (evidence_in n) (option_and_then (λ (x : OutEntry). x.evidence) (cond t (Some d) (find (λ (x : OutEntry). x.number == n) ds)))) []
    go true is later =
        subst (λ k. of_number k (cons_option (receipt_row d) (receipts ds)) ≡ cons_option (option_map (evidence_in k) d.evidence) [])
        (number_is d.number n is) (own_first d.number d.evidence (receipts ds) (of_others d.number ds apart.0))
    go false is later = other_first d.number n d.evidence (receipts ds) is ∙ later

-- no document has a number that is never given
none_settled : (n : ℕ) (ds : List OutEntry) → AllByRecursion (λ m. m < end_of_numbers) (map (λ (d : OutEntry). d.number) ds) → end_of_numbers ≤ n
    → settled_at n ds ≡ None
none_settled n [] low past = refl
none_settled n (d ∷ ds) low past =
    ap (λ t. option_and_then (λ (x : OutEntry). x.evidence) (cond t (Some d) (find (λ (x : OutEntry). x.number == n) ds)))
    (other d.number n low.0 past) ∙ none_settled n ds low.1 past
  where
    other : (m n : ℕ) → m < end_of_numbers → end_of_numbers ≤ n → (m == n) ≡ false
    other m n less past = grind (arith, nat_tests)

-- a document that is found has the receipt of its number
pub own_evidence : (p : OutEntry → Bool) (ds : List OutEntry) (d : OutEntry) → IsDistinct (λ a b. a == b) (map (λ (x : OutEntry). x.number) ds)
    → find p ds ≡ Some d → settled_at d.number ds ≡ d.evidence
own_evidence p ds d apart found = ap (option_and_then (λ (x : OutEntry). x.evidence)) (found_number (λ (x : OutEntry). x.number) p ds d apart found)

-- and its row alone
pub own_receipt : (p : OutEntry → Bool) (ds : List OutEntry) (d : OutEntry) → IsDistinct (λ a b. a == b) (map (λ (x : OutEntry). x.number) ds)
    → find p ds ≡ Some d → of_number d.number (receipts ds) ≡ cons_option (receipt_row d) []
own_receipt p ds d apart found = receipts_at d.number ds apart
    ∙ ap (λ o. cons_option (option_map (evidence_in d.number) o) []) (own_evidence p ds d apart found)

as_shown : (n : ℕ) (o : Option Evidence) → map shown_of_row (cons_option (option_map (evidence_in n) o) []) ≡ shown_evidence n o
as_shown n None = refl
as_shown n (Some e) = refl

pub finds_evidence : (n w : ℕ) → (end_of_numbers ≤ n → w ≡ end_of_numbers) → (n < end_of_numbers → w ≡ n) → (old new : Connected) (rows : List Row)
    → Shown evidence_by_number_text (by_number_params w) old new rows → (s : State) → HoldsIfOpen old s
    → rows ≡ shown_evidence n (evidence_at s n)
finds_evidence n w beyond within old new rows h s r =
    let here = r (shown_open evidence_by_number_text (by_number_params w) old new rows h) in
    let way = here.way in
    let it = here.stands in
    let low = all_weaken (λ m. m < s.next_out) (λ m. m < end_of_numbers) (λ m less. omega (arith, less, it.documents.0.most))
    (map (λ (d : OutEntry). d.number) s.outbox) it.documents.1.below in
    go low (nat_lt n end_of_numbers) refl
    (reads_rows way evidence_by_number_text (evidence_by_number_plain way)
    (evidence_by_number_unlisted way) evidence_tree number_terms evidence_column_terms evidence_names (evidence_by_number_is way)
    (by_number_params w) row_of shown_of_row (λ _. refl)
    (λ r. r.number == w) (λ r. ap (λ b. b && true) (numbers_equal r.number w) ∙ and_true _) old new rows h it.schema (receipts s.outbox)
    (it.entries.evidence ∙ rows_of s.outbox)
    (ordered_rise row_of (λ r. r.number) (λ _. refl) (receipts s.outbox)
    (given_rise receipt_row (λ (d : OutEntry). d.number) (λ r. r.number) kept s.outbox
    (numbers_rise (λ (d : OutEntry). d.number) s.next_out s.outbox it.documents.1)))
    ∙ ap (map shown_of_row) (receipts_at w s.outbox it.documents.1.distinct)
    ∙ as_shown w (settled_at w s.outbox))
  where
    given : (k : ℕ) → nat_lt k end_of_numbers ≡ true → k < end_of_numbers
    given k is = grind (arith, nat_tests)

    never : (k : ℕ) → nat_lt k end_of_numbers ≡ false → end_of_numbers ≤ k
    never k is = grind (arith, nat_tests)

    go : AllByRecursion (λ m. m < end_of_numbers) (map (λ (d : OutEntry). d.number) s.outbox) → (t : Bool) → nat_lt n end_of_numbers ≡ t
        → rows ≡ shown_evidence w (settled_at w s.outbox) → rows ≡ shown_evidence n (settled_at n s.outbox)
    go low true is shown = subst (λ k. rows ≡ shown_evidence k (settled_at k s.outbox)) (within (given n is)) shown
    go low false is shown =
        let past = never n is in
        shown ∙ ap (shown_evidence w) (none_settled w s.outbox low (subst (λ k. end_of_numbers ≤ k) (sym (beyond past)) (omega arith)))
        ∙ sym (ap (shown_evidence n) (none_settled n s.outbox low past))

-- ---- the first row of the evidence

pub no_evidence : (n : ℕ) (o : Option Evidence) (rows : List Row) → rows ≡ shown_evidence n o → slice_get rows 0 ≡ None → None ≡ o
no_evidence n None rows all none = refl
no_evidence n (Some e) rows all none = absurd (let f = ap (λ l. slice_get l 0) all in cc)

pub some_evidence : (n : ℕ) (o : Option Evidence) (rows : List Row) (row : Row) → rows ≡ shown_evidence n o → slice_get rows 0 ≡ Some row → (e : Evidence)
    × (o ≡ Some e) × (row ≡ evidence_shown n e)
some_evidence n None rows row all got = absurd (let f = ap (λ l. slice_get l 0) all in cc)
some_evidence n (Some e) rows row all got = (e, refl, (let f = ap (λ l. slice_get l 0) all in cc))

-- ---- the document that is put together

pub document_is : (r : OutRow) (begun : Bool) (content : List ℕ) (e : Option Evidence) (d : OutEntry) → r ≡ out_summary d → begun ≡ d.begun
    → content ≡ d.content → e ≡ d.evidence → out_entry r begun content e ≡ d
document_is r begun content e d row was whole settled = ap₂ (λ x y. out_entry x y content e) row was
    ∙ ap₂ (λ y z. out_entry (out_summary d) d.begun y z) whole settled

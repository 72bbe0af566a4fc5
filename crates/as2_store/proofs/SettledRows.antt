-- What the query of the settled documents answers, and the numbers that its rows show.
use Rattle.std.proofs.Common.{◌≡◌, ◌∙◌, List, [], ◌∷◌, map, Option, Some, None, true, cond, refl, ap, codes, option_map}
use Rattle.std.specs.List.{filter, cons_option}
use Rattle.sqlite.specs.Order.{Row}
use Rattle.sqlite.specs.State.{State as Connected, Shown}
use Rattle.sql_tables.proofs.Inside.{shown_open}
use Rattle.as2_exchange.specs.State.{State, is_settled}
use Rattle.as2_exchange.specs.declared.outbox.Evidence.{Evidence}
use Rattle.as2_exchange.specs.declared.outbox.OutEntry.{OutEntry}
use Rattle.as2_rows.specs.Summaries.{evidence_in}
use Rattle.as2_rows.specs.declared.evidence.EvidenceRow.{EvidenceRow}
use Rattle.as2_store.specs.Tables.{evidence_tree}
use Rattle.as2_store.specs.Due.{number_row}
use Rattle.as2_records.specs.Listing.{settled_numbers}
use Rattle.as2_store.specs.Stands.{HoldsIfOpen}
use Rattle.as2_store.proofs.Statements.{settled_text}
use Rattle.as2_store.proofs.NumberedRows.{given_rise, numbers_rise, ordered_rise}
use Rattle.as2_store.proofs.OutboxQueries.{kept, receipt_row, receipts, row_of, rows_of}
use Rattle.as2_store.proofs.QueriedRows.{reads_rows}
use Rattle.as2_store.proofs.Texts.{settled_column_terms, settled_is, settled_plain, settled_unlisted}

-- the row of a piece of evidence that shows its number alone
abbrev number_of : EvidenceRow → Row
number_of r = number_row r.number

-- those with evidence are the settled ones
are_settled : (ds : List OutEntry) → map number_of (filter (λ _. true) (receipts ds)) ≡ map number_row (map (λ (d : OutEntry). d.number) (filter is_settled ds))
are_settled [] = refl
are_settled (d ∷ ds) = go d.evidence refl (are_settled ds)
  where
    go : (o : Option Evidence) → d.evidence ≡ o
        → map number_of (filter (λ _. true) (receipts ds)) ≡ map number_row (map (λ (x : OutEntry). x.number) (filter is_settled ds))
        → map number_of (filter (λ _. true) (cons_option (option_map (evidence_in d.number) o) (receipts ds))) ≡ map number_row
        (map (λ (x : OutEntry). x.number) (cond (is_settled (record d { evidence = o })) (d ∷ filter is_settled ds) (filter is_settled ds)))
    go None is rest = rest
    go (Some e) is rest = ap (λ l. number_row d.number ∷ l) rest

pub finds_settled : (old new : Connected) (rows : List Row) → Shown settled_text [] old new rows → (s : State) → HoldsIfOpen old s
    → rows ≡ map number_row (settled_numbers s)
finds_settled old new rows h s r =
    let here = r (shown_open settled_text [] old new rows h) in
    let way = here.way in
    let it = here.stands in
    reads_rows way settled_text (settled_plain way) (settled_unlisted way) evidence_tree [] settled_column_terms (codes "number" ∷ [])
    (settled_is way) [] row_of number_of (λ _. refl) (λ _. true) (λ _. refl) old new rows h it.schema (receipts s.outbox)
    (it.entries.evidence ∙ rows_of s.outbox)
    (ordered_rise row_of (λ r. r.number) (λ _. refl) (receipts s.outbox)
    (given_rise receipt_row (λ (d : OutEntry). d.number) (λ r. r.number) kept s.outbox
    (numbers_rise (λ (d : OutEntry). d.number) s.next_out s.outbox it.documents.1)))
    ∙ are_settled s.outbox

-- What the queries of one column answer, and what is counted of it.
use Rattle.std.proofs.Common.{◌≡◌, ◌∙◌, List, [], ◌∷◌, map, true, refl, ap, codes}
use Rattle.std.specs.List.{filter}
use Rattle.sqlite.specs.Order.{Row}
use Rattle.sqlite.specs.State.{State as Connected, Shown}
use Rattle.sql_tables.proofs.Inside.{shown_open}
use Rattle.as2_exchange.specs.State.{State}
use Rattle.as2_exchange.specs.declared.inbox.InEntry.{InEntry}
use Rattle.as2_exchange.specs.declared.outbox.OutEntry.{OutEntry}
use Rattle.as2_rows.specs.Rows.{in_row, out_row}
use Rattle.as2_store.specs.Counting.{detail_row, details_of, receipt_stage_row, receipt_stages_of}
use Rattle.as2_store.specs.Stands.{HoldsIfOpen}
use Rattle.as2_store.specs.Tables.{inbox_tree, outbox_tree}
use Rattle.as2_store.proofs.NumberedRows.{entries_rise}
use Rattle.as2_store.proofs.QueriedRows.{reads_rows}
use Rattle.as2_store.proofs.Statements.{detail_text, receipt_stage_text}
use Rattle.as2_store.proofs.Texts.{detail_column_terms, detail_is, detail_plain, detail_unlisted, receipt_stage_column_terms, receipt_stage_is, receipt_stage_plain, receipt_stage_unlisted}

-- all rows, each showing one column
pub each_shown : {X Y : Type 0} (column : X → Y) (row : Y → Row) (xs : List X) → map (λ x. row (column x)) (filter (λ _. true) xs) ≡ map row (map column xs)
each_shown column row [] = refl
each_shown column row (x ∷ xs) = ap (λ l. row (column x) ∷ l) (each_shown column row xs)

pub finds_details : (old new : Connected) (rows : List Row) → Shown detail_text [] old new rows → (s : State) → HoldsIfOpen old s
    → rows ≡ map detail_row (details_of s)
finds_details old new rows h s r =
    let here = r (shown_open detail_text [] old new rows h) in
    let way = here.way in
    let it = here.stands in
    reads_rows way detail_text (detail_plain way) (detail_unlisted way) outbox_tree [] detail_column_terms (codes "detail" ∷ [])
    (detail_is way) [] out_row (λ (d : OutEntry). detail_row d.detail) (λ _. refl) (λ _. true) (λ _. refl) old new rows h it.schema s.outbox it.entries.outbox
    (entries_rise out_row (λ (d : OutEntry). d.number) (λ _. refl) s.next_out s.outbox it.documents.1)
    ∙ each_shown (λ (d : OutEntry). d.detail) detail_row s.outbox

pub finds_receipt_stages : (old new : Connected) (rows : List Row) → Shown receipt_stage_text [] old new rows → (s : State) → HoldsIfOpen old s
    → rows ≡ map receipt_stage_row (receipt_stages_of s)
finds_receipt_stages old new rows h s r =
    let here = r (shown_open receipt_stage_text [] old new rows h) in
    let way = here.way in
    let it = here.stands in
    reads_rows way receipt_stage_text (receipt_stage_plain way) (receipt_stage_unlisted way) (inbox_tree way) [] receipt_stage_column_terms
    (codes "mdn" ∷ []) (receipt_stage_is way) [] in_row (λ (e : InEntry). receipt_stage_row e.receipt_stage) (λ _. refl) (λ _. true)
    (λ _. refl) old new rows h it.schema s.inbox it.entries.inbox
    (entries_rise in_row (λ (e : InEntry). e.number) (λ _. refl) s.next_in s.inbox it.receipts.1)
    ∙ each_shown (λ (e : InEntry). e.receipt_stage) receipt_stage_row s.inbox

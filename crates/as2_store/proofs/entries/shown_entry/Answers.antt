use Rattle.std.proofs.Common.{rules, ◌≡◌, ◌∙◌, sym, ap, ap₂, Some, None, Ok, slice_get}
use Rattle.as2_rows.specs.Rows.{in_shown}
use Rattle.as2_records.specs.Summaries.{in_summary, in_entry}
use Rattle.as2_store.proofs.QueriedRows.{none_first, some_first}
use Rattle.as2_store.proofs.Querying.{told_ok}
use Rattle.as2_store.proofs.ReadsBy.{read_ok, unread}
use Rattle.as2_store.proofs.entries.shown_entry.Goals as goal

pub returns-in_default-clause-found : goal.returns-in_default-clause-found
returns-in_default-clause-found g c = unread _ _ _ c.requires.open (λ s p all.
    let got : slice_get c.args.rows.now 0 ≡ None = search rules in
    sym (none_first in_shown p s.inbox c.args.rows.now all got))

pub returns-clause-found : goal.returns-clause-found
returns-clause-found g c = read_ok _ _ _ _ _ _ (λ s r content p all.
    let got : slice_get c.args.rows.now 0 ≡ Some c.in-Some.row.now = search rules in
    let it = some_first in_shown p s.inbox c.args.rows.now c.in-Some.row.now all got in
    let same : c.read_in_row.result ≡ Ok c.in_ok-row.row = told_ok _ _ _ _ c.map_err.ensures.cases c.in_ok-row.was in
    let read = rw same at c.read_in_row.ensures.read in
    let summary : c.in_ok-row.row ≡ in_summary it.0 = read it.0 it.2 in
    ap Some (c.with_content.ensures ∙ ap₂ in_entry summary (content p it.0 it.1 (ap (λ x. x.number) summary))) ∙ sym it.1) c.in_ok-content.ensures.content

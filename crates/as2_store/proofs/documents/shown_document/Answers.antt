use Rattle.std.proofs.Common.{rules, ℕ, List, ◌≡◌, ◌∙◌, sym, ap, Bool, Option, Some, None, Ok, map, filter, find, slice_get}
use Rattle.as2_exchange.specs.State.{State}
use Rattle.as2_exchange.specs.declared.outbox.Evidence.{Evidence}
use Rattle.as2_exchange.specs.declared.outbox.OutEntry.{OutEntry}
use Rattle.as2_rows.specs.Rows.{out_shown}
use Rattle.as2_records.specs.Summaries.{out_summary, out_entry}
use Rattle.as2_records.specs.declared.summaries.OutRow.{OutRow}
use Rattle.as2_store.specs.Finding.{evidence_at}
use Rattle.as2_store.proofs.QueriedRows.{none_first, some_first}
use Rattle.as2_store.proofs.OutboxQueries.{document_is, own_evidence}
use Rattle.as2_store.proofs.Querying.{told_ok}
use Rattle.as2_store.proofs.ReadsBy.{read_ok, read_then, read_bad, reads_standing, unread}
use Rattle.as2_store.proofs.documents.shown_document.Goals as goal

pub returns-in_default-clause-found : goal.returns-in_default-clause-found
returns-in_default-clause-found g c = unread _ _ _ c.requires.open (λ s p all.
    let got : slice_get c.args.rows.now 0 ≡ None = search rules in
    sym (none_first out_shown p s.outbox c.args.rows.now all got))

-- what is known once the content and the evidence are read
abbrev IsPart : OutRow → List ℕ → State → Option Evidence → Type 0
IsPart row content s e = (p : OutEntry → Bool) (d : OutEntry) → find p s.outbox ≡ Some d → row.number ≡ d.number → (content ≡ d.content) × (e ≡ d.evidence)

pub returns-clause-found : goal.returns-clause-found
returns-clause-found g c =
    let row = c.in_ok-row.row in
    let content = c.in_ok-content.content in
    let evidence = c.in_ok-evidence.evidence in
    let P = λ (s : State) (b : Bool). (p : OutEntry → Bool) → c.args.rows.now ≡ map out_shown (filter p s.outbox)
    → Some (out_entry row b content evidence) ≡ find p s.outbox in
    let parts = read_then _ _ (IsPart row content) _ _ _ content (Ok evidence)
    (λ s b r of own p d found number. (of p d found number, own p d found number)) c.in_ok-content.ensures.content
    (reads_standing _ (λ s b. (p : OutEntry → Bool) (d : OutEntry) → find p s.outbox ≡ Some d → row.number ≡ d.number → b ≡ d.evidence) _ _ _
    (λ s b held is p d found own. is ∙ ap (evidence_at s) own
    ∙ own_evidence p s.outbox d held.stands.documents.1.distinct found) c.in_ok-evidence.ensures.evidence) in
    read_ok P _ _ _ c.in_ok-begun.begun _ (λ s r it p all. ap Some c.with_content.ensures ∙ it p all)
    (read_then _ _ P _ _ _ evidence (Ok c.in_ok-begun.begun) (λ s b r of was p all.
    let got : slice_get c.args.rows.now 0 ≡ Some c.in-Some.row.now = search rules in
    let it = some_first out_shown p s.outbox c.args.rows.now c.in-Some.row.now all got in
    let same : c.read_out_row.result ≡ Ok c.in_ok-row.row = told_ok _ _ _ _ c.map_err.ensures.cases c.in_ok-row.was in
    let read = rw same at c.read_out_row.ensures.read in
    let summary : c.in_ok-row.row ≡ out_summary it.0 = read it.0 it.2 in
    let number = ap (λ x. x.number) summary in
    let both = of p it.0 it.1 number in
    ap Some (document_is row b content evidence it.0 summary (was p it.0 it.1 number (ap (λ x. x.tries) summary)) both.0 both.1)
    ∙ sym it.1) parts c.in_ok-begun.ensures.begun)

pub returns-in_err-evidence-clause-found : goal.returns-in_err-evidence-clause-found
returns-in_err-evidence-clause-found g c =
    read_then _ (λ _ _. ⊥) _ _ _ _ c.in_ok-content.content c.from_residual-in_err-evidence.result
    (λ s b r content none. absurd none) c.in_ok-content.ensures.content
    (read_bad _ (λ _ _. ⊥) _ _ c.evidence_in.result c.from_residual-in_err-evidence.result c.from_residual-in_err-evidence.ensures.0
    c.evidence_in.ensures.evidence)

pub returns-in_err-begun-clause-found : goal.returns-in_err-begun-clause-found
returns-in_err-begun-clause-found g c =
    let parts = read_then _ _ (λ _ _. Unit {0}) _ _ _ c.in_ok-content.content (Ok c.in_ok-evidence.evidence)
    (λ s b r of own. tt) c.in_ok-content.ensures.content c.in_ok-evidence.ensures.evidence in
    read_then _ (λ _ _. ⊥) _ _ _ _ c.in_ok-evidence.evidence c.from_residual-in_err-begun.result (λ s b r content none. absurd none) parts
    (read_bad _ (λ _ _. ⊥) _ _ c.begun_in.result c.from_residual-in_err-begun.result c.from_residual-in_err-begun.ensures.0 c.begun_in.ensures.begun)

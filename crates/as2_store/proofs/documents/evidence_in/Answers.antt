use Rattle.std.proofs.Common.{rules, ◌≡◌, ◌∙◌, sym, ap, Some, None, Ok, slice_get}
use Rattle.as2_store.specs.Finding.{evidence_at}
use Rattle.as2_store.proofs.OutboxQueries.{no_evidence, some_evidence}
use Rattle.as2_store.proofs.Querying.{told_ok}
use Rattle.as2_store.proofs.ReadsBy.{mapped, read_ok}
use Rattle.as2_store.proofs.documents.evidence_in.Goals as goal

pub returns-in_default-clause-evidence : goal.returns-in_default-clause-evidence
returns-in_default-clause-evidence g c = read_ok _ _ _ _ _ _ (λ s r shown.
    let got : slice_get c.in_ok-rows.rows.items 0 ≡ None = search rules in
    no_evidence c.args.number (evidence_at s c.args.number) c.in_ok-rows.rows.items shown got)
    (mapped _ _ _ _ _ _ _ c.map_err.ensures.cases c.in_ok-rows.was c.evidence_rows.ensures.rows)

pub returns-clause-evidence : goal.returns-clause-evidence
returns-clause-evidence g c = read_ok _ _ _ _ _ _ (λ s r shown.
    let n = c.args.number in
    let got : slice_get c.in_ok-rows.rows.items 0 ≡ Some c.in-Some.row.now = search rules in
    let same : c.read.result ≡ Ok c.in_ok-row.row = told_ok _ _ _ _ c.map_err-2.ensures.cases c.in_ok-row.was in
    let read = rw same at c.read.ensures.read in
    let it = some_evidence n (evidence_at s n) c.in_ok-rows.rows.items c.in-Some.row.now shown got in
    ap (λ x. Some x.evidence) (read n it.0 it.2) ∙ sym it.1) (mapped _ _ _ _ _ _ _ c.map_err.ensures.cases c.in_ok-rows.was c.evidence_rows.ensures.rows)

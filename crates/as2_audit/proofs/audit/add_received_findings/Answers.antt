use Rattle.std.proofs.Common.{◌≡◌, ◌∙◌, ◌++◌, List, Option, length, ap, arith}
use Rattle.std.specs.List.{flat_map}
use Rattle.std.proofs.lemmas.List.{length-map}
use Rattle.std.proofs.lemmas.List.Folds.{flat_map-map}
use Rattle.as2_records.specs.Summaries.{in_summary}
use Rattle.as2_records.specs.declared.summaries.InRow.{InRow}
use Rattle.as2_records.proofs.Following.{read_bad, read_then}
use Rattle.as2_audit.specs.Audits.{finding_at, received_at, received_findings}
use Rattle.as2_audit.specs.declared.findings.Mailbox.TheVariants.{Inbox}
use Rattle.as2_audit.specs.declared.fault.Fault.{Fault}
use Rattle.as2_audit.specs.declared.findings.Finding.{Finding}
use Rattle.as2_audit.proofs.Audited.{all, one_more}
use Rattle.as2_audit.proofs.audit.add_received_findings.Goals as goal

pub returns-in_err-fault-clause-found : goal.returns-in_err-fault-clause-found
returns-in_err-fault-clause-found g c =
    read_then _ _ _ _ _ _ _ c.from_residual-in_err-fault.result (λ s n rests known more. more) c.loop-at.invariant
    (read_bad _ _ _ _ _ c.from_residual-in_err-fault.result c.from_residual-in_err-fault.ensures.0 c.in_err-fault.ensures.fault)

pub returns-in_err-add-clause-found : goal.returns-in_err-add-clause-found
returns-in_err-add-clause-found g c =
    read_then _ _ _ _ _ _ _ c.from_residual-in_err-add.result (λ s n rests known more. more) c.loop-at.invariant
    (read_bad _ _ _ _ _ c.from_residual-in_err-add.result c.from_residual-in_err-add.ensures.0 c.in_ok-fault.ensures.fault)

pub loop-at-preserved : goal.loop-at-preserved
loop-at-preserved g c =
    one_more _ _ (λ s fault. fault ≡ received_at s c.row-item.result.number) _ _ _ _ _ _ c.loop-at.at _ c.row-item.result c.in_ok-fault.fault
    c.loop-at-test.true
    (λ s rows is. c.in_ok-add.ensures.found
    ∙ ap (λ (f : Option Fault). c.loop-at.findings.items ++ finding_at Inbox c.row-item.result.number f) is
    ∙ ap (λ (r : InRow). c.loop-at.findings.items ++ finding_at Inbox r.number (received_at s r.number)) c.row-item.is)
    c.loop-at.invariant c.in_ok-fault.ensures.fault

pub returns-clause-found : goal.returns-clause-found
returns-clause-found g c =
    all _ _ (λ s count. (c.loop-at.findings.items ≡ c.args.findings.now.items ++ received_findings s)
    × (count ≡ length s.inbox)) _ _ c.args.findings.now.items c.loop-at.findings.items c.loop-at.at _ c.len-all.result
    (omega (arith, c.loop-at.auto.at-end, c.loop-at-test.false))
    (λ s rows is. (
      is ∙ ap (λ (l : List InRow). c.args.findings.now.items ++ flat_map (λ r. finding_at Inbox r.number (received_at s r.number)) l) rows
          ∙ ap (λ (l : List Finding). c.args.findings.now.items ++ l)
          (flat_map-map (λ (r : InRow). finding_at Inbox r.number (received_at s r.number)) in_summary s.inbox),
      omega (arith, c.len-all.ensures, c.deref-row-items.ensures.len, ap (λ (l : List InRow). length l) rows, length-map s.inbox in_summary),
    )) c.loop-at.invariant

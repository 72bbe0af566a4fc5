use Rattle.std.proofs.Common.{◌≡◌, ◌∙◌, ◌++◌, ◌==◌, ℕ, not, List, Option, None, map, length, ap, sym, arith}
use Rattle.std.specs.List.{flat_map}
use Rattle.std.proofs.lemmas.List.{length-map}
use Rattle.std.proofs.lemmas.List.Folds.{flat_map-map}
use Rattle.as2_exchange.specs.State.{origin_of}
use Rattle.as2_records.specs.Listing.{listed_rows}
use Rattle.as2_records.specs.Summaries.{out_summary}
use Rattle.as2_records.specs.declared.summaries.OutRow.{OutRow}
use Rattle.as2_records.proofs.Following.{read_bad, read_then}
use Rattle.as2_audit.specs.Audits.{finding_at, is_migrated, sent_at, sent_findings}
use Rattle.as2_audit.specs.declared.findings.Mailbox.TheVariants.{Outbox}
use Rattle.as2_audit.specs.declared.fault.Fault.{Fault}
use Rattle.as2_audit.specs.declared.findings.Finding.{Finding}
use Rattle.as2_audit.proofs.Audited.{all, all_listed, begun, one_more}
use Rattle.as2_audit.proofs.audit.add_sent_findings.Goals as goal

pub loop-at-init : goal.loop-at-init
loop-at-init g c =
    begun _ _ (λ s rows. (is_migrated s ≡ not (c.in_ok-origin.origin == 0)) × (rows.items ≡ listed_rows None s)) _ _ c.in_ok-rows.rows _ _
    (λ s rests is. (is.0, c.deref-row-items.ensures.value ∙ is.1 ∙ ap (map out_summary) (all_listed s.outbox)))
    (read_then (λ s n. n ≡ origin_of s.version) (λ s rows. rows.items ≡ listed_rows None s) _ _ _ _ _ _
    (λ s rows rests first then. (ap (λ (n : ℕ). not (n == 0)) (sym first), then)) c.in_ok-origin.ensures.origin c.in_ok-rows.ensures.documents)

pub returns-in_err-fault-clause-found : goal.returns-in_err-fault-clause-found
returns-in_err-fault-clause-found g c =
    read_then _ _ _ _ _ _ _ c.from_residual-in_err-fault.result (λ s n rests known more. more) c.loop-at.invariant
    (read_bad _ _ _ _ _ c.from_residual-in_err-fault.result c.from_residual-in_err-fault.ensures.0 c.in_err-fault.ensures.fault)

pub returns-in_err-add-clause-found : goal.returns-in_err-add-clause-found
returns-in_err-add-clause-found g c =
    read_then _ _ _ _ _ _ _ c.from_residual-in_err-add.result (λ s n rests known more. more) c.loop-at.invariant
    (read_bad _ _ _ _ _ c.from_residual-in_err-add.result c.from_residual-in_err-add.ensures.0 c.in_ok-fault.ensures.fault)

pub loop-at-preserved : goal.loop-at-preserved
loop-at-preserved g c =
    one_more _ _ (λ s fault. is_migrated s ≡ not (c.in_ok-origin.origin == 0)
    → fault ≡ sent_at s c.row-item.result.number) _ _ _ _ _ _ c.loop-at.at _ c.row-item.result c.in_ok-fault.fault c.loop-at-test.true
    (λ s rows is. c.in_ok-add.ensures.found
    ∙ ap (λ (f : Option Fault). c.loop-at.findings.items ++ finding_at Outbox c.row-item.result.number f) (is rows.0)
    ∙ ap (λ (r : OutRow). c.loop-at.findings.items ++ finding_at Outbox r.number (sent_at s r.number)) c.row-item.is)
    c.loop-at.invariant c.in_ok-fault.ensures.fault

pub returns-clause-found : goal.returns-clause-found
returns-clause-found g c =
    all _ _ (λ s count. (c.loop-at.findings.items ≡ c.args.findings.now.items ++ sent_findings s)
    × (count ≡ length s.outbox)) _ _ c.args.findings.now.items c.loop-at.findings.items c.loop-at.at _ c.len-all.result
    (omega (arith, c.loop-at.auto.at-end, c.loop-at-test.false))
    (λ s rows is. (
      is ∙ ap (λ (l : List OutRow). c.args.findings.now.items ++ flat_map (λ r. finding_at Outbox r.number (sent_at s r.number)) l) rows.1
          ∙ ap (λ (l : List Finding). c.args.findings.now.items ++ l)
          (flat_map-map (λ (r : OutRow). finding_at Outbox r.number (sent_at s r.number)) out_summary s.outbox),
      omega (arith, c.len-all.ensures, c.deref-row-items.ensures.len, ap (λ (l : List OutRow). length l) rows.1, length-map s.outbox out_summary),
    )) c.loop-at.invariant

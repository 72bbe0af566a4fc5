use Rattle.std.proofs.Common.{◌∙◌, ℕ, List, Option, option_map, ap, subst}
use Rattle.std.proofs.lemmas.Result.{IfOk-weaker}
use Rattle.as2_audit.specs.declared.findings.Mailbox.TheVariants.{Outbox}
use Rattle.as2_exchange.specs.declared.outbox.Evidence.{Evidence}
use Rattle.as2_evidence.specs.Evidence.{IsReceiptMoment, files_named}
use Rattle.as2_evidence.specs.Pages.{sent_page, stem}
use Rattle.as2_evidence.proofs.sent.sent_files.Goals as goal

pub returns : goal.returns
returns c =
    let d = c.args.document in
    let front = stem Outbox d.number in
    let body = option_map (λ (e : Evidence). e.body) d.evidence in
    let submitted = c.date_of-submitted.result in
    let came = c.in_ok-came.came.items in
    IfOk-weaker c.files_in.result _ _ (λ files is. record {
      submitted = submitted;
      came = came;
      on = c.date_of-submitted.ensures;
      then = subst (λ (e : Option Evidence). IsReceiptMoment e came) c.as_ref.ensures.value c.in_ok-came.ensures;
      are = is ∙ ap (λ (s : List ℕ). files_named s d.content c.body_of.result c.deref-3.result.now) (c.deref-2.ensures ∙ c.in_ok-stem.ensures)
          ∙ ap (λ (r : Option (List ℕ)). files_named front d.content r c.deref-3.result.now) c.body_of.ensures
          ∙ ap (λ (p : List ℕ). files_named front d.content body p)
          (c.deref-3.ensures.value ∙ c.in_ok-page.ensures ∙ ap (λ (t : List ℕ). sent_page c.args.migrated d submitted t) c.deref.ensures.value);
    }) c.files_in.ensures

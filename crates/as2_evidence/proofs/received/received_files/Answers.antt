use Rattle.std.proofs.Common.{◌∙◌, ℕ, List, Option, ap}
use Rattle.std.proofs.lemmas.Result.{IfOk-weaker}
use Rattle.as2_audit.specs.declared.findings.Mailbox.TheVariants.{Inbox}
use Rattle.as2_evidence.specs.Evidence.{files_named, own_receipt}
use Rattle.as2_evidence.specs.Pages.{stem}
use Rattle.as2_evidence.proofs.received.received_files.Goals as goal

pub returns : goal.returns
returns c =
    let content = c.args.entry.posted.content in
    let front = stem Inbox c.args.entry.number in
    let receipt = own_receipt c.args.agreements.now c.args.entry c.args.entry.receipt_stage in
    IfOk-weaker c.files_in.result _ _ (λ files is. record {
      came = c.date_of-came.result;
      on = c.date_of-came.ensures;
      are = is ∙ ap (λ (s : List ℕ). files_named s content c.in_ok-receipt.receipt c.deref-2.result.now) (c.deref.ensures ∙ c.in_ok-stem.ensures)
          ∙ ap (λ (r : Option (List ℕ)). files_named front content r c.deref-2.result.now) c.in_ok-receipt.ensures
          ∙ ap (λ (p : List ℕ). files_named front content receipt p) (c.deref-2.ensures.value ∙ c.in_ok-page.ensures);
    }) c.files_in.ensures

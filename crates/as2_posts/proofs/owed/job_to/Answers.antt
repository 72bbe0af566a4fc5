use Rattle.std.proofs.Common.{◌∙◌, ◌++◌, List, ℕ, length, codes, ap, ap₂}
use Rattle.as2_mdn.specs.Reports.{head_fields_of, receipt_text}
use Rattle.as2_exchange.specs.Jobs.{request_opening}
use Rattle.as2_exchange.specs.declared.answer.Job.{Job}
use Rattle.as2_posts.proofs.owed.job_to.Goals as goal

pub returns : goal.returns
returns c =
    let report = c.as_slice-report.ensures ∙ c.of-report.ensures ∙ c.in_ok-write_receipt.ensures.text ∙ ap receipt_text c.in_ok-out.ensures in
    let head = ap₂ head_fields_of c.in_ok-out.ensures (ap length report) in
    let opened = c.in_ok-add_opening.ensures ∙ ap (λ (l : List ℕ). l ++ request_opening c.args.url.now) c.in_ok-bytes.ensures.items in
    let headed = c.in_ok-write_head_fields.ensures.added ∙ ap₂ (λ (l h : List ℕ). l ++ h) opened head in
    let bytes = c.of.ensures ∙ c.in_ok-add_text-2.ensures
    ∙ ap₂ (λ (l r : List ℕ). l ++ r) (c.in_ok-add_text.ensures ∙ ap (λ (l : List ℕ). l ++ codes "\r\n") headed) report in
    record {
      job = ap₂ (λ (authority bytes : List ℕ). let job : Job = record { authority = authority; bytes = bytes } in job)
          (c.in_ok-keep.ensures ∙ c.authority.ensures) bytes;
    }

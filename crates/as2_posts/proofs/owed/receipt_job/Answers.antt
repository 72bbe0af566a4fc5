use Rattle.std.proofs.Common.{◌∙◌, sym, ap, subst}
use Rattle.as2_text.specs.Addresses.{IsAuthority}
use Rattle.as2_exchange.specs.Readings.{receipt_job}
use Rattle.as2_exchange.specs.Recording.{receipt_out}
use Rattle.as2_posts.proofs.Requests.{named_authority, same_receipt}
use Rattle.as2_posts.proofs.owed.receipt_job.Goals as goal

pub returns-clause-address : goal.returns-clause-address
returns-clause-address c =
    subst IsAuthority (sym (ap (λ job. job.authority) c.in_ok-job.ensures.job)) (named_authority _ _ _ c.in-Some.is c.parse.ensures.found)

pub returns-clause-job : goal.returns-clause-job
unfolding receipt_job
returns-clause-job c =
    let out = receipt_out c.args.agreements.now c.args.number c.args.posted.now in
    c.in_ok-job.ensures.job
    ∙ same_receipt out c.args.address.now c.in-Some.url (sym (rw c.as_slice.ensures.text at c.parse.ensures.exact) ∙ c.in-Some.is)

use Rattle.std.proofs.Common.{◌≡◌, ◌∙◌, None, Some, sym, ap, subst}
use Rattle.as2_text.specs.Addresses.{IsAuthority, IsUrl}
use Rattle.as2_posts.proofs.Requests.{named_authority, same_request}
use Rattle.as2_posts.proofs.sending.document_job.Goals as goal

pub returns-clause-job : goal.returns-clause-job
returns-clause-job c =
    c.in_ok-job.ensures.job ∙ same_request c.args.agreements.now c.args.partner.now c.args.entry.now.organization c.args.entry.now.id
    c.args.entry.now.content c.in-Some.url (sym (rw (c.as_bytes.ensures.value, c.as_str.ensures.text) at c.parse.ensures.exact) ∙ c.in-Some.is)

pub returns-clause-address : goal.returns-clause-address
returns-clause-address c =
    subst IsAuthority (sym (ap (λ job. job.authority) c.in_ok-job.ensures.job)) (named_authority _ _ _ c.in-Some.is c.parse.ensures.found)

-- the address of a partner is one, so it is read
pub unreachable-requires : goal.unreachable-requires
unreachable-requires c =
    let address = c.as_str.ensures.address in
    let read = c.parse.ensures.only address.0 (subst (λ text. IsUrl text address.0) (sym (c.as_bytes.ensures.value ∙ c.as_str.ensures.text)) address.1) in
    let both : None ≡ Some address.0 = sym c.in_default.is ∙ read in
    absurd cc

use Rattle.std.proofs.Common.{◌∙◌, IsTrue, is_some, sym, ap, subst}
use Rattle.as2_text.specs.Addresses.{url_of}
use Rattle.as2_text.specs.ReceiptRequests.{request_of}
use Rattle.as2_exchange.specs.declared.inbox.ReceiptDelivery.TheVariants.{Async}
use Rattle.as2_posts.proofs.Addressed.{asked_address}
use Rattle.as2_posts.proofs.documents.how_of.Goals as goal

pub keep-requires : goal.keep-requires
keep-requires c =
    let it = asked_address c.args.head.now (request_of c.args.ask.now) c.in-Async.field-0 c.requires c.in-Async.is in
    subst (λ text. IsTrue (is_some (url_of text))) (sym (c.delivery_address.ensures it.0)) it.1

pub returns-in_ok-keep-in-Async : goal.returns-in_ok-keep-in-Async
returns-in_ok-keep-in-Async c =
    let it = asked_address c.args.head.now (request_of c.args.ask.now) c.in-Async.field-0 c.requires c.in-Async.is in
    rw c.in-Async.is (ap Async (c.in_ok-keep-in-Async.ensures ∙ c.delivery_address.ensures it.0))

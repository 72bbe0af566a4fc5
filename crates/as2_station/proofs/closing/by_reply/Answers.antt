use Rattle.std.proofs.Common.{◌≡◌, ◌∙◌, None, true, option_map, option_and_then, sym, ap}
use Rattle.as2_exchange.specs.Documents.{if_for}
use Rattle.as2_exchange.specs.Receipts.{is_success, receipt_in}
use Rattle.as2_exchange.specs.State.{AllDigests}
use Rattle.as2_exchange.specs.declared.event.TryAnswer.TheVariants.{Reply}
use Rattle.as2_posts.specs.Openings.{receipt_as}
use Rattle.as2_station.specs.Closing.{settled_by}
use Rattle.as2_station.proofs.Closed.{closes_without, delivers}
use Rattle.as2_station.proofs.closing.by_reply.Goals as goal

pub returns-in_default : goal.returns-in_default
returns-in_default c =
    let success : is_success c.args.answered.now.status ≡ true = sym c.if-not-is_success.ensures in
    let none : receipt_in AllDigests c.args.answered.now.head.now c.args.body ≡ None = c.open_answer.ensures AllDigests c.args.body
    ∙ ap (option_and_then _) c.in_default.is in
    rw (c.without_receipt.ensures, success, none, success) (delivers c.args.partner.now c.args.terms.now.moment c.args.document.now)

pub returns-in-None : goal.returns-in-None
returns-in-None c =
    let d = c.args.document.now in
    let success : is_success c.args.answered.now.status ≡ true = sym c.if-not-is_success.ensures in
    let there : receipt_in AllDigests c.args.answered.now.head.now c.args.body ≡ receipt_as AllDigests c.in-Some.opened c.args.body =
    c.open_answer.ensures AllDigests c.args.body ∙ ap (option_and_then _) c.in-Some.is in
    let none : option_map (settled_by c.args.terms.now.moment d)
    (option_and_then (if_for d) (receipt_as AllDigests c.in-Some.opened c.args.body)) ≡ None = sym c.in_ok-end.ensures ∙ ap (option_map _) c.in-None.is in
    rw (c.without_receipt-in-None.ensures, success, there)
    (sym (closes_without c.args.partner.now c.args.terms.now.moment d
    (Reply c.args.answered.now.status c.args.answered.now.head.now c.args.body) _ none success))

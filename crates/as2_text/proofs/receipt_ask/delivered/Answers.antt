use Rattle.std.proofs.Common.{◌∙◌, ap, sym, ℕ, List, Option, Ok}
use Rattle.as2_text.specs.ReceiptOptions.{options_in}
use Rattle.as2_text.specs.ReceiptRequests.{Request, with_address}
use Rattle.as2_text.proofs.ReceiptRequests.{delivered_one}
use Rattle.as2_text.proofs.receipt_ask.delivered.Goals as goal

pub returns-in-Some : goal.returns-in-Some
returns-in-Some c vs t once =
    ap (λ (r : Request). Ok r) c.asked_by.ensures
    ∙ ap (λ (u : Option (List ℕ × List ℕ)). with_address u (options_in c.args.options.now)) (sym c.in-Some.is ∙ c.parse.ensures.exact)
    ∙ delivered_one c.args.delivery.now c.in-One.text vs (options_in c.args.options.now) c.in-One.is t

pub returns-in-None : goal.returns-in-None
returns-in-None c vs t once =
    ap (λ (u : Option (List ℕ × List ℕ)). with_address u (options_in c.args.options.now)) (sym c.in-None.is ∙ c.parse.ensures.exact)
    ∙ delivered_one c.args.delivery.now c.in-One.text vs (options_in c.args.options.now) c.in-One.is t

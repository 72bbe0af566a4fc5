use Rattle.std.proofs.Common.{◌∙◌, ap}
use Rattle.std.proofs.lemmas.Result.{IfOk-weaker}
use Rattle.as2_exchange.specs.Readings.{receipt_bytes}
use Rattle.as2_evidence.proofs.received.receipt_of.Goals as goal

pub returns : goal.returns
unfolding receipt_bytes
returns c = IfOk-weaker c.in_pieces.result _ _
    (λ bytes is. is ∙ c.deref.ensures.value ∙ c.in_ok-text.ensures.text ∙ ap receipt_bytes c.in_ok-out.ensures) c.in_pieces.ensures

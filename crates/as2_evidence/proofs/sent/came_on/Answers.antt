use Rattle.std.proofs.Common.{sym, subst}
use Rattle.std.proofs.lemmas.Result.{IfOk-weaker}
use Rattle.as2_messages.specs.Replies.{IsDateOf}
use Rattle.as2_evidence.proofs.sent.came_on.Goals as goal

pub returns : goal.returns
returns c = rw c.in-Some.is
    (IfOk-weaker c.from_slice.result _ _ (λ text same. subst (IsDateOf c.in-Some.evidence.now.moment) (sym same) c.date_of.ensures) c.from_slice.ensures.items)

use Rattle.std.proofs.Common.{◌∙◌, sym, subst}
use Rattle.sqlite.specs.Held.{Held, state}
use Rattle.as2_instance.specs.Tables.{LastsOver}
use Rattle.as2_instance.proofs.take.Goals as goal

pub returns-clause-lasts : goal.returns-clause-lasts
returns-clause-lasts g c =
    subst (λ (h : Held g.row.S.Denot). LastsOver (state g.S.Store h)) (sym (c.into_store.ensures ∙ c.into_records.ensures))
    (λ opened s rests. record { each = (c.step-answer.ensures.taken.lasts opened s rests).each })

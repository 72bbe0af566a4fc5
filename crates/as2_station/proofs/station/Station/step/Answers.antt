use Rattle.std.proofs.Common.{Ok, sym, subst}
use Rattle.as2_exchange.specs.declared.event.Event.{Event}
use Rattle.as2_exchange.specs.declared.answer.Answer.{Answer}
use Rattle.as2_exchange.specs.declared.answer.Answer.TheVariants.{Refused}
use Rattle.as2_station.specs.Said.{said_to_submit}
use Rattle.as2_station.specs.Steps.{RefusesSubmit}
use Rattle.as2_station.proofs.Playing.{refuses_event}
use Rattle.as2_station.proofs.station.Station.step.Goals as goal

pub returns-in_ok-submit-in-Submit-clause-submitted : goal.returns-in_ok-submit-in-Submit-clause-submitted
returns-in_ok-submit-in-Submit-clause-submitted g c =
    let x = c.in_ok-submit-in-Submit.field-0 in
    subst (λ (a : Answer). RefusesSubmit c.args.agreements.now c.args.event Refused c.args.self.now c.submit.new.self (Ok a)) (sym c.said_to_submit.ensures)
    (subst (λ (e : Event). RefusesSubmit c.args.agreements.now e Refused c.args.self.now c.submit.new.self (Ok (said_to_submit x))) (sym c.in-Submit.is)
    (refuses_event c.args.agreements.now _ c.args.self.now c.submit.new.self x c.in_ok-submit-in-Submit.ensures.refused))

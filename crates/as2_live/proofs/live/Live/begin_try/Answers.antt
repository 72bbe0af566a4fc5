use Rattle.std.proofs.Common.{◌∙◌, Result, Ok, refl, ap, subst}
use Rattle.as2_exchange.specs.Run.{Answered, Failed}
use Rattle.as2_exchange.specs.declared.answer.Answer.TheVariants.{Job as Handed, Refused}
use Rattle.as2_exchange.specs.declared.answer.Job.{Job}
use Rattle.as2_exchange.specs.declared.answer.Refusal.{Refusal}
use Rattle.as2_exchange.specs.declared.fault.StoreFault.{StoreFault}
use Rattle.as2_station.specs.Said.{begin_event, said_to_begin}
use Rattle.as2_station.specs.Steps.{TakesEvent}
use Rattle.as2_front.specs.declared.desk.StationDesk.{StationDesk}
use Rattle.as2_links.proofs.Standing.{as_many}
use Rattle.as2_live.proofs.Going.{began, lives_none, took}
use Rattle.as2_live.proofs.live.Live.begin_try.Goals as goal

pub returns-then-not-may_open : goal.returns-then-not-may_open
returns-then-not-may_open g c = record { begins = (lives_none g.K.Records.shows _ _ refl, refl, c.may_open.ensures.no cc); place = tt; fault = tt }

pub returns-in-Ok-Ok : goal.returns-in-Ok-Ok
returns-in-Ok-Ok g c =
    let old = c.args.self.now in
    let desk = c.begin.new.self in
    let A = old.desk.agreements.now in
    let e = begin_event c.args.what c.args.moment in
    let taken = subst (λ (r : Result (Result Job Refusal) StoreFault). TakesEvent A e said_to_begin (g.K.Records.shows old.desk.station)
    (g.K.Records.shows desk.station) r) (c.in-Ok-Ok.is ∙ ap Ok c.in-Ok-Ok.field-0-is) c.begin.ensures.taken in
    record {
      begins = (
        c.in-Ok-Ok.job,
        began g.K.Records.shows old (record old { desk = desk; links = c.open.new.self }) refl
            (ap (λ (d : StationDesk g.row.K.Denot). d.agreements.now) c.begin.ensures.same) taken.does.clean c.args.at c.args.what c.args.moment
            (Answered (Handed c.in-Ok-Ok.job)) (took A e said_to_begin _ _ _ taken)
            (as_many old.links c.open.new.self c.args.at c.open.ensures.only) c.open.ensures.stands,
      );
      place = c.may_open.ensures.yes cc;
      fault = tt;
    }

pub returns-in-Ok-Err : goal.returns-in-Ok-Err
returns-in-Ok-Err g c =
    let old = c.args.self.now in
    let desk = c.begin.new.self in
    let A = old.desk.agreements.now in
    let e = begin_event c.args.what c.args.moment in
    let taken = subst (λ (r : Result (Result Job Refusal) StoreFault). TakesEvent A e said_to_begin (g.K.Records.shows old.desk.station)
    (g.K.Records.shows desk.station) r) (c.in-Ok-Err.is ∙ ap Ok c.in-Ok-Err.field-0-is) c.begin.ensures.taken in
    record {
      begins = began g.K.Records.shows old (record old { desk = desk }) refl
          (ap (λ (d : StationDesk g.row.K.Denot). d.agreements.now) c.begin.ensures.same) taken.does.clean c.args.at c.args.what c.args.moment
          (Answered (Refused c.in-Ok-Err.reason)) (took A e said_to_begin _ _ _ taken) refl (λ h stand. stand);
      place = c.may_open.ensures.yes cc;
      fault = tt;
    }

pub returns-in-Err : goal.returns-in-Err
returns-in-Err g c =
    let old = c.args.self.now in
    let desk = c.begin.new.self in
    let A = old.desk.agreements.now in
    let e = begin_event c.args.what c.args.moment in
    let taken = subst (λ (r : Result (Result Job Refusal) StoreFault). TakesEvent A e said_to_begin (g.K.Records.shows old.desk.station)
    (g.K.Records.shows desk.station) r) c.in-Err.is c.begin.ensures.taken in
    record {
      begins = began g.K.Records.shows old (record old { desk = desk }) refl
          (ap (λ (d : StationDesk g.row.K.Denot). d.agreements.now) c.begin.ensures.same) taken.does.clean c.args.at c.args.what c.args.moment
          (Failed c.in-Err.fault) (took A e said_to_begin _ _ _ taken) refl (λ h stand. stand);
      place = c.may_open.ensures.yes cc;
      fault = taken.does.fault;
    }

use Rattle.std.proofs.Common.{◌++◌, ◌∙◌, Option, None, is_some, refl, sym, ap, subst}
use Rattle.as2_links.specs.Links.{LinksStand, ended_at}
use Rattle.as2_links.specs.declared.link.EndedLink.{EndedLink}
use Rattle.as2_station.specs.Said.{outcome_event, said_to_outcome}
use Rattle.as2_station.specs.Theorem.{said_as}
use Rattle.as2_front.specs.declared.desk.StationDesk.{StationDesk}
use Rattle.as2_links.proofs.Standing.{as_many_set}
use Rattle.as2_live.proofs.Going.{ended, took, unlinked}
use Rattle.as2_live.proofs.live.Live.end_try.Goals as goal

pub returns-in_default : goal.returns-in_default
returns-in_default g c = record {
  ends = (
    unlinked g.K.Records.shows c.args.self.now c.end.new.self
        (as_many_set c.args.self.now.links c.end.new.self c.args.at None c.end.ensures.empties) (λ h stand.
        subst (λ (o : Option EndedLink). LinksStand c.end.new.self (ended_at c.args.at o ++ h)) c.in_default.is (c.end.ensures.stands h stand)),
    refl,
    sym c.end.ensures.there ∙ ap is_some c.in_default.is,
  );
  fault = tt;
}

pub returns : goal.returns
returns g c =
    let old = c.args.self.now in
    let desk = c.close-said.new.self in
    let what = c.in-Some.field-0.what in
    let got = c.in-Some.field-0.got in
    record {
      ends = (
        got,
        c.why_of-why.ensures,
        ended g.K.Records.shows old (record old { desk = desk; links = c.end.new.self }) refl
            (ap (λ (d : StationDesk g.row.K.Denot). d.agreements.now) c.close-said.ensures.same) c.close-said.ensures.taken.does.clean c.args.at what got
            c.args.moment (said_as said_to_outcome c.close-said.result)
            (took old.desk.agreements.now (outcome_event what got c.args.moment) said_to_outcome _ _ c.close-said.result c.close-said.ensures.taken)
            (as_many_set old.links c.end.new.self c.args.at None c.end.ensures.empties)
            (λ h stand. subst (λ (o : Option EndedLink). LinksStand c.end.new.self (ended_at c.args.at o ++ h)) c.in-Some.is
            (c.end.ensures.stands h stand)),
      );
      fault = c.close-said.ensures.taken.does.fault;
    }

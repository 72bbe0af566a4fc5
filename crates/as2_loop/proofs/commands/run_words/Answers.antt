use Rattle.std.proofs.Common.{◌≡◌, ◌∙◌, Option, Some, sym, ap, subst}
use Rattle.clap.specs.Walk.{texts}
use Rattle.as2_bounded.specs.declared.bounded.Bounded.{Bounded}
use Rattle.as2_front.specs.declared.desk.StationDesk.{StationDesk}
use Rattle.as2_lent.specs.Lent.{LendsTo}
use Rattle.as2_loop.proofs.GoingOn.{goes_by_command}
use Rattle.as2_loop.proofs.commands.run_words.Goals as goal

pub returns : goal.returns
returns g c asked =
    let shows = g.R.Records.shows in
    let given = c.args.given in
    let old = c.args.live in
    let new = c.answering.result in
    let before : c.into_records-records.result ≡ old.desk.station.records
    = c.into_records-records.ensures ∙ ap (λ (b : Bounded g.row.R.Denot). b.records)
    (c.into_records.ensures ∙ (c.into_station.ensures ∙ ap (λ (d : StationDesk (Bounded g.row.R.Denot)). d.station) c.into_parts-hub.ensures.desk)) in
    let behind : new.desk.station.records ≡ c.in-Some.records
    = ap (λ (b : Bounded g.row.R.Denot). b.records) c.answering.ensures.records ∙ c.bounded-records.ensures in
    goes_by_command shows c.args.basis.now given asked old new (c.answering.ensures.hub ∙ c.into_parts-hub.ensures.hub)
    (c.answering.ensures.links ∙ c.into_parts-hub.ensures.links) c.answering.ensures.agreed
    (subst (λ (r : g.row.R.Denot). LendsTo shows (texts given.words.now) given.clock given.agreements_path.now given.agreements.now (Some r)
    (Some new.desk.station.records)) before
    (subst (λ (r : Option g.row.R.Denot). LendsTo shows (texts given.words.now) given.clock given.agreements_path.now given.agreements.now
    (Some c.into_records-records.result) r) (c.in-Some.is ∙ ap Some (sym behind)) c.run_forwarded-outcome.ensures.lends))

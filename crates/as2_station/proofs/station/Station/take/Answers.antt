use Rattle.std.proofs.Common.{subst}
use Rattle.as2_exchange.specs.State.{AllDigests}
use Rattle.as2_station.specs.Steps.{TakesPost, always}
use Rattle.as2_posts.specs.Openings.{reading_by}
use Rattle.as2_station.proofs.station.Station.take.Goals as goal

pub returns-then-is_report-clause-taken : goal.returns-then-is_report-clause-taken
returns-then-is_report-clause-taken g c =
    subst (λ h. TakesPost g.R.Records.shows c.args.terms.now.agreements.now c.args.terms.now.moment
    (reading_by AllDigests c.args.opened c.args.head.now c.args.body) always h c.receive.new.records c.receive.result) c.self.view_is
    (rw (← c.if-is_report.ensures) (c.receive.ensures.taken c.args.terms.now.agreements.now))

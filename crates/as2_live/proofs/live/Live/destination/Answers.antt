use Rattle.std.proofs.Common.{refl, ap}
use Rattle.as2_front.specs.declared.desk.StationDesk.{StationDesk}
use Rattle.as2_live.proofs.Going.{looked}
use Rattle.as2_live.proofs.live.Live.destination.Goals as goal

pub returns-clause-lives : goal.returns-clause-lives
returns-clause-lives g c =
    let old = c.args.self.now in
    looked g.K.Records.shows old (record old { desk = c.destination.new.self }) refl
    (ap (λ (d : StationDesk g.row.K.Denot). d.agreements.now) c.destination.ensures.same) c.destination.ensures.destination.clean
    c.destination.ensures.destination.same refl

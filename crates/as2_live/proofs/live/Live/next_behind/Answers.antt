use Rattle.std.proofs.Common.{refl, ap}
use Rattle.as2_front.specs.declared.desk.StationDesk.{StationDesk}
use Rattle.as2_live.proofs.Going.{looked}
use Rattle.as2_live.proofs.live.Live.next_behind.Goals as goal

pub returns-clause-lives : goal.returns-clause-lives
returns-clause-lives g c =
    let old = c.args.self.now in
    looked g.K.Records.shows old (record old { desk = c.next_behind.new.self }) refl
    (ap (λ (d : StationDesk g.row.K.Denot). d.agreements.now) c.next_behind.ensures.same) c.next_behind.ensures.next.clean
    c.next_behind.ensures.next.same refl

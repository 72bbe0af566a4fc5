use Rattle.std.proofs.Common.{refl}
use Rattle.as2_live.proofs.Steps.{opened}
use Rattle.as2_live.proofs.live.Live.open.Goals as goal

pub returns-clause-lives : goal.returns-clause-lives
returns-clause-lives g c =
    opened g.K.Records.shows c.args.self.now (record { hub = c.open.new.self; desk = c.args.self.now.desk; links = c.args.self.now.links }) refl
    refl c.args.at c.open.result c.open.ensures.stands c.open.ensures.bounded
    c.open.ensures.refused

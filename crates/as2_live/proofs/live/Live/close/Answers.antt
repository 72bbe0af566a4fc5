use Rattle.std.proofs.Common.{refl}
use Rattle.as2_live.proofs.Steps.{closed}
use Rattle.as2_live.proofs.live.Live.close.Goals as goal

pub returns-clause-lives : goal.returns-clause-lives
returns-clause-lives g c =
    closed g.K.Records.shows c.args.self.now (record { hub = c.close.new.self; desk = c.args.self.now.desk; links = c.args.self.now.links }) refl
    refl c.args.at c.close.ensures.stands
    c.close.ensures.bounded

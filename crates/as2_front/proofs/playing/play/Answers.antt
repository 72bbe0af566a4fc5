use Rattle.std.proofs.Common.{take}
use Rattle.as2_hub.specs.Rounds.{scene}
use Rattle.as2_front.proofs.Leading.{serves_many}
use Rattle.as2_front.proofs.playing.play.Goals as goal

pub returns-clause-serves : goal.returns-clause-serves
returns-clause-serves g c =
    serves_many g.K.Records.shows (take c.play.result c.args.inputs.now) (scene c.args.desk.now c.args.hub.now) (scene c.play.new.desk c.play.new.self)
    c.play.ensures.promised

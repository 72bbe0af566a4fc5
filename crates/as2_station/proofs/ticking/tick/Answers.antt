use Rattle.as2_station.proofs.Ticked.{ticked}
use Rattle.as2_station.proofs.ticking.tick.Goals as goal

pub returns : goal.returns
returns g c = record { taken = ticked c.args.moment _ _ c.expire.result c.expire.ensures.passed c.expire.ensures.fault c.expire.ensures.counted }

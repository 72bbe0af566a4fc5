use Rattle.as2_station.proofs.NextDue.{is_least}
use Rattle.as2_station.proofs.station.Station.next.Goals as goal

pub returns-clause-least : goal.returns-clause-least
returns-clause-least g c = is_least c.args.moment _ _ _ c.next_receipt.ensures.next

use Rattle.sqlite.specs.Files.{over_files}
use Rattle.as2_station.specs.Traces.{trace}
use Rattle.as2_restart.proofs.Opening.{of_both}
use Rattle.as2_restart.proofs.Stopping.{leaves}
use Rattle.as2_restart.proofs.playing.play_then_stop.Goals as goal

pub returns-clause-played : goal.returns-clause-played
returns-clause-played g c = (c.play.new.self, c.in_ok-said.ensures.each)

pub returns-clause-comes : goal.returns-clause-comes
returns-clause-comes g c =
    let agreed = c.args.agreements.now in
    let told = trace c.args.events.items c.in_ok-said.said.items in
    of_both (λ again was found clean s held. found clean agreed told s
    (leaves over_files agreed c.args.events.items c.in_ok-said.said.items c.args.station c.play.new.self c.in_ok-said.ensures.each (was clean) s held))
    c.stop_and_open-again.result c.stop_and_open-again.ensures.clean c.stop_and_open-again.ensures.found

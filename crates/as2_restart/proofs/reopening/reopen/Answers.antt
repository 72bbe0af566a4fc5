use Rattle.as2_restart.proofs.Opening.{of_both}
use Rattle.as2_restart.proofs.reopening.reopen.Goals as goal

pub returns-in-Ok : goal.returns-in-Ok
returns-in-Ok g c = record {
  same = of_both (λ again was found clean s rests. found clean s (c.in-Ok.ensures.closed (was clean) s rests).seen.both)
      c.station_over.result c.station_over.ensures.clean c.station_over.ensures.found;
}

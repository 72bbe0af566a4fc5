use Rattle.std.proofs.Math.Logic.{∥∥₁_map}
use Rattle.std.proofs.lemmas.Bool.{and_parts, and_from}
use Rattle.as2_restart.proofs.Opening.{of_both}
use Rattle.as2_restart.proofs.reopening.stop_and_open.Goals as goal

pub returns-clause-clean : goal.returns-clause-clean
returns-clause-clean g c = of_both (λ again was found clean.
    let both = and_parts _ _ (was clean) in
    c.leave-files.ensures.clean (and_from _ _ (c.crash.ensures.clean both.0) (c.crash-2.ensures.clean both.1)))
    c.station_over.result c.station_over.ensures.clean c.station_over.ensures.found

pub returns-clause-found : goal.returns-clause-found
returns-clause-found g c = of_both (λ again was found clean A told s may.
    let both = and_parts _ _ (was clean) in
    let honest = and_from _ _ (c.crash.ensures.clean both.0) (c.crash-2.ensures.clean both.1) in
    ∥∥₁_map (c.leave-files.ensures.left honest A told s may _ (c.crash.ensures.left, c.crash-2.ensures.left)) (λ k. (k.0, k.1, found clean k.0 k.2)))
    c.station_over.result c.station_over.ensures.clean c.station_over.ensures.found

use Rattle.std.proofs.Common.{◌∙◌, sym, subst}
use Rattle.sqlite.specs.State.{HasCleanDisk}
use Rattle.sqlite.specs.Files.{file_state, image_of}
use Rattle.as2_restart.specs.Restarts.{IsHeld}
use Rattle.as2_storage.proofs.Opening.{rests_held}
use Rattle.as2_restart.proofs.Opening.{holds}
use Rattle.as2_restart.proofs.reopening.station_over.Goals as goal

pub returns-in-Ok-adopt-clause-clean : goal.returns-in-Ok-adopt-clause-clean
returns-in-Ok-adopt-clause-clean g c clean =
    let at : HasCleanDisk (file_state c.in-Ok-adopt.store) = subst (λ h. HasCleanDisk (file_state h)) (c.new-in-Ok-adopt.ensures ∙ c.new.ensures) clean in
    (c.in-Ok.ensures.found (c.in-Ok-adopt.ensures.adopted.clean at)).honest

pub returns-in-Ok-adopt-clause-found : goal.returns-in-Ok-adopt-clause-found
returns-in-Ok-adopt-clause-found g c clean s held =
    let at : HasCleanDisk (file_state c.in-Ok-adopt.store) = subst (λ h. HasCleanDisk (file_state h)) (c.new-in-Ok-adopt.ensures ∙ c.new.ensures) clean in
    let adopted = c.in-Ok-adopt.ensures.adopted in
    let was = adopted.clean at in
    let again = c.in-Ok.again in
    let opened = c.in-Ok.ensures.opened was in
    let rests = rests_held (file_state again) (image_of g.D.Disk c.args.files) s opened.0 opened.1 (c.in-Ok.ensures.found was).holds held in
    subst (λ h. IsHeld (file_state h) s) (sym (c.new-in-Ok-adopt.ensures ∙ c.new.ensures)) (holds (file_state c.in-Ok-adopt.store) s (adopted.done at s rests))

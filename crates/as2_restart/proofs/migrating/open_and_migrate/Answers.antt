use Rattle.std.proofs.Common.{◌∙◌, sym, subst}
use Rattle.sqlite.specs.State.{HasCleanDisk}
use Rattle.sqlite.specs.Files.{file_state, image_of}
use Rattle.as2_storage.proofs.Opening.{rests_held_as}
use Rattle.as2_restart.specs.Migrations.{migration_trace}
use Rattle.as2_restart.specs.Restarts.{LeadsToHeld}
use Rattle.as2_restart.proofs.Migrations.{leads}
use Rattle.as2_restart.proofs.migrating.open_and_migrate.Goals as goal

pub returns-in-Ok-migrate-clause-clean : goal.returns-in-Ok-migrate-clause-clean
returns-in-Ok-migrate-clause-clean g c clean =
    let at : HasCleanDisk (file_state c.in-Ok-migrate.store) = subst (λ h. HasCleanDisk (file_state h)) (c.new-in-Ok-migrate.ensures ∙ c.new.ensures) clean in
    (c.in-Ok.ensures.found (c.in-Ok-migrate.ensures.migrated.clean at)).honest

pub returns-in-Ok-migrate-clause-migrated : goal.returns-in-Ok-migrate-clause-migrated
returns-in-Ok-migrate-clause-migrated g c clean A layout s held =
    let at : HasCleanDisk (file_state c.in-Ok-migrate.store) = subst (λ h. HasCleanDisk (file_state h)) (c.new-in-Ok-migrate.ensures ∙ c.new.ensures) clean in
    let migrated = c.in-Ok-migrate.ensures.migrated in
    let was = migrated.clean at in
    let earlier = c.in-Ok.conn in
    let opened = c.in-Ok.ensures.opened was in
    let rests = rests_held_as layout (file_state earlier) (image_of g.D.Disk c.args.files) s opened.0 opened.1 (c.in-Ok.ensures.found was).holds held in
    subst (λ h. LeadsToHeld A (migration_trace layout s) s (file_state h)) (sym (c.new-in-Ok-migrate.ensures ∙ c.new.ensures))
    (leads A layout (file_state earlier) (file_state c.in-Ok-migrate.store) s opened.0.is_open rests (migrated.done at layout s rests))

use Rattle.std.proofs.Common.{◌≡◌, true, false, sym, subst}
use Rattle.sqlite.specs.Files.{file_state}
use Rattle.as2_restart.specs.Migrations.{TriesMigration}
use Rattle.as2_restart.proofs.migrating.try_migration.Goals as goal

pub returns-in-Ok : goal.returns-in-Ok
returns-in-Ok g c =
    let it = c.in-Ok.ensures.migrated in
    subst (λ h. TriesMigration true (file_state c.args.earlier) (file_state h)) (sym c.into_connection.ensures)
    (record { clean = it.clean; done = λ _. it.done; crash = it.crash })

pub returns-in-Err : goal.returns-in-Err
returns-in-Err g c =
    let it = c.in-Err.ensures.given_back in
    record { clean = it.clean; done = λ told. absurd (let two : true ≡ false = sym told in cc); crash = it.crash }

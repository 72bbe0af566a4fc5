use Rattle.std.proofs.Common.{◌∙◌, Bool, ap, sym, subst}
use Rattle.sqlite.specs.Held.{Held}
use Rattle.sqlite_store.specs.declared.store.FileStore.{FileStore}
use Rattle.sqlite.specs.Files.{file_state}
use Rattle.as2_store.specs.Migrating.{Migrates}
use Rattle.as2_files.proofs.Earlier.{back_as, back_to, reaches_moved}
use Rattle.as2_host.specs.Migrating.{migrated_if_first}
use Rattle.as2_files.proofs.migrating.migrate_in_files.Goals as goal

-- what was found, counted, migrated and counted again was closed
pub returns-clause-moved : goal.returns-clause-moved
returns-clause-moved g c = λ honest s held.
    let layout = held.0 in
    let opened = file_state c.in-Ok.conn in
    let asked = file_state c.counted-before.new.conn in
    let made = file_state c.into_connection-conn.result in
    let last = file_state c.counted-after.new.conn in
    let migrates : Migrates asked made = subst (λ h. Migrates asked (file_state h)) (sym c.into_connection-conn.ensures) c.in-Ok-migrate.ensures.migrated in
    let clean_last = c.closed.ensures.clean honest in
    let clean_made = c.counted-after.ensures.given_back.clean clean_last in
    let clean_asked = migrates.clean clean_made in
    let clean_opened = c.counted-before.ensures.given_back.clean clean_asked in
    let rests = c.in-Ok.ensures.any_version clean_opened layout s held.2 in
    let again = back_as layout opened asked s c.counted-before.ensures.given_back clean_asked rests in
    let next = reaches_moved layout (g.F.OpenFiles.image c.args.name.now) made s held.1 held.2 (migrates.done clean_made layout s again) in
    c.closed.ensures.kept honest (migrated_if_first s) (back_to made last (migrated_if_first s) c.counted-after.ensures.given_back clean_last next)

-- a store that was migrated has no transaction open
pub counted-after-requires : goal.counted-after-requires
counted-after-requires g c = record {
  autocommit = ap (λ (h : Held (FileStore g.row.F-Disk.Denot g.F.Disk.Disk)). h.in_transaction) c.into_connection-conn.ensures ∙ c.in-Ok-migrate.ensures.alone;
}

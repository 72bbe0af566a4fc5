use Rattle.std.proofs.Common.{◌∙◌, sym, subst, arith}
use Rattle.std.proofs.Math.Logic.{∥∥₁_map}
use Rattle.std.proofs.lemmas.Bool.{and_parts, and_from}
use Rattle.sqlite_wal.specs.Reads.{AreClean}
use Rattle.sqlite_trees.specs.View.{IsClean}
use Rattle.sqlite_trees.proofs.Doubt.{no_doubt}
use Rattle.sqlite_pool.proofs.StateLemmas.{clean_is}
use Rattle.sqlite_store.specs.FileStore.{view}
use Rattle.sqlite_store.specs.Laws.{settled_at}
use Rattle.sqlite.specs.State.{HasCleanDisk}
use Rattle.sqlite.specs.Files.{file_state}
use Rattle.as2_restart.proofs.Migrations.{either}
use Rattle.as2_restart.proofs.Opening.{found_after}
use Rattle.as2_restart.proofs.migrating.migrate_then_stop.Goals as goal

pub returns-clause-clean : goal.returns-clause-clean
returns-clause-clean g c clean =
    let both = and_parts _ _ clean in
    let honest = and_from _ _ (c.crash.ensures.clean both.0) (c.crash-2.ensures.clean both.1) in
    let last = c.into_store.result in
    let none : IsClean (view last) = no_doubt _ (clean_is last.pool ∙ subst (λ p. AreClean g.D.Disk p.0 p.1) c.close-files.ensures honest) in
    let was : HasCleanDisk (file_state c.try_migration-is_answered.result.1) = omega (arith, c.into_store.ensures.quiet.clean) in
    c.try_migration-is_answered.ensures.clean was

pub returns-clause-left : goal.returns-clause-left
returns-clause-left g c clean opened A layout s rests =
    let both = and_parts _ _ clean in
    let honest = and_from _ _ (c.crash.ensures.clean both.0) (c.crash-2.ensures.clean both.1) in
    let last = c.into_store.result in
    let none : IsClean (view last) = no_doubt _ (clean_is last.pool ∙ subst (λ p. AreClean g.D.Disk p.0 p.1) c.close-files.ensures honest) in
    let tried = c.try_migration-is_answered.result in
    let was : HasCleanDisk (file_state tried.1) = omega (arith, c.into_store.ensures.quiet.clean) in
    ∥∥₁_map
    (found_after last c.close-files.result.log c.close-files.result.db (sym c.close-files.ensures) honest (c.into_store.ensures.numbered none)
    (c.into_store.ensures.sound none) _ (c.crash.ensures.left, c.crash-2.ensures.left))
    (λ m. either A tried.0 layout (file_state c.args.earlier) (file_state tried.1) s c.try_migration-is_answered.ensures was opened
    (λ db may. settled_at c.args.earlier.store g.met.D.Disk.seen_may_stay db opened may) rests _ m.0 m.2
    (c.into_store.ensures.quiet.outcomes m.0 m.1))

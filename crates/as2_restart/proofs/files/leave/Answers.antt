use Rattle.std.proofs.Common.{◌∙◌, IsTrue, sym, subst, arith}
use Rattle.std.proofs.Math.Logic.{∥∥₁_map}
use Rattle.sqlite_wal.specs.Reads.{AreClean}
use Rattle.sqlite_trees.specs.View.{IsClean}
use Rattle.sqlite_trees.proofs.Doubt.{no_doubt}
use Rattle.sqlite_pool.proofs.StateLemmas.{clean_is}
use Rattle.sqlite_store.specs.FileStore.{view}
use Rattle.sqlite.specs.State.{HasCleanDisk}
use Rattle.sqlite.specs.Files.{file_state}
use Rattle.sqlite_store.specs.Laws.{settled_at}
use Rattle.sqlite_trees.specs.Tree.{Trees}
use Rattle.as2_store.specs.Calls.{Keeps}
use Rattle.as2_store.specs.Stands.{Rests}
use Rattle.as2_restart.specs.Restarts.{LeadsToFound}
use Rattle.as2_storage.proofs.Opening.{kept}
use Rattle.as2_restart.proofs.Opening.{found_after}
use Rattle.as2_restart.proofs.files.leave.Goals as goal

pub returns-clause-clean : goal.returns-clause-clean
returns-clause-clean g c honest =
    let last = c.into_store.result in
    let none : IsClean (view last) = no_doubt _ (clean_is last.pool ∙ subst (λ p. AreClean g.D.Disk p.0 p.1) c.close.ensures honest) in
    let was : HasCleanDisk (file_state c.into_connection.result) = omega (arith, c.into_store.ensures.quiet.clean) in
    rw (c.into_connection.ensures, c.into_records.ensures) at was

pub returns-clause-left : goal.returns-clause-left
returns-clause-left g c honest A told s may image at =
    let last = c.into_store.result in
    let none : IsClean (view last) = no_doubt _ (clean_is last.pool ∙ subst (λ p. AreClean g.D.Disk p.0 p.1) c.close.ensures honest) in
    let left : LeadsToFound A told s (file_state c.into_connection.result) = rw (c.into_connection.ensures, c.into_records.ensures) may in
    ∥∥₁_map (found_after last c.close.result.log c.close.result.db (sym c.close.ensures) honest (c.into_store.ensures.numbered none)
    (c.into_store.ensures.sound none) image at)
    (λ m. let it = left m.0 (c.into_store.ensures.quiet.outcomes m.0 m.1) in (it.0, it.1, (m.0, ∣ m.2 ∣₁, it.2)))

pub returns-clause-kept : goal.returns-clause-kept
returns-clause-kept g c honest s r opened image at =
    let last = c.into_store.result in
    let conn = c.into_connection.result in
    let none : IsClean (view last) = no_doubt _ (clean_is last.pool ∙ subst (λ p. AreClean g.D.Disk p.0 p.1) c.close.ensures honest) in
    let rests : Rests (file_state conn) s = rw (c.into_connection.ensures, c.into_records.ensures) r in
    let is_open : IsTrue (file_state conn).is_open = rw (c.into_connection.ensures, c.into_records.ensures) opened in
    let keeps = kept (file_state conn) s is_open rests in
    ∥∥₁_map (found_after last c.close.result.log c.close.result.db (sym c.close.ensures) honest (c.into_store.ensures.numbered none)
    (c.into_store.ensures.sound none) image at)
    (λ m. (
      m.0,
      ∣ m.2 ∣₁,
      subst (λ (t : Trees). Keeps t s)
          (sym (settled_at conn.store g.met.D.Disk.seen_may_stay m.0 is_open (c.into_store.ensures.quiet.outcomes m.0 m.1))) keeps,
    ))

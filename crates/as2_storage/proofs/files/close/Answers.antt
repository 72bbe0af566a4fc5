use Rattle.std.proofs.Common.{◌∙◌, sym, subst, arith}
use Rattle.sqlite_wal.specs.Reads.{AreClean}
use Rattle.sqlite_trees.specs.View.{IsClean}
use Rattle.sqlite_trees.proofs.Doubt.{no_doubt}
use Rattle.sqlite_pool.proofs.StateLemmas.{clean_is}
use Rattle.sqlite_store.specs.FileStore.{view}
use Rattle.as2_storage.proofs.Opening.{closed}
use Rattle.as2_storage.proofs.files.close.Goals as goal

pub returns-in-Ok-clause-closed : goal.returns-in-Ok-clause-closed
returns-in-Ok-clause-closed g c honest s rests = closed c.args.conn c.in-Ok.files s (c.in-Ok.ensures.copied honest) rests

pub returns-in-Ok-clause-shield : goal.returns-in-Ok-clause-shield
returns-in-Ok-clause-shield g c shielded = let it = c.in-Ok.ensures.ok in (it.0, it.1, it.2.quiet.shield shielded)

pub returns-in-Ok-clause-clean : goal.returns-in-Ok-clause-clean
returns-in-Ok-clause-clean g c honest = (c.in-Ok.ensures.copied honest).was_clean

pub returns-in-Err-clause-left : goal.returns-in-Err-clause-left
returns-in-Err-clause-left g c = (c.in-Err.store, sym c.close.ensures, c.in-Err.ensures.err.0)

pub returns-in-Err-clause-unclosed : goal.returns-in-Err-clause-unclosed
returns-in-Err-clause-unclosed g c honest =
    let last = c.in-Err.store in
    let none : IsClean (view last) = no_doubt _ (clean_is last.pool ∙ subst (λ p. AreClean g.D.Disk p.0 p.1) c.close.ensures honest) in
    let quiet = c.in-Err.ensures.err.0.quiet.clean in
    omega (arith, quiet, none)

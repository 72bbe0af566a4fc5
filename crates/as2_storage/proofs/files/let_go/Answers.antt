use Rattle.std.proofs.Common.{◌∙◌, sym, subst, arith}
use Rattle.sqlite_wal.specs.Reads.{AreClean}
use Rattle.sqlite_trees.specs.View.{IsClean}
use Rattle.sqlite_trees.proofs.Doubt.{no_doubt}
use Rattle.sqlite_pool.proofs.StateLemmas.{clean_is}
use Rattle.sqlite_store.specs.FileStore.{view}
use Rattle.as2_storage.proofs.files.let_go.Goals as goal

pub returns-clause-left : goal.returns-clause-left
returns-clause-left g c =
    (c.into_store.result, sym c.close.ensures, record { quiet = c.into_store.ensures.quiet; sound = c.into_store.ensures.sound })

pub returns-clause-unclosed : goal.returns-clause-unclosed
returns-clause-unclosed g c honest =
    let last = c.into_store.result in
    let none : IsClean (view last) = no_doubt _ (clean_is last.pool ∙ subst (λ p. AreClean g.D.Disk p.0 p.1) c.close.ensures honest) in
    omega (arith, c.into_store.ensures.quiet.clean, none)

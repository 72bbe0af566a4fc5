use Rattle.std.proofs.Common.{◌∙◌, ap}
use Rattle.sqlite.specs.Held.{state}
use Rattle.as2_exchange.specs.Due.{least}
use Rattle.as2_records.specs.Due.{numbers_behind}
use Rattle.as2_store.proofs.DueEntries.{due_are_documents}
use Rattle.as2_store.proofs.ReadsBy.{read_of, reads_less}
use Rattle.as2_store.proofs.store.Store.due_out.Goals as goal

pub returns-clause-due : goal.returns-clause-due
returns-clause-due g c =
    read_of _ _ _ _ _ (ap (state g.S.Store) c.self.view_is)
    (reads_less _ _ _ _ _ (λ s number r is. is
    ∙ ap (λ ks. least (numbers_behind c.args.behind ks)) (due_are_documents c.args.moment s)) c.least_due.ensures.due)

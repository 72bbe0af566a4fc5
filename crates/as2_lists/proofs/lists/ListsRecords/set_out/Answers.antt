use Rattle.std.proofs.Common.{◌≡◌, ◌==◌, List, true, find, is_some, ap, sym, ◌∙◌}
use Rattle.as2_exchange.specs.declared.outbox.OutEntry.{OutEntry}
use Rattle.as2_records.specs.Progressing.{set_out_in}
use Rattle.as2_lists.proofs.Writing.{writes_from, takes_set}
use Rattle.as2_lists.proofs.lists.ListsRecords.set_out.Goals as goal

pub returns-clause-set : goal.returns-clause-set
returns-clause-set c =
    let n = c.args.number in
    let has = λ (l : List OutEntry). is_some (find (λ d. d.number == n) l) in
    let there : has c.self.inside.outbox.items ≡ true = ap has (sym c.deref.ensures.value) ∙ sym c.has_document.ensures ∙ c.if-not-has_document.false in
    writes_from (set_out_in n c.args.progress) c.args.self.now _ _ _ c.self.view_is
    (takes_set _ n c.args.progress c.set_numbered.new.documents.items there c.set_numbered.ensures)

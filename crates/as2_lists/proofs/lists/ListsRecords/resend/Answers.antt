use Rattle.std.proofs.Common.{◌≡◌, ◌==◌, List, true, find, is_some, ap, sym, ◌∙◌}
use Rattle.as2_exchange.specs.declared.outbox.OutEntry.{OutEntry}
use Rattle.as2_records.specs.Resending.{resent_in}
use Rattle.as2_lists.proofs.Writing.{writes_from, takes_queued}
use Rattle.as2_lists.proofs.lists.ListsRecords.resend.Goals as goal

pub returns-clause-resent : goal.returns-clause-resent
returns-clause-resent c =
    let n = c.args.number in
    let has = λ (l : List OutEntry). is_some (find (λ d. d.number == n) l) in
    let there : has c.self.inside.outbox.items ≡ true = ap has (sym c.deref.ensures.value) ∙ sym c.has_document.ensures ∙ c.if-not-has_document.false in
    writes_from (resent_in n c.args.moment) c.args.self.now _ _ _ c.self.view_is
    (takes_queued _ n c.args.moment c.queue_numbered.new.documents.items there c.queue_numbered.ensures)

use Rattle.std.proofs.Common.{◌≡◌, ◌==◌, true, not, if◌then◌else◌, List, find, map, ap, sym, ◌∙◌}
use Rattle.std.specs.Option.{option_map_or}
use Rattle.as2_exchange.specs.Documents.{settled_as}
use Rattle.as2_exchange.specs.State.{is_settled}
use Rattle.as2_exchange.specs.declared.outbox.Evidence.{Evidence}
use Rattle.as2_exchange.specs.declared.outbox.OutEntry.{OutEntry}
use Rattle.as2_records.specs.Settling.{settled_in}
use Rattle.as2_lists.proofs.Writing.{writes_from, takes_settled}
use Rattle.as2_lists.proofs.lists.ListsRecords.settle.Goals as goal

pub returns-clause-settled : goal.returns-clause-settled
returns-clause-settled c =
    let n = c.args.number in
    let ds = c.self.inside.outbox.items in
    let is_open = λ (l : List OutEntry). not (option_map_or is_settled (find (λ d. d.number == n) l) true) in
    let settled_by = λ (e : Evidence). map (λ (d : OutEntry). if d.number == n then settled_as c.args.detail e d else d) ds in
    let still : is_open ds ≡ true = ap is_open (sym c.deref.ensures.value) ∙ sym c.is_unsettled.ensures ∙ c.if-not-is_unsettled.false in
    writes_from (settled_in n c.args.detail c.args.evidence.now) c.args.self.now _ _ _ c.self.view_is (λ counted.
    takes_settled _ n c.args.detail c.args.evidence.now c.settle_numbered.new.documents.items still (sym c.is_by_receipt.ensures ∙ c.if-not-is_by_receipt.false)
    (c.settle_numbered.ensures counted.documents.1.distinct ∙ ap settled_by c.in_ok-evidence.ensures) counted)

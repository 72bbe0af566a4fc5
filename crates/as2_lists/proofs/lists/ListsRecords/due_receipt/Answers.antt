use Rattle.std.proofs.Common.{◌≡◌, ◌∙◌, ◌&&◌, List, ap, option_map}
use Rattle.std.specs.List.{find}
use Rattle.as2_exchange.specs.State.{State}
use Rattle.as2_exchange.specs.Due.{due_receipts, is_due_receipt, least}
use Rattle.as2_exchange.specs.declared.inbox.InEntry.{InEntry}
use Rattle.as2_records.specs.Due.{is_behind, numbers_behind}
use Rattle.as2_lists.proofs.Calls.{reads_ok}
use Rattle.as2_lists.proofs.Leasts.{least_due_receipt}
use Rattle.as2_lists.proofs.lists.ListsRecords.due_receipt.Goals as goal

pub returns-clause-due : goal.returns-clause-due
returns-clause-due c =
    let m = c.args.moment in
    let b = c.args.behind in
    let first = λ (l : List InEntry). option_map (λ (e : InEntry). e.number) (find (λ (e : InEntry). is_due_receipt m e && is_behind b e.number) l) in
    let here = c.deref.ensures.value ∙ ap (λ (s : State). s.inbox) c.self.view_is in
    reads_ok (λ (s : State) number. number ≡ least (numbers_behind b (due_receipts s m))) c.args.self.now c.first_due.result
    (λ counted. c.first_due.ensures ∙ ap first here ∙ least_due_receipt c.args.self.now m b counted)

use Rattle.std.proofs.Common.{◌≡◌, ◌∙◌, ◌&&◌, List, ap, option_map}
use Rattle.std.specs.List.{find}
use Rattle.as2_exchange.specs.State.{State}
use Rattle.as2_exchange.specs.Due.{due_documents, is_due_document, least}
use Rattle.as2_exchange.specs.declared.outbox.OutEntry.{OutEntry}
use Rattle.as2_records.specs.Due.{is_behind, numbers_behind}
use Rattle.as2_lists.proofs.Calls.{reads_ok}
use Rattle.as2_lists.proofs.Leasts.{due_document}
use Rattle.as2_lists.proofs.lists.ListsRecords.due_out.Goals as goal

pub returns-clause-due : goal.returns-clause-due
returns-clause-due c =
    let m = c.args.moment in
    let b = c.args.behind in
    let first = λ (l : List OutEntry). option_map (λ (d : OutEntry). d.number) (find (λ (d : OutEntry). is_due_document m d && is_behind b d.number) l) in
    let here = c.deref.ensures.value ∙ ap (λ (s : State). s.outbox) c.self.view_is in
    reads_ok (λ (s : State) number. number ≡ least (numbers_behind b (due_documents s m))) c.args.self.now c.first_due.result
    (λ counted. c.first_due.ensures ∙ ap first here ∙ due_document c.args.self.now m b counted)

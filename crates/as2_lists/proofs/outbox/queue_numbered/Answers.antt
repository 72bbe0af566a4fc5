use Rattle.std.proofs.Common.{◌<◌, length, ◌∙◌, sym, ap, arith}
use Rattle.as2_exchange.specs.declared.outbox.OutEntry.{OutEntry}
use Rattle.as2_records.specs.Resending.{queued_anew}
use Rattle.as2_lists.proofs.Changed.{one_changed, one_left}
use Rattle.as2_lists.proofs.outbox.queue_numbered.Goals.{then-document-number, else-document-number}
use Rattle.as2_lists.proofs.outbox.queue_numbered.Goals as goal

pub loop-document-preserved : goal.loop-document-preserved
loop-document-preserved c =
    let n = c.args.number in
    let xs = c.args.documents.now.items in
    let ys = c.loop-document.document-items in
    let i = c.loop-document.document-index in
    let x = c.document-item.result in
    let change = queued_anew c.args.moment in
    let within : i < length xs = omega (arith, ap length c.deref_mut-document-items.ensures.value) in
    let here = ap (λ (d : OutEntry). d.number) c.document-item.is in
    elim c.if-document-number.branch [
      | then-document-number w ↦
          w.document-items-is
          ∙ one_changed (λ (d : OutEntry). d.number) n change xs ys i x w.queue.new.document within c.loop-document.invariant c.document-item.is
          (here ∙ w.if-document-number.true)
          (w.queue.ensures ∙ ap change (sym c.document-item.is))
      | else-document-number w ↦
          w.document-items-is
          ∙ one_left (λ (d : OutEntry). d.number) n change xs ys i x within c.loop-document.invariant c.document-item.is
          (λ is. w.if-document-number.false (sym here ∙ is))
    ]

use Rattle.std.proofs.Common.{◌<◌, length, ◌∙◌, sym, ap, arith}
use Rattle.as2_exchange.specs.declared.inbox.InEntry.{InEntry}
use Rattle.as2_records.specs.Owing.{with_receipt_progress}
use Rattle.as2_lists.proofs.Changed.{one_changed, one_left}
use Rattle.as2_lists.proofs.inbox.set_numbered.Goals.{then-entry-number, else-entry-number}
use Rattle.as2_lists.proofs.inbox.set_numbered.Goals as goal

pub loop-entry-preserved : goal.loop-entry-preserved
loop-entry-preserved c =
    let n = c.args.number in
    let xs = c.args.entries.now.items in
    let ys = c.loop-entry.entry-items in
    let i = c.loop-entry.entry-index in
    let x = c.entry-item.result in
    let change = with_receipt_progress c.args.progress in
    let within : i < length xs = omega (arith, ap length c.deref_mut-entry-items.ensures.value) in
    let here = ap (λ (e : InEntry). e.number) c.entry-item.is in
    elim c.if-entry-number.branch [
      | then-entry-number w ↦
          w.entry-items-is
          ∙ one_changed (λ (e : InEntry). e.number) n change xs ys i x w.set.new.entry within c.loop-entry.invariant c.entry-item.is
          (here ∙ w.if-entry-number.true)
          (w.set.ensures ∙ ap change (sym c.entry-item.is))
      | else-entry-number w ↦
          w.entry-items-is
          ∙ one_left (λ (e : InEntry). e.number) n change xs ys i x within c.loop-entry.invariant c.entry-item.is
          (λ is. w.if-entry-number.false (sym here ∙ is))
    ]

use Rattle.std.proofs.Common.{◌≡◌, ℕ, ◌+◌, ◌<◌, List, set, length, get_or, sym, ap, ◌∙◌, is_some, arith}
use Rattle.std.proofs.lemmas.List.Edits.{map_over_more}
use Rattle.std.proofs.lemmas.List.Sums.{count_by_more_yes, count_by_more_no}
use Rattle.as2_exchange.specs.Documents.{passed_document, passes_at}
use Rattle.as2_exchange.specs.declared.outbox.OutEntry.{OutEntry}
use Rattle.as2_lists.proofs.Passing.{still_there}
use Rattle.as2_lists.proofs.outbox.expire.Goals.{then-pass, else-pass}
use Rattle.as2_lists.proofs.outbox.expire.Goals as goal

pub loop-document-preserved : goal.loop-document-preserved
loop-document-preserved c =
    let m = c.args.moment in
    let xs = c.args.documents.now.items in
    let ys = c.loop-document.document-items in
    let i = c.loop-document.document-index in
    let x = c.document-item.result in
    let so = c.loop-document.invariant in
    let change = λ (d : OutEntry). passed_document d (passes_at m d) in
    let passes = λ (d : OutEntry). is_some (passes_at m d) in
    let within : i < length xs = omega (arith, ap length c.deref_mut-document-items.ensures.value) in
    let same : get_or ys i x ≡ get_or xs i x = ap (λ (l : List OutEntry). get_or l i x) so.passed ∙ still_there change xs i x within in
    let told : c.pass.result ≡ is_some (passes_at m (get_or xs i x)) = c.pass.ensures.told ∙ ap passes same in
    record {
      passed = ap (set ys i) (c.pass.ensures.passed ∙ ap change (sym c.document-item.is)) ∙ map_over_more change xs ys i x within so.passed c.document-item.is;
      counted = elim c.if-pass.branch [
        | then-pass w ↦ w.count-is ∙ ap (λ (n : ℕ). n + 1) so.counted ∙ sym (count_by_more_yes passes xs i x within (sym told ∙ w.if-pass.true))
        | else-pass w ↦ w.count-is ∙ so.counted ∙ sym (count_by_more_no passes xs i x within (sym told ∙ w.if-pass.false))
      ];
    }

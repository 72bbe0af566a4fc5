use Rattle.std.proofs.Common.{◌≡◌, ◌==◌, Some, None, sym, ap, ◌∙◌, set}
use Rattle.std.specs.List.{position}
use Rattle.as2_exchange.specs.Documents.{settled_as}
use Rattle.as2_exchange.specs.declared.outbox.OutEntry.{OutEntry}
use Rattle.as2_lists.proofs.Changed.{changed_at, changed_nowhere}
use Rattle.as2_lists.proofs.outbox.settle_numbered.Goals as goal

pub returns-in-Some : goal.returns-in-Some
returns-in-Some c = λ distinct.
    let n = c.args.number in
    let ds = c.args.documents.now.items in
    let i = c.in-Some.place in
    let change = settled_as c.args.detail c.args.evidence in
    let test = λ (d : OutEntry). d.number == n in
    let found : position test ds ≡ Some i = ap (position test) (sym c.deref.ensures.value) ∙ sym c.place_of.ensures ∙ c.in-Some.is in
    ap (set ds i) (c.settle.ensures ∙ ap change c.index_mut.ensures.value)
    ∙ changed_at (λ (d : OutEntry). d.number) n change ds i c.index_mut.result.now distinct found

pub returns-in_default : goal.returns-in_default
returns-in_default c = λ distinct.
    let n = c.args.number in
    let ds = c.args.documents.now.items in
    let test = λ (d : OutEntry). d.number == n in
    let found : position test ds ≡ None = ap (position test) (sym c.deref.ensures.value) ∙ sym c.place_of.ensures ∙ c.in_default.is in
    sym (changed_nowhere (λ (d : OutEntry). d.number) n (settled_as c.args.detail c.args.evidence) ds found)

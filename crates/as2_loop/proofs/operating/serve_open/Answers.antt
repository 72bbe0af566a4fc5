use Rattle.std.proofs.Common.{◌∙◌, ℕ, List, ap, subst}
use Rattle.std.specs.Prelude.{string_bytes}
use Rattle.as2_loop.specs.Running.{KeepsLeft, LeadsLeft}
use Rattle.as2_loop.specs.declared.commands.Basis.{Basis}
use Rattle.as2_loop.proofs.Stores.{closed_behind}
use Rattle.as2_loop.proofs.operating.serve_open.Goals as goal

pub returns-in-Ok-clause-leads : goal.returns-in-Ok-clause-leads
returns-in-Ok-clause-leads g c text =
    let holds = g.O.Holding.Records.shows in
    let in_round = g.O.Holding.Round.Records.shows in
    let left = c.in-Ok.turned.records in
    closed_behind g.O.OpenStores (string_bytes c.args.held.basis.store) c.close_left.new.stores (g.O.Opened.Records.shows c.args.records) holds in_round
    c.args.held.basis c.holding.result left c.holding.ensures
    (subst (λ (h : g.row.O-Holding.Denot). LeadsLeft holds in_round c.args.held.basis h left) c.bounded-records.ensures (c.in-Ok.ensures.over text))
    (subst (λ (p : List ℕ). KeepsLeft g.O.OpenStores holds in_round p left c.close_left.new.stores)
    (c.as_str.ensures.value ∙ ap (λ (b : Basis). string_bytes b.store) c.in-Ok.ensures.basis) c.close_left.ensures.kept)

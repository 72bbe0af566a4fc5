use Rattle.std.proofs.Common.{◌≡◌, ◌∙◌, ◌+◌, arith}
use Rattle.std.specs.Prelude.{string_bytes}
use Rattle.as2_loop.proofs.Stores.{kept_unopened, opened_anew}
use Rattle.as2_loop.proofs.operating.go_on.Goals as goal

pub returns-in-Ok-clause-leads : goal.returns-in-Ok-clause-leads
returns-in-Ok-clause-leads g c text =
    opened_anew g.O.OpenStores g.O.Opened.Records.shows (string_bytes c.args.held.basis.store) c.serve_open.new.stores c.as_str.result.now
    c.as_str.ensures.value
    c.args.held.basis.agreed.agreements c.args.run.first c.args.stores.now c.in-Ok.records c.serve_open.result c.in-Ok.ensures.clean c.in-Ok.ensures.found
    (c.serve_open.ensures.leads text) (c.serve_open.ensures.counted ∙ c.in-Ok.ensures.counted)

pub returns-in-Err-clause-leads : goal.returns-in-Err-clause-leads
returns-in-Err-clause-leads g c text =
    let came : g.O.OpenStores.opens c.open.new.self ≡ g.O.OpenStores.opens c.args.stores.now + 0 = c.in-Err.ensures.counted in
    let none : g.O.OpenStores.opens c.open.new.self ≡ g.O.OpenStores.opens c.args.stores.now = omega (arith, came) in
    kept_unopened g.O.OpenStores c.as_str.result.now (string_bytes c.args.held.basis.store) c.args.stores.now c.open.new.self c.as_str.ensures.value
    c.args.held.basis.agreed.agreements c.args.run.first c.wait_for_store-in-Err.result c.in-Err.ensures.unclean c.in-Err.ensures.same none

use Rattle.std.proofs.Common.{ℕ, List}
use Rattle.std.specs.Prelude.{IfOk}
use Rattle.as2_agreement.specs.Agreements.{AgreedValues}
use Rattle.as2_loop.specs.Running.{LeadsFrom}
use Rattle.as2_loop.specs.declared.operating.Held.{Held}
use Rattle.as2_loop.proofs.Stores.{begun_at}
use Rattle.as2_loop.proofs.operating.begin.Goals as goal

pub returns-in-Ok-clause-leads : goal.returns-in-Ok-clause-leads
returns-in-Ok-clause-leads g c =
    begun_at c.args.held c.in-Ok.held c.args.store.now (λ (p : List ℕ) (A : AgreedValues). IfOk c.serve_open.result (λ (_ : Held).
    LeadsFrom g.O.OpenStores p A (g.O.Opened.Records.shows c.args.records).IsClean (g.O.Opened.Records.shows c.args.records).Rests
    c.serve_open.new.stores)) c.in-Ok.is c.serve_open.ensures.leads

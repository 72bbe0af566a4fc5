use Rattle.std.proofs.Common.{◌≡◌, ◌+◌, ◌∙◌, ℕ, Bool, true, false, List, Result, Ok, Err, IfErr, refl, sym, subst, arith}
use Rattle.std.specs.Bool.{⊤}
use Rattle.as2_host.specs.Networks.{ExchangedOver, listening_of}
use Rattle.as2_host.specs.Stores.{MayCome}
use Rattle.as2_host.specs.declared.stores.OpenFault.{OpenFault}
use Rattle.as2_host.specs.declared.stores.OpenStores.{Ghosts as Stores}
use Rattle.as2_exchange.specs.State.{LaterVersion, State, empty}
use Rattle.as2_desk.proofs.Opening.{clean_kept, each_left, goes_in_memory, goes_kept}
use Rattle.as2_desk.specs.Observed.{filing_of, input_of, console_outcome, stored_of}
use Rattle.as2_desk.specs.Stores.{ByPlace, IsKeptAt, is_in_memory, opens_at}
use Rattle.as2_desk.proofs.work.work_over.Goals as goal

-- the store is in memory
pub returns-then-eq-clause-goes : goal.returns-then-eq-clause-goes
returns-then-eq-clause-goes g c =
    let path = c.args.store.path.now in
    let first = c.args.store.first in
    let stores = c.args.host.now.stores in
    let opens = g.O.OpenStores.opens stores in
    let is : is_in_memory path ≡ true = sym c.eq.ensures ∙ c.if-eq.true in
    goes_in_memory g.O.InMemory.Records.shows c.args.terms.now.agreements.now
    (record { first = c.args.store.first; moment = c.args.terms.now.moment; limit = c.args.store.limit }) c.args.work
    (record {
      input = input_of g.R.Source c.args.console.now c.do_over.new.console;
      outcome = console_outcome g.W.Sink g.E.Sink c.args.console.now c.do_over.new.console (IsKeptAt path (g.O.OpenStores.keeps stores path));
      filing = filing_of g.F.MakeFiles c.args.host.now.outside.files c.do_over.new.outside.files;
      Unasked = c.do_over.new.outside.network ≡ c.args.host.now.outside.network;
      Exchanged = ExchangedOver g.N.Network g.N.Links.Links c.args.host.now.outside.network c.do_over.new.outside.network;
      listening = listening_of g.N.Network g.N.Listener.Listens c.args.host.now.outside.network c.do_over.new.outside.network;
    })
    (stored_of g.O.OpenStores stores stores path)
    c.do_over.result.0 c.do_over.result.1 c.open_in_memory-records.result c.open_in_memory-records.ensures c.do_over.ensures.fails c.do_over.ensures.does
    (λ fault may. subst (λ (b : Bool). ByPlace b (MayCome fault) (g.O.OpenStores.fails stores path fault)) (sym is) may)
    refl (λ number s kept. kept) (subst (λ (b : Bool). opens ≡ opens + opens_at b) (sym is) (omega arith))
    (λ s from. subst (λ (b : Bool). ByPlace b (s ≡ empty (LaterVersion 0) first)
    (g.O.OpenStores.keeps stores path first s × g.O.OpenStores.is_clean stores)) is from)
    (λ t. subst (λ (b : Bool). ByPlace b ⊤ ((number : ℕ) → g.O.OpenStores.keeps stores path number t)) (sym is) tt)

-- no records could be opened: the stores are as the opening left them
not_opened : {O A Opened InMemory : Type 0} (g : Stores O Opened InMemory) (was opened is : O) (path : List ℕ) (r : Result A OpenFault)
    → is_in_memory path ≡ false
    → IfErr r (λ fault. g.fails was path fault) → IfErr r (λ fault. (number : ℕ) (s : State) → g.keeps was path number s → g.keeps opened path number s)
    → is ≡ opened → IfErr r (λ fault. (stored_of g was is path).Kept × (stored_of g was is path).Fails fault)
not_opened g was opened is path (Ok records) away fails same left = tt
not_opened g was opened is path (Err fault) away fails same left = (
  λ number s kept. subst (λ o. g.keeps o path number s) (sym left) (same number s kept),
  subst (λ (b : Bool). ByPlace b (MayCome fault) (g.fails was path fault)) (sym away) fails,
)

-- it is kept under its path
pub returns-clause-goes : goal.returns-clause-goes
returns-clause-goes g c =
    let path = c.args.store.path.now in
    let first = c.args.store.first in
    let was = c.args.host.now.stores in
    let stores = c.close_in-refused.new.stores in
    let opened = g.O.OpenStores.opens was in
    let opens = g.O.OpenStores.opens stores in
    let Clean = g.O.OpenStores.is_clean stores in
    let is : is_in_memory path ≡ false = sym c.eq.ensures ∙ c.if-eq.false in
    goes_kept (λ b. g.O.Opened.Records.shows b.records) c.args.terms.now.agreements.now
    (record { first = c.args.store.first; moment = c.args.terms.now.moment; limit = c.args.store.limit }) c.args.work
    (record {
      input = input_of g.R.Source c.args.console.now c.do_over-left.new.console;
      outcome = console_outcome g.W.Sink g.E.Sink c.args.console.now c.do_over-left.new.console (IsKeptAt path (g.O.OpenStores.keeps stores path));
      filing = filing_of g.F.MakeFiles c.args.host.now.outside.files c.do_over-left.new.outside.files;
      Unasked = c.do_over-left.new.outside.network ≡ c.args.host.now.outside.network;
      Exchanged = ExchangedOver g.N.Network g.N.Links.Links c.args.host.now.outside.network c.do_over-left.new.outside.network;
      listening = listening_of g.N.Network g.N.Listener.Listens c.args.host.now.outside.network c.do_over-left.new.outside.network;
    })
    (stored_of g.O.OpenStores was stores path)
    c.do_over-left.result.0 c.do_over-left.result.1 c.open_in-records.result Clean (g.O.OpenStores.keeps was path first) opened opens
    c.open_in-records.ensures.found c.do_over-left.ensures.fails c.do_over-left.ensures.does
    (λ none. not_opened g.O.OpenStores was c.open_in-records.new.stores stores path c.open_in-records.result is c.open_in-records.ensures.fault
    c.open_in-records.ensures.same (c.close_in-refused.ensures.none none).0)
    (c.close_in-refused.ensures.counted ∙ c.open_in-records.ensures.counted) (λ same. same)
    (λ more. subst (λ (b : Bool). opens ≡ opened + opens_at b) (sym is) more)
    (λ s from. subst (λ (b : Bool). ByPlace b (s ≡ empty (LaterVersion 0) first) (g.O.OpenStores.keeps was path first s × Clean)) is from)
    c.close_in-refused.ensures.clean
    (each_left c.do_over-left.result.1 Clean (λ l t. (g.O.Opened.Records.shows l.records).Rests t)
    (λ t. (number : ℕ) → g.O.OpenStores.keeps stores path number t)
    (IsKeptAt path (g.O.OpenStores.keeps stores path)) c.close_in-refused.ensures.kept
    (λ t keeps. subst (λ (b : Bool). ByPlace b ⊤ ((number : ℕ) → g.O.OpenStores.keeps stores path number t)) (sym is) keeps))

pub returns-clause-clean : goal.returns-clause-clean
returns-clause-clean g c =
    let path = c.args.store.path.now in
    let was = c.args.host.now.stores in
    let stores = c.close_in-refused.new.stores in
    clean_kept (λ b. g.O.Opened.Records.shows b.records) c.args.terms.now.agreements.now
    (record { first = c.args.store.first; moment = c.args.terms.now.moment; limit = c.args.store.limit }) c.args.work
    (record {
      input = input_of g.R.Source c.args.console.now c.do_over-left.new.console;
      outcome = console_outcome g.W.Sink g.E.Sink c.args.console.now c.do_over-left.new.console (IsKeptAt path (g.O.OpenStores.keeps stores path));
      filing = filing_of g.F.MakeFiles c.args.host.now.outside.files c.do_over-left.new.outside.files;
      Unasked = c.do_over-left.new.outside.network ≡ c.args.host.now.outside.network;
      Exchanged = ExchangedOver g.N.Network g.N.Links.Links c.args.host.now.outside.network c.do_over-left.new.outside.network;
      listening = listening_of g.N.Network g.N.Listener.Listens c.args.host.now.outside.network c.do_over-left.new.outside.network;
    })
    (stored_of g.O.OpenStores was stores path)
    c.do_over-left.result.0 c.do_over-left.result.1 c.open_in-records.result (g.O.OpenStores.is_clean stores)
    (g.O.OpenStores.is_clean c.open_in-records.new.stores) (g.O.OpenStores.is_clean was) c.do_over-left.ensures.fails c.do_over-left.ensures.does
    c.open_in-records.ensures.clean c.open_in-records.ensures.unclean c.close_in-refused.ensures.clean
    (λ none clean. subst (λ o. g.O.OpenStores.is_clean o) (c.close_in-refused.ensures.none none).0 clean)

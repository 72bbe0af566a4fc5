-- A migration is of the run.
use Rattle.std.proofs.Common.{◌≡◌, ◌∙◌, [], ◌∷◌, ◌++◌, sym, ap}
use Rattle.as2_exchange.specs.Agreement.{Agreements}
use Rattle.as2_exchange.specs.Run.{Answered, Failed, AnEvent, AMigration, Trace, Run, migrated_state}
use Rattle.as2_exchange.specs.State.{State, FirstVersion}

pub run_then_migrated : (A : Agreements) (old s : State) (trace : Trace) → Run A old trace s → s.version ≡ FirstVersion
    → Run A old (trace ++ AMigration s.next_in ∷ []) (migrated_state s)
run_then_migrated A old s [] same first = (
  ap (λ (x : State). x.version) (sym same) ∙ first,
  ap (λ (x : State). x.next_in) same,
  ap migrated_state same,
)
run_then_migrated A old s (AnEvent e (Answered a) ∷ rest) run first = (run.0, run.1, run_then_migrated A run.0 s rest run.2 first)
run_then_migrated A old s (AnEvent e (Failed fault) ∷ rest) run first = (run.0, run_then_migrated A old s rest run.1 first)
run_then_migrated A old s (AMigration n ∷ rest) run first = (run.0, run.1, run_then_migrated A (migrated_state old) s rest run.2 first)

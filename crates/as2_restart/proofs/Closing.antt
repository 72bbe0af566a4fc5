-- What a list of events and a close behind it come to.
use Rattle.std.proofs.Common.{List, [], ◌∷◌, Result, Ok, Err, IfOk, IfSome, sym, subst}
use Rattle.std.specs.Result.{result_ok}
use Rattle.sqlite.specs.Store.{Ghosts}
use Rattle.sqlite.specs.Held.{Held, state}
use Rattle.as2_exchange.specs.Agreement.{Agreements}
use Rattle.as2_exchange.specs.declared.answer.Answer.{Answer}
use Rattle.as2_exchange.specs.declared.event.Event.{Event}
use Rattle.as2_exchange.specs.declared.fault.StoreFault.{StoreFault}
use Rattle.as2_kept.specs.Instance.{tables_standing}
use Rattle.as2_station.specs.Traces.{TakesEvents}

-- what was closed, if anything was
pub of_closed : {X E : Type 0} {P Q R T : X → Type 0} → ((x : X) → P x → Q x → R x → T x) → (r : Result X E) → IfOk r P → IfOk r Q → IfOk r R
    → IfSome (result_ok r) T
of_closed f (Ok x) p q r = f x p q r
of_closed f (Err e) p q r = tt

-- each event keeps the shield
pub taken_shield : {S : Type 0} (g : Ghosts S) (A : Agreements) (es : List Event) (rs : List (Result Answer StoreFault)) (old new : Held S)
    → TakesEvents (λ (h : Held S). tables_standing (state g h)) A es rs old new → (state g old).IsShielded → (state g new).IsShielded
taken_shield {S} g A [] [] old new same shielded = subst (λ (h : Held S). (state g h).IsShielded) (sym same) shielded
taken_shield {S} g A [] (r ∷ rs) old new none shielded = absurd none
taken_shield {S} g A (e ∷ es) [] old new none shielded = absurd none
taken_shield {S} g A (e ∷ es) (r ∷ rs) old new it shielded = taken_shield g A es rs it.0 new it.4 (it.1.does.crash.shield shielded)

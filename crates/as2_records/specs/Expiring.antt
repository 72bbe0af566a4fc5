-- Time passes: the documents whose wait is over.
use Rattle.std.specs.Prelude.{◌≡◌, ℕ, Option, Some}
use Rattle.as2_exchange.specs.Documents.{tick}
use Rattle.as2_exchange.specs.State.{State}
use Rattle.as2_exchange.specs.declared.answer.Answer.TheVariants.{Ticked}
use Rattle.as2_records.specs.Standing.{Medium, Standing}

-- the state that time leaves at this moment
abbrev pub ticked_in : ℕ → State → Option State
ticked_in m s = Some (tick m s).1

-- it is how many documents Tick tells
abbrev pub TicksAs : {M : Medium} → ℕ → Standing M → ℕ → Type 0
TicksAs m old count = (s : State) → old.Rests s → Ticked count ≡ (tick m s).0

-- Begins and outcomes are always answered.
use Rattle.std.proofs.Common.{◌≡◌, ℕ, None}
use Rattle.as2_exchange.specs.Agreement.{Agreements}
use Rattle.as2_exchange.specs.State.{State}
use Rattle.as2_exchange.specs.Step.{step}
use Rattle.as2_exchange.specs.declared.event.TryAnswer.{TryAnswer}
use Rattle.as2_exchange.specs.declared.next.Next.{Next}
use Rattle.as2_exchange.specs.declared.next.Next.TheVariants.{Receipt, Document}
use Rattle.as2_station.specs.Said.{begin_event, outcome_event}

pub begin_answered : (A : Agreements) (m : ℕ) (s : State) (what : Next) → step A s (begin_event what m) ≡ None → ⊥
begin_answered A m s (Document n) is = cc
begin_answered A m s (Receipt n) is = cc

pub outcome_answered : (A : Agreements) (m : ℕ) (s : State) (what : Next) (got : TryAnswer) → step A s (outcome_event what got m) ≡ None → ⊥
outcome_answered A m s (Document n) got is = cc
outcome_answered A m s (Receipt n) got is = cc

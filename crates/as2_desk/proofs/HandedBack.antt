-- What is known of the state that is left.
use Rattle.std.proofs.Common.{ℕ, Option, Some, None, IfSome}
use Rattle.as2_agreement.specs.Agreements.{AgreedValues}
use Rattle.as2_exchange.specs.State.{State}
use Rattle.as2_desk.specs.Observed.{Input, Outcome}
use Rattle.as2_desk.specs.Posting.{Posts}
use Rattle.as2_desk.specs.declared.status.Ran.{Ran}

pub each_known : (P Q : State → Type 0) (known : Option State) → IfSome known P → ((s : State) → P s → Q s) → IfSome known Q
each_known P Q None p f = tt
each_known P Q (Some s) p f = f s p

pub both_known : (P Q R : State → Type 0) (known : Option State) → IfSome known P → IfSome known Q → ((s : State) → P s → Q s → R s) → IfSome known R
both_known P Q R None p q f = tt
both_known P Q R (Some s) p q f = f s p q

-- each state that is left, where it is known from which, may be said in other words
abbrev pub SaysAgain : Option State → (State → Type 0) → (State → Type 0) → Type 0
SaysAgain known Left Later = IfSome known (λ s. (t : State) → Left t → Later t)

-- what is written, with another state that is left
abbrev pub leaving : Outcome → (State → Type 0) → Outcome
leaving o Left = record o { Left = Left }

pub posts_left : (A : AgreedValues) (moment : ℕ) (known : Option State) (input : Input) (o : Outcome) (Left : State → Type 0) (ran : Ran)
    → SaysAgain known Left o.Left → Posts A moment known input (leaving o Left) ran → Posts A moment known input o ran
posts_left A moment known input o Left ran again it = record {
  noted = it.noted;
  new = it.new;
  end = it.end;
  cause = it.cause;
  posts = both_known _ _ _ known again it.posts (λ s later left. (left.0, later left.0 left.1, left.2));
  serves = both_known _ _ _ known again it.serves (λ s later serves text is. let served = serves text is in (served.0, later served.0 served.1, served.2));
  told = it.told;
}

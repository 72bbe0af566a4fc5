-- What the serving of one connection comes to.
use Rattle.std.specs.Prelude.{◌≡◌, ℕ, Option, IfSome}
use Rattle.as2_agreement.specs.Agreements.{AgreedValues}
use Rattle.as2_exchange.specs.Run.{Trace}
use Rattle.as2_exchange.specs.State.{State}
use Rattle.as2_http.specs.StreamReads.{RunsPosts}
use Rattle.as2_http.specs.Streams.{stream_events}

-- The posts that a connection brought (Brought), at one moment, and nothing else, led the machine from s to t. Where a moment is given, it is that
-- one.
pub record ServesOne (A : AgreedValues) (given : Option ℕ) (Brought : Trace → Type 0) (s t : State) : Type 0 where
  pub moment : ℕ
  pub is_given : IfSome given (λ m. moment ≡ m)
  pub posts : RunsPosts A moment s t
  pub brought : Brought (stream_events moment posts.done)

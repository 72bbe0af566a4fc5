-- No connection was had, so nothing was taken.
use Rattle.std.proofs.Common.{ℕ, [], Option, Some, None, refl}
use Rattle.as2_agreement.specs.Agreements.{AgreedValues}
use Rattle.as2_exchange.specs.Run.{Trace}
use Rattle.as2_exchange.specs.State.{State}
use Rattle.as2_station.proofs.ByHistory.{ends_by_history}
use Rattle.as2_http.specs.StreamReads.{RunsPosts}
use Rattle.as2_host.specs.Serving.{ServesOne}

no_posts : (A : AgreedValues) (moment : ℕ) (s : State) → RunsPosts A moment s s
no_posts A moment s = record { done = []; run = refl; by_history = ends_by_history A s [] s refl }

pub serves_none : (A : AgreedValues) (given : Option ℕ) (Brought : Trace → Type 0) (s : State) → Brought [] → ServesOne A given Brought s s
unfolding no_posts
serves_none A (Some moment) Brought s none = record { moment = moment; is_given = refl; posts = no_posts A moment s; brought = none }
serves_none A None Brought s none = record { moment = 0; is_given = tt; posts = no_posts A 0 s; brought = none }

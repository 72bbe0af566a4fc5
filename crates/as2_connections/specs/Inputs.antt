-- What the serving of an input comes to, whoever counts its reads.
use Rattle.std.specs.Prelude.{◌≡◌, ◌≤◌, ℕ, List, Option}
use Rattle.as2_agreement.specs.Agreements.{AgreedValues}
use Rattle.as2_exchange.specs.State.{State}
use Rattle.as2_http.specs.Notes.{SinkAndJournal}
use Rattle.as2_http.specs.StreamReads.{Serves}
use Rattle.as2_http.specs.declared.stream.Served.{Served}
use Rattle.as2_http.specs.declared.stream.Served.TheVariants.{TooLong}

-- so many reads were made, 100,000 at most and all of them where that is the end, and that was left unread
pub record ServesInput (A : AgreedValues) (moment : ℕ) (s t : State) (input : List ℕ) (before after : SinkAndJournal) (end : Served) : Type 0 where
  pub unread : Option (List ℕ)
  pub reads : ℕ
  pub most : reads ≤ 100000
  pub too_long : end ≡ TooLong → reads ≡ 100000
  pub serves : Serves A moment s t input unread before after 0 reads end

-- What holds of every stream that is served.
use Rattle.std.specs.Prelude.{◌≡◌, ℕ, List, [], ◌∷◌, Option, ⊤}
use Rattle.as2_agreement.specs.Agreements.{AgreedValues}
use Rattle.as2_exchange.specs.State.{State}
use Rattle.as2_http.specs.Notes.{SinkAndJournal}
use Rattle.as2_http.specs.StreamReads.{Serves}
use Rattle.as2_http.specs.Streams.{RequestAndResponse}
use Rattle.as2_http.specs.declared.response.Response.{Response}
use Rattle.as2_http.specs.declared.response.Response.TheVariants.{Answered, Failed, OnlyPost, NoPath}
use Rattle.as2_http.specs.declared.stream.Served.{Served}
use Rattle.as2_http.specs.declared.stream.Served.TheVariants.{Closed, Truncated, BadFraming, ReadFault, WriteFault, Memory, TooLong}

-- the store had no fault
abbrev pub IsSoundResponse : Response → Type 0
IsSoundResponse (Answered answer) = ⊤
IsSoundResponse (Failed fault) = ⊥
IsSoundResponse OnlyPost = ⊤
IsSoundResponse NoPath = ⊤

-- .. at any request
abbrev pub AreSound : List RequestAndResponse → Type 0
AreSound [] = ⊤
AreSound (x ∷ more) = IsSoundResponse x.1 × AreSound more

-- P, at an end that the input alone decides: no read, write or memory failed
abbrev pub AtJudged : Served → Type 0 → Type 0
AtJudged Closed P = P
AtJudged Truncated P = P
AtJudged BadFraming P = P
AtJudged ReadFault P = ⊤
AtJudged WriteFault P = ⊤
AtJudged Memory P = ⊤
AtJudged TooLong P = ⊤

-- an input that was served from that state: how it was read, what was written and noted, how it ended, and what is left
pub record ServedInput (A : AgreedValues) (moment : ℕ) (s : State) (input : List ℕ) : Type 0 where
  pub unread : Option (List ℕ)
  pub before : SinkAndJournal
  pub after : SinkAndJournal
  pub calls : ℕ
  pub later : ℕ
  pub end : Served
  pub left : State
  pub serves : Serves A moment s left input unread before after calls later end

-- the same requests got the same, by the same replies, and the same follows them
abbrev pub ServesAlike : {A : AgreedValues} {moment : ℕ} {s : State} {input : List ℕ} (one two : ServedInput A moment s input) → Type 0
ServesAlike one two =
    (one.serves.done ≡ two.serves.done) × (one.serves.replies ≡ two.serves.replies) × (one.serves.rest ≡ two.serves.rest) × (one.end ≡ two.end) × (one.left ≡ two.left)

-- In one state an input is served in one way, where nothing failed, and the store neither.
abbrev pub ServesInOneWay : Type 0
ServesInOneWay = (A : AgreedValues) (moment : ℕ) (s : State) (input : List ℕ) (one two : ServedInput A moment s input)
    → AreSound one.serves.done → AreSound two.serves.done → AtJudged one.end (AtJudged two.end (ServesAlike one two))

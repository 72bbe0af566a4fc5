-- What is read of a stream, each read where it is needed, and what the stream comes to.
use Rattle.std.specs.Prelude.{◌≡◌, ℕ, List, [], ◌∷◌, ◌++◌, Option, Some, None}
use Rattle.as2_records.specs.Standing.{Medium, Standing}
use Rattle.as2_agreement.specs.Agreements.{AgreedValues}
use Rattle.as2_exchange.specs.Run.{Run}
use Rattle.as2_exchange.specs.State.{State}
use Rattle.as2_station.specs.Theorem.{EndsByHistory}
use Rattle.as2_http.specs.InputReads.{AllGave, ReadsNeeded}
use Rattle.as2_http.specs.Notes.{WritesAndNotes, SinkAndJournal}
use Rattle.as2_messages.specs.Parsing.{HasTaken}
use Rattle.as2_messages.specs.Requests.{IsOpen}
use Rattle.as2_http.specs.Responses.{Responds, Unsaid}
use Rattle.as2_http.specs.Streams.{RequestAndResponse, AnswersAll, StreamEnds, StayOpen, stream_events, notes}
use Rattle.as2_messages.specs.declared.parser.RequestParser.{RequestParser}
use Rattle.as2_messages.specs.declared.request.Request.{Request}
use Rattle.as2_http.specs.declared.response.Response.{Response}
use Rattle.as2_http.specs.declared.stream.Served.{Served}

-- ---- what is read

-- requests that go on stand in the text, and then less than a request
pub record NeedsMore (A : AgreedValues) (moment : ℕ) (s : State) (text : List ℕ) : Type 0 where
  pub done : List RequestAndResponse
  pub mid : State
  pub replies : List ℕ
  pub held : List ℕ
  pub all : AnswersAll A moment s text done mid replies held
  pub go_on : StayOpen done
  pub undecided : IsOpen held

-- Between two reads: the whole requests that were read are answered, their replies are written and noted, and what is left of the bytes is less than a request.
pub record BetweenReads {M : Medium} (A : AgreedValues) (moment : ℕ) (s : State) (input : List ℕ) (p : RequestParser) (c : Standing M) (unread : Option (List ℕ)) (before now : SinkAndJournal) (calls later : ℕ) : Type 0 where
  pub reads : ReadsNeeded (NeedsMore A moment s) input unread calls later
  pub gave : AllGave reads.pieces
  pub done : List RequestAndResponse
  pub mid : State
  pub replies : List ℕ
  pub held : List ℕ
  pub all : AnswersAll A moment s reads.read done mid replies held
  pub go_on : StayOpen done
  pub rests : c.Rests mid
  pub taken : HasTaken p held
  pub said : WritesAndNotes before now replies (notes moment done)

-- ---- the stream

-- The requests that the input begins with were answered one after the other. That is a run of the machine, and what stands of each document is its
-- history. Their replies were written and noted, this end followed, and t is left.
pub record Serves (A : AgreedValues) (moment : ℕ) (s t : State) (input : List ℕ) (unread : Option (List ℕ)) (before after : SinkAndJournal) (calls later : ℕ) (served : Served) : Type 0 where
  pub done : List RequestAndResponse
  pub mid : State
  pub replies : List ℕ
  pub rest : List ℕ
  pub all : AnswersAll A moment s input done mid replies rest
  pub run : Run A s (stream_events moment done) mid
  pub by_history : EndsByHistory A s (stream_events moment done) mid
  -- and so where one request more was taken, whose reply isn't written whole
  pub cut_by_history : (r : Request) (x : Response) → Responds A moment mid r x Unsaid t → EndsByHistory A s (stream_events moment (done ++ (r, x) ∷ [])) t
  pub ends : StreamEnds A moment done mid replies rest unread before after t served
  pub reads : ReadsNeeded (NeedsMore A moment s) input unread calls later

-- a read, and what it gave is answered: the stream goes on, or ends so
abbrev pub AnswersNext : {M : Medium} → AgreedValues → ℕ → State → List ℕ → RequestParser → Standing M → Option (List ℕ) → SinkAndJournal → SinkAndJournal → ℕ → ℕ → Option Served → Type 0
AnswersNext A moment s input p c unread before after calls later None = BetweenReads A moment s input p c unread before after calls later
AnswersNext A moment s input p c unread before after calls later (Some end) = (t : State) × c.Rests t × Serves A moment s t input unread before after calls later end

-- ---- whatever the reader tells

-- requests got what they got at this moment, one after the other: their posts, and nothing else, led the machine from s to t, and what stands of each document is its
-- history
pub record RunsPosts (A : AgreedValues) (moment : ℕ) (s t : State) : Type 0 where
  pub done : List RequestAndResponse
  pub run : Run A s (stream_events moment done) t
  pub by_history : EndsByHistory A s (stream_events moment done) t

-- What the requests of a stream get, one after the other (RFC 9112, sections 2.1 and 9.3), and how the stream ends.
use Rattle.std.specs.Prelude.{◌≡◌, ℕ, ◌⊎◌, Bool, true, false, List, [], ◌∷◌, ◌++◌, Option, Some, None, Result, ⊤}
use Rattle.std.specs.Io.KnownBytes.{Appends}
use Rattle.as2_records.specs.Standing.{Medium, Standing}
use Rattle.as2_agreement.specs.Agreements.{AgreedValues}
use Rattle.as2_exchange.specs.Lines.{refusal}
use Rattle.as2_exchange.specs.Run.{Answered as Said, Failed, AnEvent, Trace}
use Rattle.as2_exchange.specs.State.{State}
use Rattle.as2_exchange.specs.declared.answer.Answer.TheVariants.{Http}
use Rattle.as2_framing.specs.HeadText.{unblank}
use Rattle.as2_http.specs.Notes.{WritesAndNotes, SinkAndJournal, note, refusal_note}
use Rattle.as2_messages.specs.Parsing.{HasTaken}
use Rattle.as2_messages.specs.Replies.{IsReply, refusal_line}
use Rattle.as2_messages.specs.Requests.{BeginsRequest, BeginsNoRequest, IsOpen}
use Rattle.as2_http.specs.Responses.{Responds, Unsaid, http_answer, post_event}
use Rattle.as2_http.specs.Sending.{WritesReply, form_of, refusal_form}
use Rattle.as2_messages.specs.declared.request.Request.{Request}
use Rattle.as2_messages.specs.declared.framing.Refused.{Refused}
use Rattle.as2_messages.specs.declared.framing.Method.{Method}
use Rattle.as2_messages.specs.declared.framing.Method.TheVariants as method
use Rattle.as2_messages.specs.declared.framing.Target.{Target}
use Rattle.as2_messages.specs.declared.framing.Target.TheVariants as target
use Rattle.as2_messages.specs.declared.parser.RequestParser.{RequestParser}
use Rattle.as2_http.specs.declared.response.Response.{Response}
use Rattle.as2_http.specs.declared.response.Response.TheVariants as response
use Rattle.as2_http.specs.declared.sending.SendFault.{SendFault}
use Rattle.as2_http.specs.declared.sending.SendFault.TheVariants as send_fault
use Rattle.as2_http.specs.declared.stream.Served.{Served}
use Rattle.as2_http.specs.declared.stream.Served.TheVariants as served

-- a request, and what it got
abbrev pub RequestAndResponse : Type 0
RequestAndResponse = Request × Response

-- the text begins with the request, which got that in the state s, and t is left; that is its reply, and the rest follows
pub record ServesRequest (A : AgreedValues) (moment : ℕ) (s : State) (text : List ℕ) (x : RequestAndResponse) (t : State) (reply rest : List ℕ) : Type 0 where
  pub begins : BeginsRequest text x.0 rest
  pub responds : Responds A moment s x.0 x.1 Unsaid t
  pub replies : IsReply moment (form_of x.0) (http_answer x.1) reply

-- these requests stand one after the other at the front of the text, and got that one after the other; those are their replies
abbrev pub AnswersAll : AgreedValues → ℕ → State → List ℕ → List RequestAndResponse → State → List ℕ → List ℕ → Type 0
AnswersAll A moment s text [] t replies rest = (t ≡ s) × (replies ≡ []) × (rest ≡ text)
AnswersAll A moment s text (x ∷ more) t replies rest =
    (mid : State) × (reply after later : List ℕ) × ServesRequest A moment s text x mid reply after × (replies ≡ reply ++ later) × AnswersAll A moment mid after more t later rest

-- none of the requests is the last of its stream
abbrev pub StayOpen : List RequestAndResponse → Type 0
StayOpen [] = ⊤
StayOpen (x ∷ more) = (x.0.last ≡ false) × StayOpen more

-- the last of the requests is the last of its stream, and none before it
abbrev pub EndsLast : List RequestAndResponse → Type 0
EndsLast done = (before : List RequestAndResponse) × (x : RequestAndResponse) × (done ≡ before ++ x ∷ []) × StayOpen before × (x.0.last ≡ true)

-- ---- the events

-- a post with what was said to it; what is said to any other request is no event
abbrev pub event_said : Request → ℕ → Response → Trace
event_said r moment (response.Answered answer) = AnEvent (post_event r moment) (Said (Http answer)) ∷ []
event_said r moment (response.Failed fault) = AnEvent (post_event r moment) (Failed fault) ∷ []
event_said r moment response.OnlyPost = []
event_said r moment response.NoPath = []

-- a post to the station's path is an event, and any other request is none
abbrev pub event_by : Method → Target → ℕ → RequestAndResponse → Trace
event_by method.Post target.Station moment x = event_said x.0 moment x.1
event_by method.Post target.Other moment x = []
event_by method.Head at moment x = []
event_by method.Other at moment x = []

abbrev pub stream_events : ℕ → List RequestAndResponse → Trace
stream_events moment [] = []
stream_events moment (x ∷ more) = event_by x.0.method x.0.target moment x ++ stream_events moment more

-- ---- what is written and noted, and what is left

-- the lines that are noted of requests with what they got
abbrev pub notes : ℕ → List RequestAndResponse → List ℕ
notes moment [] = []
notes moment (x ∷ more) = note moment x.0 x.1 ++ notes moment more

-- the request got that, and t is left; its reply is written, or the first bytes of it, and its line is noted
pub record RepliesTo {M : Medium} {U : Type 0} (A : AgreedValues) (moment : ℕ) (s : State) (r : Request) (c : Standing M) (before after : SinkAndJournal) (sent : Result U SendFault) : Type 0 where
  pub response : Response
  pub left : State
  pub rests : c.Rests left
  pub responds : Responds A moment s r response Unsaid left
  pub sends : WritesReply moment (form_of r) (http_answer response) before.written after.written sent
  pub noted : Appends before.noted after.noted (note moment r response)

-- a reply or a refusal was cut short: the first bytes of it were written behind the others, its line was noted, and t is left
pub data CutShort (A : AgreedValues) (moment : ℕ) (mid : State) (replies lines rest : List ℕ) (before after : SinkAndJournal) (t : State) : Type 0 where
  in_reply : (r : Request) (behind : List ℕ) (response : Response) (text part missing : List ℕ) (begins : BeginsRequest rest r behind) (responds : Responds A moment mid r response Unsaid t)
      (is : IsReply moment (form_of r) (http_answer response) text) (cut : text ≡ part ++ missing) (said : WritesAndNotes before after (replies ++ part) (lines ++ note moment r response))
      → CutShort A moment mid replies lines rest before after t
  in_refusal : (refused : Refused) (text part missing : List ℕ) (refuses : BeginsNoRequest rest refused) (same : t ≡ mid)
      (is : IsReply moment (refusal_form refused) (refusal (refusal_line refused.reason)) text) (cut : text ≡ part ++ missing) (said : WritesAndNotes before after (replies ++ part) (lines ++ refusal_note moment refused.reason))
      → CutShort A moment mid replies lines rest before after t

-- Memory was wanting, for a request, for a reply or for a refusal. Only the replies before are written. A request that was taken
-- and a refusal are noted.
pub data OutOfMemory (A : AgreedValues) (moment : ℕ) (mid : State) (replies lines rest : List ℕ) (before after : SinkAndJournal) (t : State) : Type 0 where
  for_request : (same : t ≡ mid) (said : WritesAndNotes before after replies lines) → OutOfMemory A moment mid replies lines rest before after t
  for_reply : (r : Request) (behind : List ℕ) (response : Response) (begins : BeginsRequest rest r behind) (responds : Responds A moment mid r response Unsaid t)
      (said : WritesAndNotes before after replies (lines ++ note moment r response)) → OutOfMemory A moment mid replies lines rest before after t
  for_refusal : (refused : Refused) (refuses : BeginsNoRequest rest refused) (same : t ≡ mid) (said : WritesAndNotes before after replies (lines ++ refusal_note moment refused.reason))
      → OutOfMemory A moment mid replies lines rest before after t

-- a refusal was written behind the replies, and noted
pub record WritesRefusal (moment : ℕ) (replies lines rest : List ℕ) (before after : SinkAndJournal) : Type 0 where
  pub refused : Refused
  pub refuses : BeginsNoRequest rest refused
  pub text : List ℕ
  pub is : IsReply moment (refusal_form refused) (refusal (refusal_line refused.reason)) text
  pub said : WritesAndNotes before after (replies ++ text) (lines ++ refusal_note moment refused.reason)

-- ---- a piece of the stream

-- how a stream ends with a reply that isn't written whole
abbrev pub end_by : SendFault → Served
end_by send_fault.Write = served.WriteFault
end_by send_fault.Memory = served.Memory

-- how a stream ends with a piece: behind the requests that were answered
abbrev pub PieceEnds : AgreedValues → ℕ → List RequestAndResponse → State → List ℕ → List ℕ → List ℕ → RequestParser → SinkAndJournal → SinkAndJournal → State → Option Served → Type 0
PieceEnds A moment done mid replies rest left p before after t None = StayOpen done × (t ≡ mid) × WritesAndNotes before after replies (notes moment done) × ((held : List ℕ) × (rest ≡ held ++ left) × HasTaken p held)
PieceEnds A moment done mid replies rest left p before after t (Some served.Closed) = EndsLast done × (t ≡ mid) × WritesAndNotes before after replies (notes moment done)
PieceEnds A moment done mid replies rest left p before after t (Some served.BadFraming) = StayOpen done × (t ≡ mid) × WritesRefusal moment replies (notes moment done) rest before after
PieceEnds A moment done mid replies rest left p before after t (Some served.WriteFault) = StayOpen done × CutShort A moment mid replies (notes moment done) rest before after t
PieceEnds A moment done mid replies rest left p before after t (Some served.Memory) = StayOpen done × OutOfMemory A moment mid replies (notes moment done) rest before after t
PieceEnds A moment done mid replies rest left p before after t (Some served.Truncated) = ⊥
PieceEnds A moment done mid replies rest left p before after t (Some served.ReadFault) = ⊥
PieceEnds A moment done mid replies rest left p before after t (Some served.TooLong) = ⊥

-- a stream may end so with a piece
abbrev pub may_end_piece : Served → Bool
may_end_piece served.Closed = true
may_end_piece served.BadFraming = true
may_end_piece served.WriteFault = true
may_end_piece served.Memory = true
may_end_piece served.Truncated = false
may_end_piece served.ReadFault = false
may_end_piece served.TooLong = false

-- the requests that end in a piece were answered and noted, in the text that it stands in; and how the stream ends with it, if it does
pub record AnswersPiece {M : Medium} (A : AgreedValues) (moment : ℕ) (s : State) (text left : List ℕ) (p : RequestParser) (c : Standing M) (before after : SinkAndJournal) (end : Option Served) : Type 0 where
  pub done : List RequestAndResponse
  pub mid : State
  pub last : State
  pub replies : List ℕ
  pub rest : List ℕ
  pub all : AnswersAll A moment s text done mid replies rest
  pub rests : c.Rests last
  pub ends : PieceEnds A moment done mid replies rest left p before after last end

-- ---- the stream

-- how the stream ends, behind the requests that were answered; ReadFault and TooLong behind all whole ones of the bytes that were read
abbrev pub StreamEnds : AgreedValues → ℕ → List RequestAndResponse → State → List ℕ → List ℕ → Option (List ℕ) → SinkAndJournal → SinkAndJournal → State → Served → Type 0
StreamEnds A moment done mid replies rest unread before after t served.Closed = (t ≡ mid) × WritesAndNotes before after replies (notes moment done) × (EndsLast done ⊎ (StayOpen done × IsOpen rest × (unblank rest ≡ [])))
StreamEnds A moment done mid replies rest unread before after t served.Truncated = (t ≡ mid) × WritesAndNotes before after replies (notes moment done) × StayOpen done × IsOpen rest × ¬ (unblank rest ≡ [])
StreamEnds A moment done mid replies rest unread before after t served.BadFraming = (t ≡ mid) × StayOpen done × WritesRefusal moment replies (notes moment done) rest before after
StreamEnds A moment done mid replies rest unread before after t served.ReadFault = (t ≡ mid) × WritesAndNotes before after replies (notes moment done) × StayOpen done × ((held left : List ℕ) × (rest ≡ held ++ left) × IsOpen held × (unread ≡ Some left))
StreamEnds A moment done mid replies rest unread before after t served.TooLong = (t ≡ mid) × WritesAndNotes before after replies (notes moment done) × StayOpen done × ((held left : List ℕ) × (rest ≡ held ++ left) × IsOpen held × (unread ≡ Some left))
StreamEnds A moment done mid replies rest unread before after t served.WriteFault = StayOpen done × CutShort A moment mid replies (notes moment done) rest before after t
StreamEnds A moment done mid replies rest unread before after t served.Memory = StayOpen done × OutOfMemory A moment mid replies (notes moment done) rest before after t

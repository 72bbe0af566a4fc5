-- What is kept of a connection.
use Rattle.std.specs.Prelude.{◌≡◌, ◌⊎◌, ℕ, ◌+◌, ◌-◌, if◌then◌else◌, ◌&&◌, ◌==◌, Bool, true, false, List, [], ◌∷◌, ◌++◌, length, ◌≤◌, Option, Some, None, IsTrue, IsSome, is_some, is_none}
use Rattle.as2_messages.specs.Parsing.{HasTaken}
use Rattle.as2_messages.specs.Requests.{BeginsRequest, BeginsNoRequest}
use Rattle.as2_messages.specs.declared.parser.RequestParser.{RequestParser}
use Rattle.as2_hub.specs.Calls.{DeskCall, MayStay, ReadsTo, ReadsToEnd}
use Rattle.as2_hub.specs.Conduct.{Conduct, KeepsUntilSettled}
use Rattle.as2_hub.specs.declared.beginning.Beginning.{Beginning}
use Rattle.as2_hub.specs.declared.beginning.Beginning.TheVariants as beginning
use Rattle.as2_hub.specs.declared.desk.Reply.{Reply}
use Rattle.as2_hub.specs.declared.talk.Talk.{Talk}

-- how many bytes came that aren't answered
abbrev pub unanswered_of : Talk → ℕ
unanswered_of t = t.taken + length t.behind

-- How a text that isn't answered is kept. It may all be in the parser, and is less than a request then. Or it begins with what waits, and the
-- rest came behind that. Without a parser nothing more is read. Then no request begins there, or the connection was given up, as where
-- memory is wanting, and some bytes came that aren't kept. Of a request that waits no more bytes came than are counted.
abbrev pub UnansweredBy : Option RequestParser → Option Beginning → Bool → ℕ → List ℕ → List ℕ → Type 0
UnansweredBy (Some p) None spent taken behind text = HasTaken p text × (behind ≡ [])
UnansweredBy (Some p) (Some (beginning.Request r)) spent taken behind text = HasTaken p [] × BeginsRequest text r behind
UnansweredBy (Some p) (Some (beginning.NoRequest refused)) spent taken behind text = ⊥
UnansweredBy None (Some (beginning.Request r)) spent taken behind text =
    IsTrue spent × ((rest : List ℕ) × BeginsRequest text r rest × ¬ (rest ≡ []) × (length text ≤ taken + length rest))
UnansweredBy None (Some (beginning.NoRequest refused)) spent taken behind text = BeginsNoRequest text refused
UnansweredBy None None spent taken behind text = IsTrue spent × ¬ (text ≡ []) × (taken ≡ 0) × (behind ≡ [])

-- the text isn't answered; no more bytes are counted than it has, and each of them while more is read
pub record HoldsUnanswered (t : Talk) (text : List ℕ) : Type 0 where
  pub unread : UnansweredBy t.parser t.waiting t.is_spent t.taken t.behind text
  pub no_more : unanswered_of t ≤ length text
  pub counted : IsSome t.parser → unanswered_of t ≡ length text

-- behind these calls the input goes on with a text that isn't answered
pub record HoldsUnread (t : Talk) (input : List ℕ) (calls : List DeskCall) : Type 0 where
  pub text : List ℕ
  pub answered : ReadsTo input calls text
  pub holds : HoldsUnanswered t text

-- behind these calls nothing of the input is read
pub record HasEnded (t : Talk) (input : List ℕ) (calls : List DeskCall) : Type 0 where
  pub answered : ReadsToEnd input calls
  pub unread : t.parser ≡ None
  pub none : t.waiting ≡ None
  pub nothing : unanswered_of t ≡ 0

-- what is kept of a connection from which this input came, and to which these calls replied
abbrev pub HoldsRest : Talk → List ℕ → List DeskCall → Type 0
HoldsRest t input calls = HoldsUnread t input calls ⊎ HasEnded t input calls

-- nothing came and nothing went
pub record IsFresh (t : Talk) : Type 0 where
  pub reading : IsSome t.parser
  pub free : t.waiting ≡ None
  pub unspent : t.is_spent ≡ false
  pub none : unanswered_of t ≡ 0
  pub silent : t.reply ≡ None
  pub empty : t.output.items ≡ []

-- how many bytes may be read next, where one connection may have so many that aren't answered: none while a request waits
abbrev pub talk_room : ℕ → Talk → ℕ
talk_room most t = if is_some t.parser && is_none t.waiting then most - unanswered_of t else 0

-- nothing more is read, and nothing is to be written
abbrev pub is_done : Talk → Bool
is_done t = is_none t.parser && is_none t.waiting && length t.output.items == 0

-- bytes are kept behind what waits; or some aren't, since memory for them isn't there, and the connection is given up
abbrev pub KeepsBehind : Talk → Talk → List ℕ → Type 0
KeepsBehind old new bytes =
    ((new ≡ record old { behind = new.behind }) × (new.behind ≡ old.behind ++ bytes))
    ⊎ (¬ (bytes ≡ []) × (new ≡ record old { parser = None; behind = new.behind; is_spent = true }) × (new.behind ≡ []))

-- ---- a round

-- as it was before what waits was given to the desk
abbrev pub before_call : Beginning → Talk → Talk
before_call asked t = record t { waiting = Some asked }

-- .. by these calls of the round: one at most
abbrev pub before_calls : List DeskCall → Talk → Talk
before_calls [] t = t
before_calls (e ∷ more) t = before_call e.asked t

-- the reply of that call is held, until the round has ended
pub record HoldsReply (e : DeskCall) (t : Talk) : Type 0 where
  pub reply : Reply
  pub held : t.reply ≡ Some reply
  pub text : reply.text.items ≡ e.reply
  pub stays : reply.stays ≡ e.stays
  pub last : MayStay e.asked e.stays
  pub empty : t.output.items ≡ []

-- within a round these calls were made for the connection: one at most
abbrev pub Pends : List DeskCall → Talk → Type 0
Pends [] t = t.reply ≡ None
Pends (e ∷ []) t = HoldsReply e t
Pends (e ∷ f ∷ more) t = ⊥

-- a request waits whose reply may be made
abbrev pub is_ready : Talk → Bool
is_ready t = is_none t.reply && length t.output.items == 0 && is_some t.waiting

-- The desk answered what waits, which is used up or waits on. Where a round may be lost it waits on, and the desk keeps what it kept.
pub record AnswersWaiting {S : Type 0} (D : Conduct S) (desk later : S) (t next : Talk) : Type 0 where
  pub asked : Beginning
  pub reply : Reply
  pub waits : t.waiting ≡ Some asked
  pub silent : t.reply ≡ None
  pub empty : t.output.items ≡ []
  pub answered : D.answers desk asked reply.text.items reply.stays later
  pub last : MayStay asked reply.stays
  pub held : next ≡ record t { waiting = next.waiting; reply = Some reply }
  pub back : D.may_lose desk ≡ true → next.waiting ≡ t.waiting
  pub on : KeepsUntilSettled D desk later

-- the desk answered what waits, where its reply may be made; or it may not, and nothing changed
abbrev pub AsksDesk : {S : Type 0} → Conduct S → S → S → Talk → Talk → Bool → Type 0
AsksDesk D desk later t next true = AnswersWaiting D desk later t next
AsksDesk D desk later t next false = (is_ready t ≡ false) × (later ≡ desk) × (next ≡ t)

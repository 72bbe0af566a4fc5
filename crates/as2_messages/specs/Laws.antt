-- A text begins with one thing at most: a request and what follows it, or a refusal, or it is open.
use Rattle.std.specs.Prelude.{◌≡◌, ℕ, List}
use Rattle.as2_exchange.specs.declared.answer.HttpAnswer.{HttpAnswer}
use Rattle.as2_messages.specs.Replies.{IsReply}
use Rattle.as2_messages.specs.Requests.{BeginsRequest, BeginsNoRequest, IsOpen}
use Rattle.as2_messages.specs.declared.framing.Refused.{Refused}
use Rattle.as2_messages.specs.declared.request.Request.{Request}
use Rattle.as2_messages.specs.declared.reply.Form.{Form}

-- two requests that a text begins with are one, and so is what follows
abbrev pub BeginsWithOne : Type 0
BeginsWithOne = (text : List ℕ) (r q : Request) (rest other : List ℕ) → BeginsRequest text r rest → BeginsRequest text q other → (r ≡ q) × (rest ≡ other)

-- a text is refused in one way
abbrev pub RefusesInOneWay : Type 0
RefusesInOneWay = (text : List ℕ) (refused other : Refused) → BeginsNoRequest text refused → BeginsNoRequest text other → refused ≡ other

-- a text that begins with a request isn't refused
abbrev pub NeverRefusesRequests : Type 0
NeverRefusesRequests = (text : List ℕ) (r : Request) (rest : List ℕ) (refused : Refused) → BeginsRequest text r rest → ¬ (BeginsNoRequest text refused)

-- a text that begins with a request isn't open
abbrev pub NeverOpensRequests : Type 0
NeverOpensRequests = (text : List ℕ) (r : Request) (rest : List ℕ) → BeginsRequest text r rest → ¬ (IsOpen text)

-- a text that is refused isn't open
abbrev pub NeverOpensRefused : Type 0
NeverOpensRefused = (text : List ℕ) (refused : Refused) → BeginsNoRequest text refused → ¬ (IsOpen text)

-- an answer has one reply at a moment
abbrev pub RepliesInOneWay : Type 0
RepliesInOneWay = (moment : ℕ) (form : Form) (answer : HttpAnswer) (text same : List ℕ) → IsReply moment form answer text → IsReply moment form answer same → text ≡ same

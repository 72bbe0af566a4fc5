-- What is kept of a text whose request isn't whole yet, and what a piece more tells (RFC 9112, section 2.1).
use Rattle.std.specs.Prelude.{◌≡◌, ℕ, ◌<◌, ◌≤◌, Bool, true, false, List, [], ◌++◌, length, drop, Option, Some, None, Ok, IsTrue, ⊤}
use Rattle.as2_framing.specs.BodyPieces.{HoldsBody, IsMissing}
use Rattle.as2_framing.specs.declared.body.BodyFraming.{BodyFraming}
use Rattle.as2_framing.specs.declared.chunked.BodyPiece.{BodyPiece}
use Rattle.as2_framing.specs.declared.chunked.BodyPiece.TheVariants as fed
use Rattle.httparse.specs.Grammar.{RequestHead}
use Rattle.as2_framing.specs.HeadText.{unblank, HasHeadText}
use Rattle.as2_framing.specs.HeadPieces.{HoldsHead}
use Rattle.as2_messages.specs.Requests.{Frames, BeginsRequest, BeginsNoRequest, IsOpen, method_of, target_of, is_head, is_last_request}
use Rattle.as2_messages.specs.declared.framing.Refused.{Refused}
use Rattle.as2_messages.specs.declared.framing.RequestFault.{RequestFault}
use Rattle.as2_messages.specs.declared.framing.RequestFault.TheVariants.{BadChunk, TooLarge}
use Rattle.as2_framing.specs.declared.head_bytes.HeadBytes.{HeadBytes}
use Rattle.as2_messages.specs.declared.request.Request.{Request}
use Rattle.as2_messages.specs.declared.parser.Awaited.{Awaited}
use Rattle.as2_messages.specs.declared.parser.NotAwaited.{NotAwaited}
use Rattle.as2_messages.specs.declared.parser.NotAwaited.TheVariants as not_awaited
use Rattle.as2_messages.specs.declared.parser.Parsed.{Parsed}
use Rattle.as2_messages.specs.declared.parser.Parsed.TheVariants as parsed
use Rattle.as2_messages.specs.declared.parser.RequestParser.{RequestParser}

-- the head of the request stands at the front of the text, then its body as far as it came, and then the rest; that is missing
pub record Awaits (a : Awaited) (text rest : List ℕ) : Type 0 where
  pub head : RequestHead
  pub after : List ℕ
  pub how : BodyFraming
  pub frames : Frames text head a.request.fields after (Ok how)
  pub holds : HoldsBody a.missing how a.request.body after rest
  pub method : a.request.method ≡ method_of head.method
  pub target : a.request.target ≡ target_of head.target
  pub last : a.request.last ≡ is_last_request head.minor a.request.fields

-- the text that a head with these bytes stands in front of is refused so
abbrev pub RefusesHead : List ℕ → NotAwaited → Type 0
RefusesHead head (not_awaited.Refused refused) = (text after : List ℕ) → HasHeadText text head after → BeginsNoRequest text refused
RefusesHead head not_awaited.Memory = ⊤

-- the refusal of a request of that method
abbrev pub refused_for : RequestFault → Awaited → Refused
refused_for reason a = record { reason = reason; to_head = is_head a.request.method }

-- what all of the rest tells of a request that is awaited
abbrev pub FeedsRequest : Awaited → Awaited → List ℕ → List ℕ → BodyPiece → Type 0
FeedsRequest old new text rest fed.Open = IsMissing new.missing × IsOpen text × Awaits new text []
FeedsRequest old new text rest (fed.Whole n) = (IsMissing old.missing → 0 < n) × (n ≤ length rest) × BeginsRequest text new.request (drop n rest)
FeedsRequest old new text rest fed.Bad = BeginsNoRequest text (refused_for BadChunk new)
FeedsRequest old new text rest fed.TooLarge = BeginsNoRequest text (refused_for TooLarge new)

-- the text is less than a request: a part of a head is kept, or a request with a part of its body
abbrev pub HasTakenBy : HeadBytes → Option Awaited → List ℕ → Type 0
HasTakenBy head None text = HoldsHead head text
HasTakenBy head (Some a) text = HoldsHead head [] × IsMissing a.missing × Awaits a text []

abbrev pub HasTaken : RequestParser → List ℕ → Type 0
HasTaken p text = HasTakenBy p.head p.awaited text

-- memory for a request wasn't there
abbrev pub IsSpent : RequestParser → Type 0
IsSpent p = IsTrue p.is_spent

-- the head of a request is there, in the text or with so many bytes of the piece, and the rest of the piece is to be taken
pub record HasHead (head : HeadBytes) (a : Awaited) (text bytes : List ℕ) (from : ℕ) : Type 0 where
  pub empty : HoldsHead head []
  pub some : from ≡ 0 → IsMissing a.missing
  pub awaits : Awaits a (text ++ bytes) (drop from bytes)

-- a request ends with so many bytes of the piece, and nothing of what follows is kept
pub record EndsRequest (p : RequestParser) (text bytes : List ℕ) (r : Request) (n : ℕ) : Type 0 where
  pub some : 0 < n
  pub within : n ≤ length bytes
  pub begins : BeginsRequest (text ++ bytes) r (drop n bytes)
  pub empty : HasTaken p []

-- what the text and the piece behind it begin with
abbrev pub Parses : RequestParser → List ℕ → List ℕ → Parsed → Type 0
Parses p text bytes parsed.Open = IsOpen (text ++ bytes) × HasTaken p (text ++ bytes)
Parses p text bytes (parsed.Request r n) = EndsRequest p text bytes r n
Parses p text bytes (parsed.Refused refused) = BeginsNoRequest (text ++ bytes) refused

-- the text has nothing but CR and LF bytes, or more
abbrev pub TellsBlank : List ℕ → Bool → Type 0
TellsBlank text true = unblank text ≡ []
TellsBlank text false = ¬ (unblank text ≡ [])

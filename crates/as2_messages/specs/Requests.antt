-- The request that a text begins with (RFC 9112, sections 2, 3 and 6), a refusal in its place, or neither yet.
use Rattle.std.specs.Prelude.{◌≡◌, ℕ, ◌<◌, ◌≤◌, Bool, true, false, ◌||◌, List, [], ◌∷◌, ◌++◌, length, map, if◌then◌else◌, ◌==◌, nat_lt, Option, Some, None, Result, Ok, Err, codes}
use Rattle.std.specs.List.{list_any}
use Rattle.std.specs.Str.{bytes_eq}
use Rattle.httparse.specs.Grammar.{RequestHead, ReadsRequest}
use Rattle.httparse.specs.Spans.{name_and_value}
use Rattle.as2_names.specs.Heads.{is_field, field_of, values}
use Rattle.as2_names.specs.Options.{lists}
pub use Rattle.as2_text.specs.ReceiptRequests.{Fields}
use Rattle.as2_framing.specs.HeadText.{HasHeadText, HasNoHeadText, head_limit}
use Rattle.as2_framing.specs.Bodies.{BeginsBody, IsOpenBody}
use Rattle.as2_framing.specs.declared.body.BodyFraming.{BodyFraming}
use Rattle.as2_framing.specs.declared.body.BodyFraming.TheVariants.{Length}
use Rattle.as2_messages.specs.Framing.{IsFaultyBody, coded_framing, content_length, is_chunked}
use Rattle.as2_messages.specs.declared.framing.RequestFault.{RequestFault}
use Rattle.as2_messages.specs.declared.framing.RequestFault.TheVariants.{BadHead, TransferCoding, BadLength, NoLength}
use Rattle.as2_messages.specs.declared.framing.Method.{Method}
use Rattle.as2_messages.specs.declared.framing.Method.TheVariants as method
use Rattle.as2_messages.specs.declared.framing.Target.{Target}
use Rattle.as2_messages.specs.declared.framing.Target.TheVariants as target
use Rattle.as2_messages.specs.declared.framing.Refused.{Refused}
use Rattle.as2_messages.specs.declared.request.Request.{Request}

-- ---- the head

-- these fields behind those, where a head takes each: it has at most 64
abbrev pub fields_behind : Fields → Fields → Option Fields
fields_behind fields [] = Some fields
fields_behind fields (f ∷ more) =
    if is_field f.0 f.1 then (if nat_lt (length fields) 64 then fields_behind (fields ++ field_of f.0 f.1 ∷ []) more else None)
    else None

-- the bytes are the head of a request and nothing else, and its fields are those
abbrev pub IsHead : List ℕ → RequestHead → Fields → Type 0
IsHead bytes head fields = ReadsRequest bytes head [] × (fields_behind [] (map name_and_value head.fields) ≡ Some fields)

-- the method, of those that an answer depends on (RFC 9110, section 9.3)
abbrev pub method_of : List ℕ → Method
method_of bytes =
    if bytes_eq bytes (codes "POST") then method.Post
    else if bytes_eq bytes (codes "HEAD") then method.Head
    else method.Other

-- the target is the station's path, byte for byte
abbrev pub target_of : List ℕ → Target
target_of bytes = if bytes_eq bytes (codes "/as2") then target.Station else target.Other

-- ---- the body

-- how a body without a transfer coding ends, by the method and the values of Content-Length (RFC 9112, section 6.3)
abbrev pub framing_by_lengths : Method → List (List ℕ) → Result BodyFraming RequestFault
framing_by_lengths method.Post [] = Err NoLength
framing_by_lengths method.Head [] = Ok (Length 0)
framing_by_lengths method.Other [] = Ok (Length 0)
framing_by_lengths m (value ∷ []) = content_length value
framing_by_lengths m (value ∷ other ∷ others) = Err BadLength

-- how any body ends, by the version and the values of Transfer-Encoding too
abbrev pub framing_by : ℕ → Method → List (List ℕ) → List (List ℕ) → Result BodyFraming RequestFault
framing_by minor m [] lengths = framing_by_lengths m lengths
framing_by minor m (coding ∷ []) lengths = coded_framing (is_chunked minor coding) lengths
framing_by minor m (coding ∷ other ∷ others) lengths = Err TransferCoding

-- how the body ends that follows a head
abbrev pub body_framing : ℕ → Method → Fields → Result BodyFraming RequestFault
body_framing minor m fields = framing_by minor m (values (codes "transfer-encoding") fields) (values (codes "content-length") fields)

-- no further request is read behind this one: version 1.0, or a Connection field says `close` (RFC 9112, section 9.6)
abbrev pub is_last_request : ℕ → Fields → Bool
is_last_request minor fields = minor == 0 || list_any (lists (codes "close")) (values (codes "connection") fields)

-- ---- requests

-- a whole head stands at the front of the text, and then what follows; the head says that of its body
pub record Frames (text : List ℕ) (head : RequestHead) (fields : Fields) (after : List ℕ) (framing : Result BodyFraming RequestFault) : Type 0 where
  pub bytes : List ℕ
  pub found : HasHeadText text bytes after
  pub reads : IsHead bytes head fields
  pub framed : body_framing head.minor (method_of head.method) fields ≡ framing

-- the text begins with that request, and then comes the rest
pub record BeginsRequest (text : List ℕ) (r : Request) (rest : List ℕ) : Type 0 where
  pub head : RequestHead
  pub after : List ℕ
  pub how : BodyFraming
  pub frames : Frames text head r.fields after (Ok how)
  pub begins : BeginsBody how after r.body rest
  pub method : r.method ≡ method_of head.method
  pub target : r.target ≡ target_of head.target
  pub last : r.last ≡ is_last_request head.minor r.fields

-- a head that can't be read
abbrev pub bad_head : Refused
bad_head = record { reason = BadHead; to_head = false }

-- the method is HEAD, whose reply has no body (RFC 9110, section 9.3.2)
abbrev pub is_head : Method → Bool
is_head method.Head = true
is_head method.Post = false
is_head method.Other = false

-- The text begins with no request, however it goes on. No head ends within its limit, or the bytes up to the first empty line are
-- no head. Or the framing is refused, or what came of the body.
pub data BeginsNoRequest (text : List ℕ) (refused : Refused) : Type 0 where
  too_long : (none : HasNoHeadText text) (long : head_limit ≤ length text) (is : refused ≡ bad_head) → BeginsNoRequest text refused
  no_head : (bytes after : List ℕ) (found : HasHeadText text bytes after) (never : (head : RequestHead) (fields : Fields) → ¬ (IsHead bytes head fields)) (is : refused ≡ bad_head) → BeginsNoRequest text refused
  framing : (head : RequestHead) (fields : Fields) (after : List ℕ) (frames : Frames text head fields after (Err refused.reason)) (is : refused.to_head ≡ is_head (method_of head.method)) → BeginsNoRequest text refused
  faulty_body : (head : RequestHead) (fields : Fields) (after : List ℕ) (how : BodyFraming) (frames : Frames text head fields after (Ok how)) (faulty : IsFaultyBody how after refused.reason)
      (is : refused.to_head ≡ is_head (method_of head.method)) → BeginsNoRequest text refused

-- the text ends before its first request does: before its head, or before its body
pub data IsOpen (text : List ℕ) : Type 0 where
  in_head : (none : HasNoHeadText text) (short : length text < head_limit) → IsOpen text
  in_body : (head : RequestHead) (fields : Fields) (after : List ℕ) (how : BodyFraming) (frames : Frames text head fields after (Ok how)) (undecided : IsOpenBody how after) → IsOpen text

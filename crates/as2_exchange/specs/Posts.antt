-- Posts as they are read: what one is, and when it repeats an earlier one (RFC 4130, sections 5 to 7).
use Rattle.std.specs.Prelude.{◌≡◌, ℕ, Bool, true, false, ◌&&◌, ◌||◌, not, Option, Some, None, is_some, nat_lt, if◌then◌else◌}
use Rattle.std.specs.Str.{bytes_eq}
use Rattle.as2_exchange.specs.Agreement.{Text, Alg, Md5, Sha1, Sha256, Agreements, is_organization, partner_of}
use Rattle.as2_exchange.specs.Readings.{Head, MediaType, Receipt, ReceiptAsk, ReceiptDelivery, NoReceipt, Sync, Async, Outcome as WhatBecame, Processed, DecryptionFailed, DecompressionFailed, AuthenticationFailed, UnsupportedFormat, UnsupportedMicAlgorithms, Mic, names_of, version_fits, type_of, is_report, report_in, id_of, ask_of, how_of, document_outcome, mic_for}
use Rattle.as2_exchange.specs.State.{Posted, Digests}
use Rattle.as2_exchange.specs.Events.{Line, BadNames, BadVersion, UnknownNames, BadType, UnreadableReceipt, BadId, BadAsk}

-- a receipt as it came: under these names, with this content type and body, when these digests were known
pub record ReceivedReceipt : Type 0 where
  pub known : Digests
  pub from : Text
  pub to : Text
  pub receipt : Receipt
  pub content_type : Text
  pub body : Text

-- what a post is: refused by a line, a receipt, or a document
pub data PostReading : Type 0 where
  Refuses : Line → PostReading
  IsReceipt : ReceivedReceipt → PostReading
  IsDocument : Posted → PostReading

-- goes on with what is there; else the post is refused
abbrev pub needs : {X : Type 0} → Option X → Line → (X → PostReading) → PostReading
needs None line rest = Refuses line
needs (Some x) line rest = rest x

-- the document of a post, with what is made of it where these digests are known
abbrev pub posted_document : Digests → Text × Text → Text → MediaType × Text → Head → Text → ReceiptAsk → Posted
posted_document known names id type head content ask =
    let became = document_outcome known type.0 head ask in
    record {
      sender = names.0;
      receiver = names.1;
      id = id;
      content_type = type.1;
      content = content;
      outcome = became;
      how = how_of head ask;
      mic = mic_for known became ask content;
    }

-- the receipt that came under these names, with this content type and body
abbrev pub received_receipt : Digests → Text × Text → MediaType × Text → Text → Receipt → ReceivedReceipt
received_receipt known names type body receipt = record { known = known; from = names.0; to = names.1; receipt = receipt; content_type = type.1; body = body }

-- a post of a report: it needs no identifier and asks for nothing
abbrev pub report_posted : Digests → Text × Text → MediaType × Text → Text → PostReading
report_posted known names type body = needs (report_in type.0 body) UnreadableReceipt λ receipt. IsReceipt (received_receipt known names type body receipt)

-- any other post
abbrev pub document_posted : Digests → Text × Text → MediaType × Text → Head → Text → PostReading
document_posted known names type head body =
    needs (id_of head) BadId λ id.
    needs (ask_of head) BadAsk λ ask.
    IsDocument (posted_document known names id type head body ask)

-- a post whose names, version and content type are in order
abbrev pub read_further : Digests → Text × Text → MediaType × Text → Head → Text → PostReading
read_further known names type head body = if is_report type.0 then report_posted known names type body else document_posted known names type head body

-- a post as it is read where these digests are known: the first line of the table of answers that fits
unfoldable pub post_reading : Agreements → Digests → Head → Text → PostReading
post_reading A known head body =
    needs (names_of head) BadNames λ names.
    if not (version_fits head) then Refuses BadVersion
    else if not (is_organization A names.1 && is_some (partner_of A names.0)) then Refuses UnknownNames
    else needs (type_of head) BadType λ type.
    read_further known names type head body

-- ---- repeats

-- both are the same outcome
abbrev pub outcome_eq : WhatBecame → WhatBecame → Bool
outcome_eq Processed Processed = true
outcome_eq DecryptionFailed DecryptionFailed = true
outcome_eq DecompressionFailed DecompressionFailed = true
outcome_eq AuthenticationFailed AuthenticationFailed = true
outcome_eq UnsupportedFormat UnsupportedFormat = true
outcome_eq UnsupportedMicAlgorithms UnsupportedMicAlgorithms = true
outcome_eq a b = false

-- both ask for a receipt in the same way, and later to the same address as spelled
abbrev pub how_eq : ReceiptDelivery → ReceiptDelivery → Bool
how_eq NoReceipt NoReceipt = true
how_eq Sync Sync = true
how_eq (Async url) (Async other) = bytes_eq url other
how_eq a b = false

-- both are the same digest
abbrev pub alg_eq : Alg → Alg → Bool
alg_eq Md5 Md5 = true
alg_eq Sha1 Sha1 = true
alg_eq Sha256 Sha256 = true
alg_eq a b = false

-- neither stands, or both are of the same digest and text
abbrev pub mic_eq : Option Mic → Option Mic → Bool
mic_eq None None = true
mic_eq (Some a) (Some b) = alg_eq a.digest b.digest && bytes_eq a.text b.text
mic_eq a b = false

-- the same was posted, the identifier's spelling too (`Date` isn't looked at)
pub record ArePostedAlike (p q : Posted) : Type 0 where
  pub sender : p.sender ≡ q.sender
  pub receiver : p.receiver ≡ q.receiver
  pub id : p.id ≡ q.id
  pub content_type : p.content_type ≡ q.content_type
  pub content : p.content ≡ q.content
  pub how : p.how ≡ q.how

-- and as a test
abbrev pub same_post : Posted → Posted → Bool
same_post p q =
    bytes_eq p.sender q.sender && (bytes_eq p.receiver q.receiver
    && (bytes_eq p.id q.id
    && (bytes_eq p.content_type q.content_type && (bytes_eq p.content q.content && how_eq p.how q.how))))

-- the same was made of it
abbrev pub same_result : Posted → Posted → Bool
same_result p q = outcome_eq p.outcome q.outcome && mic_eq p.mic q.mic

-- A post q repeats entry n, whose document is p (RFC 4130, section 5.5): the same was posted, and the same was made of it. What was
-- made of an entry below the origin is left out, since fewer digests were known then.
abbrev pub repeats : ℕ → ℕ → Posted → Posted → Bool
repeats origin n p q = same_post p q && (nat_lt n origin || same_result p q)

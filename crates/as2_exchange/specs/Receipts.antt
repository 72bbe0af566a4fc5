-- Receipts as they come, posted or in the answer to a try: whom one is for, what an answer brings, and what is kept.
use Rattle.std.specs.Prelude.{ℕ, Bool, false, ◌&&◌, Option, None, option_map, option_and_then, nat_lt, nat_le, if◌then◌else◌}
use Rattle.std.specs.Str.{bytes_eq}
use Rattle.as2_exchange.specs.Agreement.{Text}
use Rattle.as2_exchange.specs.Readings.{Head, names_of, type_of, report_in, named_by, value_of}
use Rattle.as2_exchange.specs.State.{Evidence, Digests}
use Rattle.as2_exchange.specs.Events.{TryAnswer, NoAnswer, Reply}
use Rattle.as2_exchange.specs.Posts.{ReceivedReceipt, received_receipt}

-- The receipt is for the document of this organization, partner and identifier: it bears the document's names exchanged
-- (RFC 4130, section 6.2), and names an identifier of the same value (RFC 8098, section 3.2.5).
abbrev pub bears : ReceivedReceipt → Text → Text → Text → Bool
bears r organization partner id = bytes_eq organization r.to && (bytes_eq partner r.from && bytes_eq (value_of id) (named_by r.receipt))

-- a status of success (RFC 9110, section 15.3)
abbrev pub is_success : ℕ → Bool
is_success status = nat_le 200 status && nat_lt status 300

-- the readable receipt that a head and a body are
abbrev pub receipt_in : Digests → Head → Text → Option ReceivedReceipt
receipt_in known head body =
    option_and_then (λ names. option_and_then (λ type. option_map (received_receipt known names type body) (report_in type.0 body)) (type_of head)) (names_of head)

-- the readable receipt in an answer of success
abbrev pub receipt_in_answer : Digests → TryAnswer → Option ReceivedReceipt
receipt_in_answer known NoAnswer = None
receipt_in_answer known (Reply status head body) = if is_success status then receipt_in known head body else None

-- an answer of success
abbrev pub is_delivery : TryAnswer → Bool
is_delivery NoAnswer = false
is_delivery (Reply status head body) = is_success status

-- what is kept of a receipt that settles a document at this moment
abbrev pub evidence_of : ℕ → ReceivedReceipt → Evidence
evidence_of m r = record { moment = m; content_type = r.content_type; body = r.body }

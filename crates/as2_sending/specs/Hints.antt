-- Why a try failed: one line for whoever looks on, behind the try's own line.
use Rattle.std.specs.Prelude.{ℕ, List, [], ◌∷◌, ◌++◌, codes, decimal, Option, Some, None, Result, Ok, Err, if◌then◌else◌}
use Rattle.as2_names.specs.Heads.{values}
use Rattle.as2_media.specs.Kinds.{kind_of}
use Rattle.as2_media.specs.MediaTypes.{Media, media_type_reading}
use Rattle.as2_media.specs.declared.fault.TypeFault.{TypeFault}
use Rattle.as2_media.specs.declared.kind.Kind.{Kind}
use Rattle.as2_media.specs.declared.kind.Kind.TheVariants as kind
use Rattle.as2_exchange.specs.Agreement.{Text}
use Rattle.as2_exchange.specs.Receipts.{is_success}
use Rattle.as2_exchange.specs.declared.event.TryAnswer.{TryAnswer}
use Rattle.as2_exchange.specs.declared.event.TryAnswer.TheVariants.{NoAnswer, Reply}
use Rattle.as2_exchange.specs.declared.next.Next.{Next}
use Rattle.as2_sending.specs.Lines.{subject}
use Rattle.as2_sending.specs.declared.hints.Why.{Why}
use Rattle.as2_sending.specs.declared.hints.Why.TheVariants as why
use Rattle.as2_sending.specs.declared.links.LinkFault.{LinkFault}
use Rattle.as2_sending.specs.declared.links.LinkFault.TheVariants as link
use Rattle.as2_station.specs.declared.said.Became.{Became}
use Rattle.as2_station.specs.declared.said.Became.TheVariants as became

-- the kind of body that a media type tells, where the text was one
abbrev pub kind_if : Result Media TypeFault → Option Kind
kind_if (Ok media) = Some (kind_of media)
kind_if (Err fault) = None

abbrev pub kind_read : List ℕ → Option Kind
kind_read text = kind_if (media_type_reading text)

-- .. of the types that a head gives: bytes of no known type where it gives none (RFC 2046, section 4.5.1)
abbrev pub kind_among : List (List ℕ) → Option Kind
kind_among [] = Some kind.Document
kind_among (text ∷ []) = kind_read text
kind_among (first ∷ second ∷ others) = None

-- why a try failed that got this
abbrev pub why_of : TryAnswer → LinkFault → Why
why_of NoAnswer fault = why.NoAnswer fault
why_of (Reply status head body) fault = if is_success status then why.NoReceipt (kind_among (values (codes "content-type") head)) else why.Status status

abbrev pub link_words : LinkFault → Text
link_words link.UnknownHost = codes "the host isn't known"
link_words link.ConnectionRefused = codes "connection refused"
link_words link.NoConnection = codes "no connection"
link_words (link.Silent seconds) = codes "no byte in time"
link_words (link.Slow seconds) = codes "no whole answer in time"
link_words link.Broken = codes "the connection broke"
link_words link.NoAnswer = codes "no whole answer of HTTP"

abbrev pub kind_words : Option Kind → Text
kind_words None = codes "no media type"
kind_words (Some kind.Document) = codes "no report"
kind_words (Some kind.Enveloped) = codes "application/pkcs7-mime"
kind_words (Some kind.Compressed) = codes "application/pkcs7-mime"
kind_words (Some kind.Signed) = codes "multipart/signed"
kind_words (Some kind.Report) = codes "a report for something else"

-- `hint: `, what was tried (in words), and more words
abbrev pub hint_line : Text → Text → Text → Text
hint_line tried before words = codes "hint: " ++ (tried ++ (before ++ (words ++ codes "\n")))

-- of a fault of the link
abbrev pub link_hint : Text → LinkFault → Text
link_hint tried (link.Silent seconds) = codes "hint: " ++ (tried ++ (codes ": no byte for " ++ (decimal seconds ++ codes " s\n")))
link_hint tried (link.Slow seconds) = codes "hint: " ++ (tried ++ (codes ": no whole answer in " ++ (decimal seconds ++ codes " s\n")))
link_hint tried fault = hint_line tried (codes ": ") (link_words fault)

-- the line that says why a try failed
abbrev pub hint : Text → Why → Text
hint tried (why.NoAnswer fault) = link_hint tried fault
hint tried (why.Status status) = hint_line tried (codes ": status ") (decimal status)
hint tried (why.NoReceipt kind) = hint_line tried (codes ": the answer is no receipt: ") (kind_words kind)

-- nothing, where it didn't fail
abbrev pub hint_if : Next → Became → Why → Text
hint_if what became.TryFailed why = hint (subject what) why
hint_if what other why = []

-- The text of a reply (RFC 9112, section 4): a status line, the date, the fields of the body, and the body.
use Rattle.std.specs.Prelude.{◌≡◌, ℕ, Bool, List, [], ◌++◌, length, if◌then◌else◌, not, ◌==◌, unwrap_or, codes, decimal}
use Rattle.http.specs.StatusCode.{reason_phrase}
use Rattle.httpdate.specs.Date.{unix_secs, date_text}
use Rattle.httpdate.specs.declared.date.HttpDate.{HttpDate as Date}
use Rattle.as2_mdn.specs.Reports.{crlf_line, head_fields_of}
use Rattle.as2_exchange.specs.Lines.{line_text}
use Rattle.as2_exchange.specs.declared.answer.HttpAnswer.{HttpAnswer}
use Rattle.as2_exchange.specs.declared.answer.HttpBody.{HttpBody}
use Rattle.as2_exchange.specs.declared.answer.HttpBody.TheVariants.{Nothing, Words, Report}
use Rattle.as2_exchange.specs.declared.answer.Line.{Line}
use Rattle.as2_exchange.specs.declared.answer.Line.TheVariants.{BadRequestHead, UnsupportedCoding, BadContentLength, BadChunkedBody, BodyTooLarge, LengthRequired}
use Rattle.as2_messages.specs.declared.framing.RequestFault.{RequestFault}
use Rattle.as2_messages.specs.declared.framing.RequestFault.TheVariants.{BadHead, TransferCoding, BadLength, BadChunk, TooLarge, NoLength}
use Rattle.as2_messages.specs.declared.reply.Form.{Form}

-- the text is the date of that moment, in seconds since 1970 (RFC 9110, section 5.6.7)
abbrev pub IsDateOf : ℕ → List ℕ → Type 0
IsDateOf moment text = (d : Date) × (unix_secs d ≡ moment) × (text ≡ date_text d)

-- the reason phrase of a status code (RFC 9110, section 15)
abbrev pub phrase : ℕ → List ℕ
phrase status = unwrap_or (reason_phrase status) []

-- the bytes of a body
abbrev pub content : HttpBody → List ℕ
content Nothing = []
content (Words line) = line_text line ++ codes "\n"
content (Report out bytes) = bytes

-- the head fields of a line of n bytes
abbrev pub line_fields : ℕ → List ℕ
line_fields n = crlf_line (codes "Content-Type: text/plain\r\nContent-Length: ") (decimal n)

-- the head fields that a body has
abbrev pub body_fields : HttpBody → List ℕ
body_fields Nothing = codes "Content-Length: 0\r\n"
body_fields (Words line) = line_fields (length (content (Words line)))
body_fields (Report out bytes) = head_fields_of out (length bytes)

abbrev pub status_line : ℕ → List ℕ
status_line status = codes "HTTP/1.1 " ++ decimal status ++ codes " " ++ phrase status ++ codes "\r\n"

-- what stands before the body's fields: the status line, the date, `Connection: close` where the stream ends with a refusal, and the one method that is allowed with 405
abbrev pub reply_start : List ℕ → Bool → ℕ → List ℕ
reply_start date closes status =
    status_line status
    ++ crlf_line (codes "Date: ") date
    ++ (if closes then codes "Connection: close\r\n" else [])
    ++ (if status == 405 then codes "Allow: POST\r\n" else [])

-- a reply; its body is left out where the request's method is HEAD
abbrev pub reply : List ℕ → Form → HttpAnswer → List ℕ
reply date form answer =
    reply_start date form.closes answer.status
    ++ body_fields answer.body
    ++ codes "\r\n"
    ++ (if not form.to_head then content answer.body else [])

-- the text is that reply at that moment
abbrev pub IsReply : ℕ → Form → HttpAnswer → List ℕ → Type 0
IsReply moment form answer text = (date : List ℕ) × IsDateOf moment date × (text ≡ reply date form answer)

-- the line that says why no request begins there
abbrev pub refusal_line : RequestFault → Line
refusal_line BadHead = BadRequestHead
refusal_line TransferCoding = UnsupportedCoding
refusal_line BadLength = BadContentLength
refusal_line BadChunk = BadChunkedBody
refusal_line TooLarge = BodyTooLarge
refusal_line NoLength = LengthRequired

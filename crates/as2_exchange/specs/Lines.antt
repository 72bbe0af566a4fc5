-- The lines that answer requests, each with its status and its text.
use Rattle.std.specs.Prelude.{ℕ, List, codes}
use Rattle.as2_mdn.specs.Outcomes.{outcome_text}
use Rattle.as2_exchange.specs.declared.answer.Answer.{Answer}
use Rattle.as2_exchange.specs.declared.answer.Answer.TheVariants.{Http}
use Rattle.as2_exchange.specs.declared.answer.HttpAnswer.{HttpAnswer}
use Rattle.as2_exchange.specs.declared.answer.HttpBody.{HttpBody}
use Rattle.as2_exchange.specs.declared.answer.HttpBody.TheVariants.{Words}
use Rattle.as2_exchange.specs.declared.answer.Line.{Line}
use Rattle.as2_exchange.specs.declared.answer.Line.TheVariants.{BadNames, BadVersion, UnknownNames, BadType, UnreadableReceipt, NoSuchMessage, BadId, BadAsk, IdUsedBefore, NotProcessed, BadRequestHead, UnsupportedCoding, BadContentLength, BadChunkedBody, BodyTooLarge, LengthRequired, OnlyPost, NoSuchPath, StoreFailed, StoreFull}

-- the status that goes with it (RFC 9110, section 15)
abbrev pub status_of : Line → ℕ
status_of UnknownNames = 403
status_of NoSuchMessage = 404
status_of NoSuchPath = 404
status_of OnlyPost = 405
status_of IdUsedBefore = 409
status_of LengthRequired = 411
status_of BodyTooLarge = 413
status_of UnsupportedCoding = 501
status_of StoreFailed = 503
status_of StoreFull = 503
status_of BadNames = 400
status_of BadVersion = 400
status_of BadType = 400
status_of UnreadableReceipt = 400
status_of BadId = 400
status_of BadAsk = 400
status_of BadRequestHead = 400
status_of BadContentLength = 400
status_of BadChunkedBody = 400
status_of (NotProcessed outcome) = 400

-- the answer to a post
abbrev pub http : ℕ → HttpBody → Answer
http status body = Http (record { status = status; body = body })

-- the answer that it is
abbrev pub refusal : Line → HttpAnswer
refusal line = record { status = status_of line; body = Words line }

abbrev pub line_text : Line → List ℕ
line_text BadNames = codes "bad AS2 names"
line_text BadVersion = codes "bad AS2-Version"
line_text UnknownNames = codes "unknown AS2 names"
line_text BadType = codes "bad Content-Type"
line_text UnreadableReceipt = codes "unreadable receipt"
line_text NoSuchMessage = codes "no such message"
line_text BadId = codes "bad Message-ID"
line_text BadAsk = codes "bad receipt request"
line_text IdUsedBefore = codes "message identifier used before"
line_text (NotProcessed outcome) = outcome_text outcome
line_text BadRequestHead = codes "bad request head"
line_text UnsupportedCoding = codes "transfer coding not supported"
line_text BadContentLength = codes "bad Content-Length"
line_text BadChunkedBody = codes "bad chunk"
line_text BodyTooLarge = codes "body too large"
line_text LengthRequired = codes "length required"
line_text OnlyPost = codes "only POST"
line_text NoSuchPath = codes "no such path"
line_text StoreFailed = codes "store fault"
line_text StoreFull = codes "store is full"

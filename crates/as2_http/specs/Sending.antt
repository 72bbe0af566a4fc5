-- A reply is written, whole or in part.
use Rattle.std.specs.Prelude.{◌≡◌, ℕ, List, [], ◌++◌, Option, Result, Ok, Err, true, false}
use Rattle.std.specs.Io.KnownBytes.{Appends}
use Rattle.as2_exchange.specs.declared.answer.HttpAnswer.{HttpAnswer}
use Rattle.as2_messages.specs.Replies.{IsReply}
use Rattle.as2_messages.specs.Requests.{is_head}
use Rattle.as2_messages.specs.declared.request.Request.{Request}
use Rattle.as2_messages.specs.declared.framing.Refused.{Refused}
use Rattle.as2_messages.specs.declared.reply.Form.{Form}
use Rattle.as2_http.specs.declared.sending.SendFault.{SendFault}
use Rattle.as2_http.specs.declared.sending.SendFault.TheVariants as fault

-- the form of the reply to a request
abbrev pub form_of : Request → Form
form_of r = record { closes = false; to_head = is_head r.method }

-- the form of the reply to bytes that no request begins with
abbrev pub refusal_form : Refused → Form
refusal_form refused = record { closes = true; to_head = refused.to_head }

-- the first of the bytes are written behind the others
pub record AppendsPart (before after : Option (List ℕ)) (bytes : List ℕ) : Type 0 where
  pub part : List ℕ
  pub missing : List ℕ
  pub cut : bytes ≡ part ++ missing
  pub appended : Appends before after part

-- the answer's reply is written; or the first of its bytes are, where a write failed; or none is, where memory was wanting
abbrev pub WritesReply : {U : Type 0} → ℕ → Form → HttpAnswer → Option (List ℕ) → Option (List ℕ) → Result U SendFault → Type 0
WritesReply moment form answer before after (Ok done) = (text : List ℕ) × IsReply moment form answer text × Appends before after text
WritesReply moment form answer before after (Err fault.Write) = (text : List ℕ) × IsReply moment form answer text × AppendsPart before after text
WritesReply moment form answer before after (Err fault.Memory) = Appends before after []

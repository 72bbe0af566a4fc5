-- The answers to posts, each as the exchange machine has it; and what is asked of an entry that they speak of.
use Rattle.std.specs.Prelude.{Bool, ◌&&◌, if◌then◌else◌, List, ℕ, Option, None, Some, true}
use Rattle.std.specs.Str.{bytes_eq}
use Rattle.as2_mic.specs.Mic.{mic}
use Rattle.as2_mdn.specs.declared.report.ReceiptMic.{ReceiptMic}
use Rattle.as2_exchange.specs.declared.answer.Line.TheVariants.{NotProcessed}
use Rattle.as2_mdn.specs.declared.report.ReceiptOut.{ReceiptOut}
use Rattle.as2_mdn.specs.declared.outcome.Outcome.{Outcome}
use Rattle.as2_exchange.specs.Readings.{is_async, is_processed, receipt_bytes}
use Rattle.as2_exchange.specs.declared.inbox.InEntry.{InEntry}
use Rattle.as2_exchange.specs.declared.inbox.Posted.{Posted}
use Rattle.as2_exchange.specs.declared.answer.HttpAnswer.{HttpAnswer}
use Rattle.as2_exchange.specs.declared.answer.HttpBody.TheVariants.{Nothing, Report}
use Rattle.as2_exchange.specs.Recording.{is_done_with}
use Rattle.as2_exchange.specs.Lines.{refusal}

-- the answer that carries a receipt
abbrev pub receipt_answer : ReceiptOut → HttpAnswer
receipt_answer out = record { status = 200; body = Report out (receipt_bytes out) }

-- the answer where no receipt is asked for
abbrev pub untold : Outcome → HttpAnswer
untold outcome = if is_processed outcome then record { status = 200; body = Nothing } else refusal (NotProcessed outcome)

-- the receipt of the entry is queued again by a repeat of its document
abbrev pub is_requeued : InEntry → Bool
is_requeued e = is_async e.posted.how && is_done_with e.receipt_stage e.attempt

-- the MIC, where there is one, is that of the content
abbrev pub is_mic_of : List ℕ → Option ReceiptMic → Bool
is_mic_of content None = true
is_mic_of content (Some kept) = bytes_eq (mic kept.digest content) kept.text

-- the document that is kept is the one that came, as far as its MIC tells (RFC 4130, section 7.3.1)
abbrev pub has_kept_mic : Posted → Bool
has_kept_mic p = is_mic_of p.content p.mic

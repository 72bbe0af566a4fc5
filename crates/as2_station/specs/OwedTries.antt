-- Why no try of a receipt may begin, what one makes of it, and how one ends.
use Rattle.std.specs.Prelude.{ℕ, ◌+◌, Bool, true, false, not, Option, Some, None, nat_le, if◌then◌else◌}
use Rattle.as2_exchange.specs.Agreement.{Partner}
use Rattle.as2_exchange.specs.OwedReceipts.{is_pending}
use Rattle.as2_exchange.specs.Tries.{is_early, is_last}
use Rattle.as2_exchange.specs.declared.answer.Answer.{Answer}
use Rattle.as2_exchange.specs.declared.answer.Answer.TheVariants.{Delivered, TryFailed}
use Rattle.as2_exchange.specs.declared.answer.Refusal.{Refusal}
use Rattle.as2_exchange.specs.declared.answer.Refusal.TheVariants.{AllSettled, NotDue, TriesUsed}
use Rattle.as2_exchange.specs.declared.attempt.Attempt.TheVariants.{Idle, Last, Running, Used}
use Rattle.as2_exchange.specs.declared.inbox.InEntry.{InEntry}
use Rattle.as2_exchange.specs.declared.inbox.ReceiptStage.TheVariants.{Sent}
use Rattle.as2_records.specs.declared.progress.ReceiptProgress.{ReceiptProgress}

-- none is to be sent; its tries are used up; or its moment hasn't come
abbrev pub receipt_try_refusal : Partner → InEntry → ℕ → Option Refusal
receipt_try_refusal p e m =
    if not (is_pending e.receipt_stage) then Some AllSettled
    else if nat_le p.max_tries e.tries then Some TriesUsed
    else if is_early m e.due then Some NotDue
    else None

-- how far it has come once a try has begun
abbrev pub tried_receipt : Partner → InEntry → ℕ → ReceiptProgress
tried_receipt p e m =
    if nat_le p.max_tries (e.tries + 1)
    then record { receipt_stage = e.receipt_stage; tries = e.tries + 1; attempt = Last; due = None }
    else record { receipt_stage = e.receipt_stage; tries = e.tries + 1; attempt = Running; due = Some (m + p.retry_seconds) }

-- how far it has come once a try has ended, by an answer of success or without one
abbrev pub ended_receipt : Bool → Partner → InEntry → ℕ → ReceiptProgress
ended_receipt true p e m = record { receipt_stage = Sent; tries = e.tries; attempt = Idle; due = None }
ended_receipt false p e m =
    if is_last e.attempt
    then record { receipt_stage = e.receipt_stage; tries = e.tries; attempt = Used; due = None }
    else record { receipt_stage = e.receipt_stage; tries = e.tries; attempt = Idle; due = Some (m + p.retry_seconds) }

-- what is answered then
abbrev pub end_answer : Bool → Answer
end_answer true = Delivered
end_answer false = TryFailed

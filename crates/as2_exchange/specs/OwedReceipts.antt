-- Receipts that are sent by a post of their own, try by try (RFC 4130, section 7.1; tries and moments are this station's own
-- rules).
use Rattle.std.specs.Prelude.{ℕ, ◌+◌, Bool, true, false, not, Some, None, nat_le, if◌then◌else◌}
use Rattle.as2_exchange.specs.Agreement.{Agreements}
use Rattle.as2_exchange.specs.Detail.{Attempt, Idle, Running, Last, Used, ReceiptStage, Pending, Sent}
use Rattle.as2_exchange.specs.Readings.{receipt_job}
use Rattle.as2_exchange.specs.State.{InEntry}
use Rattle.as2_exchange.specs.Events.{TryAnswer, NotDue, AllSettled, NoOpenTry, TriesUsedUp, Answer, Job, Delivered, TryFailed, AlreadySettled, Refused}
use Rattle.as2_exchange.specs.Receipts.{is_delivery}
use Rattle.as2_exchange.specs.Recording.{receipt_out}
use Rattle.as2_exchange.specs.Tries.{where_agreed, is_early, is_last}

-- the receipt is still to be sent
abbrev pub is_pending : ReceiptStage → Bool
is_pending Pending = true
is_pending other = false

-- a try of a receipt begins
unfoldable pub begun_receipt : Agreements → ℕ → InEntry → Answer × InEntry
begun_receipt A m e =
    where_agreed A e.posted.receiver e.posted.sender e λ p.
    if not (is_pending e.receipt_stage) then (Refused AllSettled, e)
    else if nat_le p.max_tries e.tries then (Refused TriesUsedUp, e)
    else if is_early m e.due then (Refused NotDue, e)
    else (
      Job (receipt_job e.posted.how (receipt_out A e.number e.posted)),
      if nat_le p.max_tries (e.tries + 1)
          then record e { tries = e.tries + 1; attempt = Last; due = None }
          else record e { tries = e.tries + 1; attempt = Running; due = Some (m + p.retry_seconds) },
    )

-- it has no open try
abbrev pub is_shut : Attempt → Bool
is_shut Idle = true
is_shut Used = true
is_shut other = false

-- the outcome of a receipt's try
unfoldable pub closed_receipt : Agreements → TryAnswer → ℕ → InEntry → Answer × InEntry
closed_receipt A answer m e =
    where_agreed A e.posted.receiver e.posted.sender e λ p.
    if not (is_pending e.receipt_stage) then (AlreadySettled, e)
    else if is_shut e.attempt then (Refused NoOpenTry, e)
    else if is_delivery answer then (Delivered, record e { receipt_stage = Sent; attempt = Idle; due = None })
    else if is_last e.attempt then (TryFailed, record e { attempt = Used; due = None })
    else (TryFailed, record e { attempt = Idle; due = Some (m + p.retry_seconds) })

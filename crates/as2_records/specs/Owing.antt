-- A receipt that is owed comes further.
use Rattle.std.specs.Prelude.{ℕ, Option, Some}
use Rattle.as2_exchange.specs.State.{State, change_received}
use Rattle.as2_exchange.specs.declared.inbox.InEntry.{InEntry}
use Rattle.as2_records.specs.declared.progress.ReceiptProgress.{ReceiptProgress}

-- the entry once its receipt has come so far
abbrev pub with_receipt_progress : ReceiptProgress → InEntry → InEntry
with_receipt_progress p e = record e { receipt_stage = p.receipt_stage; tries = p.tries; attempt = p.attempt; due = p.due }

-- the state once the receipt of the entry of this number, if there is one, has come so far
abbrev pub set_receipt_in : ℕ → ReceiptProgress → State → Option State
set_receipt_in n p s = Some (change_received s n (with_receipt_progress p))

-- A receipt that is owed comes further.
use Rattle.std.specs.Prelude.{ℕ, ◌<◌, ◌^◌, Option, option_map, IfSome}
use Rattle.as2_rows.specs.Waiting.{WaitingRow, in_kind}
use Rattle.as2_records.specs.declared.progress.ReceiptProgress.{ReceiptProgress}

-- what the entry of this number waits for then
abbrev pub answers_at : ℕ → ReceiptProgress → Option WaitingRow
answers_at n p = option_map (λ kind. record { kind = kind; number = n; due = p.due }) (in_kind p.receipt_stage p.attempt)

-- its numbers fit into columns
pub record FitsReceipt (p : ReceiptProgress) : Type 0 where
  pub tries_fit : p.tries < 2 ^ 63
  pub due_fits : IfSome p.due (λ due. due < 2 ^ 63)

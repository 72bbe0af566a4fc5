-- A document comes further.
use Rattle.std.specs.Prelude.{ℕ, Option, option_map, IfSome, ◌<◌, ◌^◌}
use Rattle.as2_rows.specs.Waiting.{WaitingRow, out_kind}
use Rattle.as2_records.specs.declared.progress.Progress.{Progress}

-- what the document of this number waits for once it has come so far
abbrev pub waits_at : ℕ → Progress → Option WaitingRow
waits_at n p = option_map (λ kind. record { kind = kind; number = n; due = p.due }) (out_kind p.detail p.attempt)

-- its numbers fit into columns
pub record FitsProgress (p : Progress) : Type 0 where
  pub tries_fit : p.tries < 2 ^ 63
  pub due_fits : IfSome p.due (λ due. due < 2 ^ 63)

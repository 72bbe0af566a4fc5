-- A document comes further.
use Rattle.std.specs.Prelude.{ℕ, ◌||◌, nat_le, Option, option_map}
use Rattle.as2_exchange.specs.State.{State, document, change_document}
use Rattle.as2_exchange.specs.declared.outbox.OutEntry.{OutEntry}
use Rattle.as2_records.specs.declared.progress.Progress.{Progress}

-- the document once it has come so far; one that was tried was begun
abbrev pub come_to : Progress → OutEntry → OutEntry
come_to p d = record d { begun = d.begun || nat_le 1 p.tries; tries = p.tries; attempt = p.attempt; due = p.due; detail = p.detail }

-- the state once the document of this number has come so far, if there is one
abbrev pub set_out_in : ℕ → Progress → State → Option State
set_out_in n p s = option_map (λ _. change_document s n (come_to p)) (document s n)

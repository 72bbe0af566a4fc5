-- What is found in records: of each entry what is wrong with it, those that were received first.
use Rattle.std.specs.Prelude.{ℕ, Bool, not, ◌==◌, ◌++◌, List, [], ◌∷◌, Option, Some, None, option_and_then}
use Rattle.std.specs.List.{flat_map}
use Rattle.as2_exchange.specs.State.{State, document, origin_of, received_entry}
use Rattle.as2_audit.specs.Faults.{received_fault, sent_fault}
use Rattle.as2_audit.specs.declared.fault.Fault.{Fault}
use Rattle.as2_audit.specs.declared.findings.Finding.{Finding}
use Rattle.as2_audit.specs.declared.findings.Mailbox.{Mailbox}
use Rattle.as2_audit.specs.declared.findings.Mailbox.TheVariants.{Inbox, Outbox}

-- what is found of the entry of that number, where something is wrong with it
abbrev pub finding_at : Mailbox → ℕ → Option Fault → List Finding
finding_at mailbox number None = []
finding_at mailbox number (Some fault) = record { mailbox = mailbox; number = number; fault = fault } ∷ []

-- what is wrong with the received document of that number
abbrev pub received_at : State → ℕ → Option Fault
received_at s number = option_and_then (λ e. received_fault e.posted) (received_entry s number)

-- the records were migrated
abbrev pub is_migrated : State → Bool
is_migrated s = not (origin_of s.version == 0)

-- what is wrong with the document of that number that is sent
abbrev pub sent_at : State → ℕ → Option Fault
sent_at s number = option_and_then (sent_fault (is_migrated s)) (document s number)

-- of all that were received
abbrev pub received_findings : State → List Finding
received_findings s = flat_map (λ e. finding_at Inbox e.number (received_at s e.number)) s.inbox

-- of all that are sent
abbrev pub sent_findings : State → List Finding
sent_findings s = flat_map (λ d. finding_at Outbox d.number (sent_at s d.number)) s.outbox

-- of both
abbrev pub findings : State → List Finding
findings s = received_findings s ++ sent_findings s

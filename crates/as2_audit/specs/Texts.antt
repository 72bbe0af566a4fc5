-- What is found, in lines for people.
use Rattle.std.specs.Prelude.{ℕ, List, ◌++◌, length, codes, decimal}
use Rattle.std.specs.List.{flat_map}
use Rattle.as2_exchange.specs.State.{State}
use Rattle.as2_audit.specs.Audits.{findings}
use Rattle.as2_audit.specs.declared.fault.Fault.{Fault}
use Rattle.as2_audit.specs.declared.fault.Fault.TheVariants.{NoMic, StrayMic, MicDiffers, NoReceipt, StrayReceipt, StillWaits, NeverBegun, UnreadableReceipt, ReceiptOfAnother, DetailDiffers, NeverGiven, WaitsOtherwise}
use Rattle.as2_audit.specs.declared.findings.Finding.{Finding}
use Rattle.as2_audit.specs.declared.findings.Mailbox.{Mailbox}
use Rattle.as2_audit.specs.declared.findings.Mailbox.TheVariants.{Inbox, Outbox}

-- what is wrong
abbrev pub fault_text : Fault → List ℕ
fault_text NoMic = codes "no MIC is kept"
fault_text StrayMic = codes "a MIC is kept, though it wasn't processed"
fault_text MicDiffers = codes "MIC differs"
fault_text NoReceipt = codes "no receipt is kept"
fault_text StrayReceipt = codes "a receipt is kept, and its detail is another's"
fault_text StillWaits = codes "settled, and still waited for"
fault_text NeverBegun = codes "tried, and never begun"
fault_text UnreadableReceipt = codes "receipt can't be read"
fault_text ReceiptOfAnother = codes "receipt is of another document"
fault_text DetailDiffers = codes "receipt says something else"
fault_text NeverGiven = codes "its number isn't below the counter"
fault_text WaitsOtherwise = codes "waits otherwise than it should"

-- of which box an entry is
abbrev pub mailbox_word : Mailbox → List ℕ
mailbox_word Inbox = codes "received"
mailbox_word Outbox = codes "sent"

-- `received 12: MIC differs`
abbrev pub finding_line : Finding → List ℕ
finding_line f = mailbox_word f.mailbox ++ (codes " " ++ (decimal f.number ++ (codes ": " ++ (fault_text f.fault ++ codes "\n"))))

-- `verified: 27 received, 24 sent, 0 findings`
abbrev pub summary_line : ℕ → ℕ → ℕ → List ℕ
summary_line received sent found =
    codes "verified: " ++ (decimal received ++ (codes " received, " ++ (decimal sent ++ (codes " sent, " ++ (decimal found ++ codes " findings\n")))))

-- a line for each finding, and how many entries were looked at
abbrev pub verification : State → List ℕ
verification s = flat_map finding_line (findings s) ++ summary_line (length s.inbox) (length s.outbox) (length (findings s))

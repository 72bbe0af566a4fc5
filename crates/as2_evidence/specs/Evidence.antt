-- The files that show how a document stands.
use Rattle.std.specs.Prelude.{◌≡◌, ℕ, Bool, List, [], ◌∷◌, ◌++◌, codes, Option, Some, None, option_map, IsSomeAnd}
use Rattle.as2_agreement.specs.Agreements.{AgreedValues}
use Rattle.as2_audit.specs.Audits.{is_migrated}
use Rattle.as2_audit.specs.declared.findings.Mailbox.{Mailbox}
use Rattle.as2_audit.specs.declared.findings.Mailbox.TheVariants.{Inbox, Outbox}
use Rattle.as2_exchange.specs.Agreement.{Text}
use Rattle.as2_exchange.specs.Readings.{receipt_bytes}
use Rattle.as2_exchange.specs.Recording.{receipt_out}
use Rattle.as2_exchange.specs.State.{State, document, received_entry}
use Rattle.as2_exchange.specs.declared.inbox.InEntry.{InEntry}
use Rattle.as2_exchange.specs.declared.inbox.ReceiptStage.{ReceiptStage}
use Rattle.as2_exchange.specs.declared.inbox.ReceiptStage.TheVariants.{Sent}
use Rattle.as2_exchange.specs.declared.outbox.Evidence.{Evidence}
use Rattle.as2_exchange.specs.declared.outbox.OutEntry.{OutEntry}
use Rattle.as2_messages.specs.Replies.{IsDateOf}
use Rattle.as2_evidence.specs.Files.{File}
use Rattle.as2_evidence.specs.Pages.{received_page, sent_page, stem}

-- the file of that name
abbrev pub file_named : Text → Text → Text → File
file_named stem end bytes = record { name = stem ++ end; bytes = bytes }

-- a receipt, where there is one
abbrev pub receipt_files : Text → Option Text → List File
receipt_files stem None = []
receipt_files stem (Some receipt) = file_named stem (codes ".receipt") receipt ∷ []

-- a content, a receipt and a page
abbrev pub files_named : Text → Text → Option Text → Text → List File
files_named stem content receipt page =
    file_named stem (codes ".content") content ∷ (receipt_files stem receipt ++ file_named stem (codes ".txt") page ∷ [])

-- ---- a document that is sent

-- its content, the receipt that settled it, as it came, and the page
abbrev pub sent_files : Bool → OutEntry → Text → Text → List File
sent_files migrated d submitted came =
    files_named (stem Outbox d.number) d.content (option_map (λ e. e.body) d.evidence) (sent_page migrated d submitted came)

-- the date of the receipt, where there is one
abbrev pub IsReceiptMoment : Option Evidence → Text → Type 0
IsReceiptMoment None came = came ≡ codes ""
IsReceiptMoment (Some e) came = IsDateOf e.moment came

-- the files are those, with the dates of its moments
pub record AreSentFiles (migrated : Bool) (d : OutEntry) (files : List File) : Type 0 where
  pub submitted : Text
  pub came : Text
  pub on : IsDateOf d.moment submitted
  pub then : IsReceiptMoment d.evidence came
  pub are : files ≡ sent_files migrated d submitted came

-- ---- a document that was received

-- the receipt that was given, as these agreements have it
abbrev pub own_receipt : AgreedValues → InEntry → ReceiptStage → Option Text
own_receipt agreements e Sent = Some (receipt_bytes (receipt_out agreements e.number e.posted))
own_receipt agreements e other = None

-- its content, the receipt that was given and the page
abbrev pub received_files : AgreedValues → InEntry → Text → List File
received_files agreements e came =
    files_named (stem Inbox e.number) e.posted.content (own_receipt agreements e e.receipt_stage) (received_page e came)

-- the files are those, with the date of its moment
pub record AreReceivedFiles (agreements : AgreedValues) (e : InEntry) (files : List File) : Type 0 where
  pub came : Text
  pub on : IsDateOf e.moment came
  pub are : files ≡ received_files agreements e came

-- ---- of a state

-- there are such files of what was found, or none
abbrev pub AreFilesWhere : {A : Type 0} → (A → List File → Type 0) → Option A → Option (List File) → Type 0
AreFilesWhere Are None files = files ≡ None
AreFilesWhere Are (Some a) files = IsSomeAnd files (Are a)

-- the files of the document of that number, where there is one
abbrev pub AreEvidenceFiles : AgreedValues → State → Mailbox → ℕ → Option (List File) → Type 0
AreEvidenceFiles agreements s Inbox number files = AreFilesWhere (AreReceivedFiles agreements) (received_entry s number) files
AreEvidenceFiles agreements s Outbox number files = AreFilesWhere (AreSentFiles (is_migrated s)) (document s number) files

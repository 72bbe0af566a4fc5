-- The pages of evidence, for people.
use Rattle.std.specs.Prelude.{ℕ, Bool, codes, decimal, length, Option, Some, None, ◌++◌}
use Rattle.as2_audit.specs.Faults.{kept_receipt, received_fault, sent_fault}
use Rattle.as2_audit.specs.Texts.{fault_text, mailbox_word}
use Rattle.as2_audit.specs.declared.fault.Fault.{Fault}
use Rattle.as2_audit.specs.declared.findings.Mailbox.{Mailbox}
use Rattle.as2_audit.specs.declared.findings.Mailbox.TheVariants.{Inbox, Outbox}
use Rattle.as2_exchange.specs.Agreement.{Text}
use Rattle.as2_exchange.specs.Readings.{Receipt}
use Rattle.as2_exchange.specs.declared.inbox.InEntry.{InEntry}
use Rattle.as2_exchange.specs.declared.outbox.Evidence.{Evidence}
use Rattle.as2_exchange.specs.declared.outbox.OutEntry.{OutEntry}
use Rattle.as2_mdn.specs.Outcomes.{outcome_text}
use Rattle.as2_mic.specs.Algs.{alg_name}
use Rattle.as2_mic.specs.Mic.{mic}
use Rattle.as2_mic.specs.declared.alg.Alg.{Alg}
use Rattle.as2_mic.specs.declared.alg.Alg.TheVariants.{Md5, Sha1, Sha256}
use Rattle.as2_names.specs.Names.{name_spelling}
use Rattle.as2_views.specs.Layout.{named_line}
use Rattle.as2_views.specs.Pieces.{size_text}
use Rattle.as2_views.specs.Texts.{shown_words}
use Rattle.as2_evidence.specs.Words.{detail_words, disposition_words, read_mic_words, own_mic_words, receipt_stage_words, printing_text}

-- ---- both

-- what the names of the files begin with: `sent-12`, `received-7`
abbrev pub stem : Mailbox → ℕ → Text
stem mailbox number = mailbox_word mailbox ++ codes "-" ++ decimal number

-- the integrity check of a content under a digest (RFC 4130, section 7.3.1)
abbrev pub check_line : Alg → Text → Text
check_line digest content = named_line (codes "MIC by " ++ alg_name digest) (mic digest content)

-- .. under each that is known
unfoldable pub check_lines : Text → Text
check_lines content = check_line Md5 content ++ check_line Sha1 content ++ check_line Sha256 content

-- what is found of it
abbrev pub found_line : Option Fault → Text
found_line None = named_line (codes "found") (codes "nothing that is kept contradicts itself")
found_line (Some fault) = named_line (codes "found") (fault_text fault)

-- the command that makes the integrity check anew
unfoldable pub check_command : Text → Text → Text
check_command digest stem = codes "    openssl dgst -" ++ (digest ++ (codes " -binary " ++ (stem ++ codes ".content | base64\n")))

unfoldable pub checks_heading : Text
checks_heading = codes "\nTo make the checks again, in the folder of these files:\n"

-- how the integrity checks are made anew without this station
unfoldable pub check_commands : Text → Text
check_commands stem =
    checks_heading
    ++ check_command (codes "md5") stem
    ++ check_command (codes "sha1") stem
    ++ check_command (codes "sha256") stem

-- how the fields of a receipt are read
unfoldable pub fields_command : Text → Text
fields_command stem =
    codes "\nIts fields; those of its second part count, and a MIC there has to be the one by its digest:\n    grep -a -i -A 2 -E '^(Original-Message-ID|Disposition|Received-Content-MIC):' "
    ++ (stem ++ codes ".receipt\n")

-- ---- a document that is sent

-- what a receipt says, where it can be read (RFC 8098, section 3.2; RFC 4130, section 7.4.3)
abbrev pub said_lines : Option Receipt → Text
said_lines None = named_line (codes "says") (codes "it can't be read")
said_lines (Some r) =
    named_line (codes "document") (printing_text r.original_id)
    ++ named_line (codes "says") (printing_text (disposition_words r.disposition))
    ++ named_line (codes "MIC") (printing_text (read_mic_words r.mic))

unfoldable pub receipt_heading : Text
receipt_heading = codes "\nThe receipt that settled it (RFC 8098); it isn't signed:\n"

-- the receipt, and how it is read
unfoldable pub receipt_lines : Text → Text → Option Evidence → Text
receipt_lines stem came None = codes ""
receipt_lines stem came (Some e) =
    receipt_heading
    ++ (named_line (codes "came") came ++ named_line (codes "type") (printing_text e.content_type))
    ++ (said_lines (kept_receipt e) ++ fields_command stem)

unfoldable pub sent_title : Text
sent_title = codes "Evidence of a document that is sent by AS2 (RFC 4130)\n\n"

-- all that is known of it
unfoldable pub known_lines : OutEntry → Text
known_lines d = shown_words d

-- The page of a document that is sent. The dates are when it was submitted, and when the receipt came.
abbrev pub sent_page : Bool → OutEntry → Text → Text → Text
sent_page migrated d submitted came =
    sent_title
    ++ (known_lines d ++ named_line (codes "submitted") submitted ++ check_lines d.content)
    ++ (named_line (codes "meaning") (detail_words d.detail) ++ found_line (sent_fault migrated d))
    ++ (check_commands (stem Outbox d.number) ++ receipt_lines (stem Outbox d.number) came d.evidence)

-- ---- a document that was received

-- from whom and to whom it is, and which
unfoldable pub received_names : InEntry → Text
received_names e =
    named_line (codes "number") (decimal e.number)
    ++ named_line (codes "from") (name_spelling e.posted.sender)
    ++ named_line (codes "to") (name_spelling e.posted.receiver)
    ++ named_line (codes "identifier") e.posted.id

-- .. what it is and how long, and the integrity checks of its content
unfoldable pub received_content : InEntry → Text
received_content e =
    named_line (codes "type") (printing_text e.posted.content_type)
    ++ named_line (codes "content") (size_text (length e.posted.content))
    ++ check_lines e.posted.content

-- what became of it, and how its receipt stands (RFC 4130, section 7.5; RFC 8098, section 3.2.6)
unfoldable pub outcome_lines : InEntry → Text
outcome_lines e =
    named_line (codes "receipt") (receipt_stage_words e.posted.how e.receipt_stage)
    ++ named_line (codes "outcome") (outcome_text e.posted.outcome)
    ++ named_line (codes "MIC") (own_mic_words e.posted.mic)

unfoldable pub received_title : Text
received_title = codes "Evidence of a document that was received by AS2 (RFC 4130)\n\n"

-- the page of a document that was received
abbrev pub received_page : InEntry → Text → Text
received_page e came =
    received_title
    ++ (received_names e ++ named_line (codes "received") came ++ received_content e)
    ++ (outcome_lines e ++ found_line (received_fault e.posted) ++ check_commands (stem Inbox e.number))

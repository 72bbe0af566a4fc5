-- The pieces that the text of a document is put together from.
use Rattle.std.specs.Prelude.{ℕ, Option, ◌++◌, length, codes, decimal}
use Rattle.as2_names.specs.Names.{name_spelling}
use Rattle.as2_mdn.specs.Details.{class_of, name_of}
use Rattle.as2_mdn.specs.declared.detail.Detail.{Detail}
use Rattle.as2_exchange.specs.Agreement.{Text}
use Rattle.as2_exchange.specs.declared.outbox.OutEntry.{OutEntry}
use Rattle.as2_exchange.specs.declared.outbox.Evidence.{Evidence}
use Rattle.as2_views.specs.Layout.{due_text, evidence_text, named_line, state_text}

-- a name and what parts it from its value
abbrev pub label : Text → Text
label name = name ++ codes ": "

-- the state and the detail of a document
abbrev pub standing_text : Detail → Text
standing_text detail = state_text (class_of detail) ++ codes " " ++ name_of detail

-- how many bytes there are
abbrev pub size_text : ℕ → Text
size_text size = decimal size ++ codes " bytes"

-- the document's number, how it stands and how often it was tried
abbrev pub tries_text : OutEntry → Text
tries_text d =
    named_line (codes "number") (decimal d.number)
    ++ named_line (codes "state") (standing_text d.detail)
    ++ named_line (codes "tries") (decimal d.tries)
    ++ named_line (codes "due") (due_text d.due)

-- from whom and to whom it is, which, and how long
abbrev pub names_text : OutEntry → Text
names_text d =
    named_line (codes "from") (name_spelling d.organization)
    ++ named_line (codes "to") (name_spelling d.partner)
    ++ named_line (codes "identifier") d.id
    ++ named_line (codes "content") (size_text (length d.content))

-- the line of its receipt
abbrev pub receipt_line : Option Evidence → Text
receipt_line evidence = named_line (codes "receipt") (evidence_text evidence)

-- Which entry is looked for, and what is shown of a document that is found.
use Rattle.std.specs.Prelude.{ℕ, List, [], ◌∷◌, Option, Some, None, option_and_then, Bool, bytes_eq}
use Rattle.as2_names.specs.Identifiers.{without_brackets}
use Rattle.sqlite.specs.Order.{Row}
use Rattle.as2_exchange.specs.State.{State, document}
use Rattle.as2_exchange.specs.declared.outbox.Evidence.{Evidence}
use Rattle.as2_exchange.specs.declared.outbox.OutEntry.{OutEntry}
use Rattle.as2_rows.specs.Rows.{evidence_shown}

-- it has an identifier of this value
abbrev pub has_id : List ℕ → OutEntry → Bool
has_id value d = bytes_eq (without_brackets d.id) value

-- the receipt that settled the document of this number, if one has
abbrev pub evidence_at : State → ℕ → Option Evidence
evidence_at s n = option_and_then (λ d. d.evidence) (document s n)

-- the rows of a document's evidence, as a query shows them
abbrev pub shown_evidence : ℕ → Option Evidence → List Row
shown_evidence number None = []
shown_evidence number (Some e) = evidence_shown number e ∷ []

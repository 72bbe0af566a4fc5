-- The receipt that settled a document, as its row has it.
use Rattle.std.specs.Prelude.{ℕ}
use Rattle.as2_exchange.specs.declared.outbox.Evidence.{Evidence}
use Rattle.as2_rows.specs.declared.evidence.EvidenceRow.{EvidenceRow}

-- the receipt, and the number of its document
abbrev pub evidence_in : ℕ → Evidence → EvidenceRow
evidence_in number e = record { number = number; evidence = e }

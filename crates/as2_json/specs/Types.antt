-- What each value of the records' types holds: numbers of 64 bits, names and identifiers.
use Rattle.std.specs.Prelude.{ℕ, ◌^◌, ◌<◌, length, IfSome}
use Rattle.as2_names.specs.Identifiers.{IsIdentifier}
use Rattle.as2_names.specs.Names.{IsName}
use Rattle.as2_exchange.specs.declared.outbox.Evidence.{Evidence}
use Rattle.as2_exchange.specs.declared.outbox.OutEntry.{OutEntry}
use Rattle.as2_records.specs.declared.counts.Counts.{Counts}
use Rattle.as2_records.specs.declared.summaries.InRow.{InRow}
use Rattle.as2_records.specs.declared.summaries.OutRow.{OutRow}

abbrev pub FitsNumber : ℕ → Type 0
FitsNumber n = n < 2 ^ 64

pub record IsOutRow (r : OutRow) : Type 0 where
  pub number : FitsNumber r.number
  pub tries : FitsNumber r.tries
  pub organization : IsName r.organization
  pub partner : IsName r.partner
  pub id : IsIdentifier r.id

pub record IsInRow (r : InRow) : Type 0 where
  pub number : FitsNumber r.number
  pub sender : IsName r.sender
  pub receiver : IsName r.receiver
  pub id : IsIdentifier r.id

pub record AreCounts (c : Counts) : Type 0 where
  pub not_sent : FitsNumber c.not_sent
  pub in_retry : FitsNumber c.in_retry
  pub awaited : FitsNumber c.awaited
  pub in_error : FitsNumber c.in_error
  pub to_send : FitsNumber c.to_send

pub record IsReceipt (e : Evidence) : Type 0 where
  pub moment : FitsNumber e.moment
  pub bytes : FitsNumber (length e.body)

pub record IsDocument (d : OutEntry) : Type 0 where
  pub number : FitsNumber d.number
  pub tries : FitsNumber d.tries
  pub due : IfSome d.due FitsNumber
  pub organization : IsName d.organization
  pub partner : IsName d.partner
  pub id : IsIdentifier d.id
  pub bytes : FitsNumber (length d.content)
  pub receipt : IfSome d.evidence IsReceipt

-- What the types of an entry say of its names, its identifier, its address, the text of its MIC and its moment.
use Rattle.std.specs.Prelude.{◌≤◌, IfSome, IsTrue, ⊤, is_some}
use Rattle.as2_names.specs.Names.{IsName}
use Rattle.as2_names.specs.Identifiers.{IsIdentifier}
use Rattle.as2_names.specs.Moments.{last_moment}
use Rattle.as2_text.specs.Addresses.{url_of}
use Rattle.as2_mic.specs.Mic.{IsMicText}
use Rattle.as2_exchange.specs.declared.inbox.InEntry.{InEntry}
use Rattle.as2_exchange.specs.declared.inbox.ReceiptDelivery.{ReceiptDelivery}
use Rattle.as2_exchange.specs.declared.inbox.ReceiptDelivery.TheVariants.{NoReceipt, Sync, Async}
use Rattle.as2_exchange.specs.declared.outbox.OutEntry.{OutEntry}

-- a receipt that is sent by a request is sent to an address
abbrev pub IsAddressed : ReceiptDelivery → Type 0
IsAddressed NoReceipt = ⊤
IsAddressed Sync = ⊤
IsAddressed (Async url) = IsTrue (is_some (url_of url))

-- of an entry of the inbox
pub record IsInEntry (e : InEntry) : Type 0 where
  pub sender : IsName e.posted.sender
  pub receiver : IsName e.posted.receiver
  pub id : IsIdentifier e.posted.id
  pub how : IsAddressed e.posted.how
  pub mic : IfSome e.posted.mic (λ mic. IsMicText mic.text)
  pub moment : e.moment ≤ last_moment

-- of an entry of the outbox
pub record IsOutEntry (d : OutEntry) : Type 0 where
  pub organization : IsName d.organization
  pub partner : IsName d.partner
  pub id : IsIdentifier d.id
  pub moment : d.moment ≤ last_moment

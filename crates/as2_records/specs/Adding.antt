-- An entry more.
use Rattle.std.specs.Prelude.{if◌then◌else◌, ◌==◌, ◌+◌, [], ◌∷◌, ◌++◌, Option, Some, None}
use Rattle.as2_exchange.specs.State.{State}
use Rattle.as2_exchange.specs.declared.inbox.InEntry.{InEntry}
use Rattle.as2_exchange.specs.declared.outbox.OutEntry.{OutEntry}

-- the state with an entry more in its inbox, under the next number
abbrev pub with_received : State → InEntry → State
with_received s e = record s { inbox = s.inbox ++ e ∷ []; next_in = s.next_in + 1 }

-- the state once the entry is added, if it has the next number
abbrev pub state_with : InEntry → State → Option State
state_with e s = if e.number == s.next_in then Some (with_received s e) else None

-- the state with a document more in its outbox, under the next number
abbrev pub with_document : State → OutEntry → State
with_document s d = record s { outbox = s.outbox ++ d ∷ []; next_out = s.next_out + 1 }

-- the state once the document is added, if it has the next number
abbrev pub added_document : OutEntry → State → Option State
added_document d s = if d.number == s.next_out then Some (with_document s d) else None

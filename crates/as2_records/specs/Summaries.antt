-- An entry without its content, as its row has it, and the entry that it is with one.
use Rattle.std.specs.Prelude.{Bool, ℕ, List, length, Option}
use Rattle.as2_exchange.specs.declared.inbox.InEntry.{InEntry}
use Rattle.as2_exchange.specs.declared.outbox.OutEntry.{OutEntry}
use Rattle.as2_exchange.specs.declared.outbox.Evidence.{Evidence}
use Rattle.as2_records.specs.declared.summaries.InRow.{InRow}
use Rattle.as2_records.specs.declared.summaries.OutRow.{OutRow}

-- ---- the inbox

-- the entry, with the length of its content in place of the content
abbrev pub in_summary : InEntry → InRow
in_summary e = record {
  number = e.number;
  sender = e.posted.sender;
  receiver = e.posted.receiver;
  id = e.posted.id;
  content_type = e.posted.content_type;
  length = length e.posted.content;
  moment = e.moment;
  outcome = e.posted.outcome;
  how = e.posted.how;
  mic = e.posted.mic;
  receipt_stage = e.receipt_stage;
  tries = e.tries;
  attempt = e.attempt;
  due = e.due;
}

-- the entry that a row and a content are
abbrev pub in_entry : InRow → List ℕ → InEntry
in_entry r content = record {
  number = r.number;
  posted = record {
    sender = r.sender;
    receiver = r.receiver;
    id = r.id;
    content_type = r.content_type;
    content = content;
    outcome = r.outcome;
    how = r.how;
    mic = r.mic;
  };
  moment = r.moment;
  receipt_stage = r.receipt_stage;
  tries = r.tries;
  attempt = r.attempt;
  due = r.due;
}

-- ---- the outbox

-- the document, with the length of its content in place of the content, and without its evidence
abbrev pub out_summary : OutEntry → OutRow
out_summary d = record {
  number = d.number;
  organization = d.organization;
  partner = d.partner;
  id = d.id;
  length = length d.content;
  moment = d.moment;
  tries = d.tries;
  attempt = d.attempt;
  due = d.due;
  detail = d.detail;
}

-- the document that a row, a content and evidence are, where it was begun or not
abbrev pub out_entry : OutRow → Bool → List ℕ → Option Evidence → OutEntry
out_entry r begun content evidence = record {
  number = r.number;
  organization = r.organization;
  partner = r.partner;
  id = r.id;
  content = content;
  moment = r.moment;
  begun = begun;
  tries = r.tries;
  attempt = r.attempt;
  due = r.due;
  detail = r.detail;
  evidence = evidence;
}

use Rattle.as2_json.proofs.Entries.{inbox_objects, outbox_objects, outstanding_same}
use Rattle.as2_json.proofs.laws.listings_of_rows.Goals as goal

pub returns-clause-inbox : goal.returns-clause-inbox
returns-clause-inbox c = inbox_objects

pub returns-clause-outbox : goal.returns-clause-outbox
returns-clause-outbox c = outbox_objects

pub returns-clause-outstanding : goal.returns-clause-outstanding
returns-clause-outstanding c = outstanding_same

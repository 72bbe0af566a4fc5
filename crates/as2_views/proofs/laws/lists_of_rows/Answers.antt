use Rattle.as2_views.proofs.Listings.{inbox_lines, outbox_lines, outstanding_lines}
use Rattle.as2_views.proofs.laws.lists_of_rows.Goals as goal

pub returns-clause-inbox : goal.returns-clause-inbox
returns-clause-inbox c = inbox_lines

pub returns-clause-outbox : goal.returns-clause-outbox
returns-clause-outbox c = outbox_lines

pub returns-clause-outstanding : goal.returns-clause-outstanding
returns-clause-outstanding c = outstanding_lines

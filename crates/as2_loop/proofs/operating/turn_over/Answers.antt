use Rattle.as2_loop.proofs.GoingOn.{left_lost, left_settled}
use Rattle.as2_loop.proofs.operating.turn_over.Goals as goal

pub returns-in-Ok-clause-over : goal.returns-in-Ok-clause-over
returns-in-Ok-clause-over g c text =
    left_settled g.R.Records.shows g.R.Round.Records.shows c.args.held.basis c.args.records c.answering-live.result c.answering-live.ensures.records
    (record { text = text; agreed = c.answering-live.ensures.agreed }) c.in_ok-live.field-0 c.in_ok-live.ensures c.in-Ok.live c.parts_of-hub.result.1
    c.in-Ok.is c.parts_of-hub.ensures

pub returns-in-Err-clause-over : goal.returns-in-Err-clause-over
returns-in-Err-clause-over g c text =
    left_lost g.R.Records.shows g.R.Round.Records.shows c.args.held.basis c.args.records c.answering-live.result c.answering-live.ensures.records
    (record { text = text; agreed = c.answering-live.ensures.agreed }) c.in_ok-live.field-0 c.in_ok-live.ensures c.in-Err.round
    c.lost_records-records.result c.in-Err.is c.lost_records-records.ensures

use Rattle.std.proofs.Common.{Result, subst}
use Rattle.as2_exchange.specs.Step.{step}
use Rattle.as2_exchange.specs.declared.answer.Job.{Job}
use Rattle.as2_exchange.specs.declared.answer.Refusal.{Refusal}
use Rattle.as2_station.specs.Said.{begin_event, said_to_begin}
use Rattle.as2_station.specs.Steps.{LeavesAnswered}
use Rattle.as2_sending.proofs.Turning.{begin_asks, begin_fails, begin_refused, begins_to}
use Rattle.as2_sending.proofs.turns.begin.Goals as goal

pub returns-in-Ok-Ok-clause-begun : goal.returns-in-Ok-Ok-clause-begun
returns-in-Ok-Ok-clause-begun g c = λ clean s rests is.
    let A = c.args.agreements.now in
    let new = g.K.Records.shows c.begin.new.self in
    let taken = c.in-Ok-Ok.ensures.taken in
    let left = subst (λ (said : Result Job Refusal). LeavesAnswered new (step A s (begin_event c.args.what c.args.moment))
    (said_to_begin said)) c.in-Ok-Ok.field-0-is (taken.does.answered clean s rests tt) in
    let opened = taken.does.is_open clean (begin_asks A c.args.moment c.args.what) in
    begins_to A c.args.moment s c.args.what new c.in-Ok-Ok.job left.next is left.step left.rests
    (record { is_open = opened; lasts = taken.lasts opened left.next left.rests })

pub returns-in-Ok-Err-clause-begun : goal.returns-in-Ok-Err-clause-begun
returns-in-Ok-Err-clause-begun g c = λ clean s rests is.
    let A = c.args.agreements.now in
    let new = g.K.Records.shows c.begin.new.self in
    let left = subst (λ (said : Result Job Refusal). LeavesAnswered new (step A s (begin_event c.args.what c.args.moment))
    (said_to_begin said)) c.in-Ok-Err.field-0-is (c.in-Ok-Err.ensures.taken.does.answered clean s rests tt) in
    begin_refused A c.args.moment s c.args.what new c.in-Ok-Err.reason left.next is left.step left.rests

pub returns-in-Err-clause-begun : goal.returns-in-Err-clause-begun
returns-in-Err-clause-begun g c = λ clean s rests is.
    let A = c.args.agreements.now in
    let taken = c.in-Err.ensures.taken in
    begin_fails A c.args.moment s c.args.what (g.K.Records.shows c.begin.new.self) c.in-Err.fault is (taken.does.failed clean s rests tt) taken.does.fault

use Rattle.std.proofs.Common.{Result, subst}
use Rattle.as2_exchange.specs.Step.{step}
use Rattle.as2_exchange.specs.declared.answer.Refusal.{Refusal}
use Rattle.as2_station.specs.Said.{outcome_event, said_to_outcome}
use Rattle.as2_station.specs.Steps.{LeavesAnswered}
use Rattle.as2_station.specs.declared.said.Became.{Became}
use Rattle.as2_sending.proofs.Turning.{closes_to, outcome_asks, outcome_fails, outcome_refused}
use Rattle.as2_sending.proofs.turns.close.Goals as goal

pub returns-in-Ok-Ok-clause-closed : goal.returns-in-Ok-Ok-clause-closed
returns-in-Ok-Ok-clause-closed g c = λ clean s mid job begins rests.
    let A = c.args.agreements.now in
    let new = g.K.Records.shows c.close.new.self in
    let taken = c.in-Ok-Ok.ensures.taken in
    let left = subst (λ (said : Result Became Refusal). LeavesAnswered new (step A mid (outcome_event c.args.what c.args.got c.args.moment))
    (said_to_outcome said)) c.in-Ok-Ok.field-0-is (taken.does.answered clean mid rests tt) in
    let opened = taken.does.is_open clean (outcome_asks A c.args.moment c.args.what c.args.got) in
    closes_to A c.args.moment s c.args.what c.args.got job mid new c.in-Ok-Ok.became left.next left.step left.rests
    (record { is_open = opened; lasts = taken.lasts opened left.next left.rests })

pub returns-in-Ok-Err-clause-closed : goal.returns-in-Ok-Err-clause-closed
returns-in-Ok-Err-clause-closed g c = λ clean s mid job begins rests.
    let A = c.args.agreements.now in
    let new = g.K.Records.shows c.close.new.self in
    let left = subst (λ (said : Result Became Refusal). LeavesAnswered new (step A mid (outcome_event c.args.what c.args.got c.args.moment))
    (said_to_outcome said)) c.in-Ok-Err.field-0-is (c.in-Ok-Err.ensures.taken.does.answered clean mid rests tt) in
    outcome_refused A c.args.moment s c.args.what c.args.got job mid new c.in-Ok-Err.reason left.next begins left.step left.rests

pub returns-in-Err-clause-closed : goal.returns-in-Err-clause-closed
returns-in-Err-clause-closed g c = λ clean s mid job begins rests.
    let A = c.args.agreements.now in
    let taken = c.in-Err.ensures.taken in
    outcome_fails A c.args.moment s c.args.what c.args.got job mid (g.K.Records.shows c.close.new.self) c.in-Err.fault begins
    (taken.does.failed clean mid rests tt) taken.does.fault

use Rattle.std.proofs.Common.{◌≡◌, Ok, Err, sym, refl}
use Rattle.as2_mdn.specs.ReportReading.{receipt_reading}
use Rattle.as2_exchange.specs.Readings.{report_in, verdict}
use Rattle.as2_station.proofs.closing.by_receipt.Goals as goal

pub returns-in_default : goal.returns-in_default
unfolding report_in
returns-in_default c =
    let read : receipt_reading c.args.opened.now.media c.args.body ≡ Err c.in_default.field-0 =
    sym (rw (c.deref.ensures.value, c.in_ok-report.ensures) at c.in_default.ensures.exact) in
    rw read refl

pub returns-then-not-bears : goal.returns-then-not-bears
unfolding report_in
returns-then-not-bears c =
    let read : receipt_reading c.args.opened.now.media c.args.body ≡ Ok c.in-Ok.receipt =
    sym (rw (c.deref.ensures.value, c.in_ok-report.ensures) at c.in-Ok.ensures.exact) in
    rw (read, sym (c.if-not-bears.ensures c.args.body)) refl

pub returns : goal.returns
unfolding report_in verdict
returns c =
    let read : receipt_reading c.args.opened.now.media c.args.body ≡ Ok c.in-Ok.receipt =
    sym (rw (c.deref.ensures.value, c.in_ok-report.ensures) at c.in-Ok.ensures.exact) in
    rw (read, sym (c.if-not-bears.ensures c.args.body), c.verdict_pieces-detail.ensures, c.in_ok-evidence.ensures c.in-Ok.receipt) refl

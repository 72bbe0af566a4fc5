use Rattle.std.proofs.Common.{arith, sym}
use Rattle.std.proofs.lemmas.Bool.{false≢true}
use Rattle.as2_agreement.proofs.agreements.Agreements.place.Goals as goal

pub returns-in_ok-span-in-Err : goal.returns-in_ok-span-in-Err
returns-in_ok-span-in-Err c =
    let span = c.in_ok-span-in-Err.ensures in
    let within = c.in-Err.ensures.span in (
      c.in-Err.ensures.refused (λ memory. false≢true (sym (span.none.1 memory))),
      (c.in_ok-span-in-Err.span.start, omega (arith, span.range.0, within.0, within.1), rw c.as_bytes.ensures.value at (c.line_at.ensures)),
    )

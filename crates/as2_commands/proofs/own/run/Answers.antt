use Rattle.as2_commands.proofs.own.run.Goals as goal

-- an option is added at a time
pub returns : goal.returns
returns c =
    let a1 = c.and-run.ensures _ _ c.named-run.ensures c.required_option.ensures.rule c.required_option.ensures.local in
    let a2 = c.and.ensures _ _ a1 c.control.ensures.rule c.control.ensures.local in
    let a3 = c.and-run-2.ensures _ _ a2 c.timeout.ensures.rule c.timeout.ensures.local in
    let a4 = c.and-2.ensures _ _ a3 c.idle.ensures.rule c.idle.ensures.local in
    c.and-3.ensures _ _ a4 c.receipts_to.ensures.rule c.receipts_to.ensures.local

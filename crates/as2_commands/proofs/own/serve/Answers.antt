use Rattle.as2_commands.proofs.own.serve.Goals as goal

-- an option is added at a time
pub returns : goal.returns
returns c =
    let a1 = c.and-serve.ensures _ _ c.named-serve.ensures c.required_option.ensures.rule c.required_option.ensures.local in
    let a2 = c.and.ensures _ _ a1 c.count.ensures.rule c.count.ensures.local in
    let a3 = c.and-serve-2.ensures _ _ a2 c.timeout.ensures.rule c.timeout.ensures.local in
    c.and-2.ensures _ _ a3 c.idle.ensures.rule c.idle.ensures.local

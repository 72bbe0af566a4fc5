use Rattle.as2_commands.proofs.command.with_options.Goals as goal

-- an option is added at a time
pub returns : goal.returns
returns c =
    let a1 = c.with_option-line.ensures _ _ c.program.ensures c.required_option.ensures.rule c.required_option.ensures.local in
    let a2 = c.with_option-line-2.ensures _ _ a1 c.store.ensures.rule c.store.ensures.local in
    let a3 = c.with_option-line-3.ensures _ _ a2 c.store_limit.ensures.rule c.store_limit.ensures.local in
    let a4 = c.with_option.ensures _ _ a3 c.first.ensures.rule c.first.ensures.local in
    c.with_option-2.ensures _ _ a4 c.moment.ensures.rule c.moment.ensures.local

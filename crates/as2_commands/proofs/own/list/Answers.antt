use Rattle.as2_commands.proofs.own.list.Goals as goal

-- an option is added at a time
pub returns : goal.returns
returns c =
    let a1 = c.and-list.ensures _ _ c.named-list.ensures c.value.ensures.rule c.value.ensures.local in
    let a2 = c.and-list-2.ensures _ _ a1 c.option.ensures.rule c.option.ensures.local in
    c.and.ensures _ _ a2 c.format.ensures.rule c.format.ensures.local

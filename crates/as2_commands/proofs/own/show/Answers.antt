use Rattle.as2_commands.proofs.own.show.Goals as goal

-- an option is added at a time
pub returns : goal.returns
returns c =
    let a1 = c.and-show.ensures _ _ c.named.ensures c.entry-number.ensures.rule c.entry-number.ensures.local in
    c.and.ensures _ _ a1 c.format.ensures.rule c.format.ensures.local

use Rattle.as2_commands.proofs.own.evidence.Goals as goal

-- an option is added at a time
pub returns : goal.returns
returns c =
    let a1 = c.and-evidence.ensures _ _ c.named.ensures c.entry-number.ensures.rule c.entry-number.ensures.local in
    let a2 = c.and-evidence-2.ensures _ _ a1 c.flag.ensures.rule c.flag.ensures.local in
    c.and.ensures _ _ a2 c.folder.ensures.rule c.folder.ensures.local

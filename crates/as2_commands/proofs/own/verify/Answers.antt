use Rattle.as2_commands.proofs.own.verify.Goals as goal

pub returns : goal.returns
returns c = c.and.ensures _ _ c.named.ensures c.format.ensures.rule c.format.ensures.local

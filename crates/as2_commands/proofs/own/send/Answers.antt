use Rattle.as2_commands.proofs.own.send.Goals as goal

pub returns : goal.returns
returns c = c.and.ensures _ _ c.named.ensures c.timeout.ensures.rule c.timeout.ensures.local

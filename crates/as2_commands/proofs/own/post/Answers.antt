use Rattle.as2_commands.proofs.own.post.Goals as goal

pub returns : goal.returns
returns c = c.and.ensures _ _ c.named.ensures c.flag.ensures.rule c.flag.ensures.local

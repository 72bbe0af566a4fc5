use Rattle.as2_commands.proofs.own.resend.Goals as goal

pub returns : goal.returns
returns c = c.and.ensures _ _ c.named.ensures c.entry-number.ensures.rule c.entry-number.ensures.local

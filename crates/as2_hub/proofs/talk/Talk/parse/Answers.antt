use Rattle.std.proofs.Common.{length, arith}
use Rattle.as2_hub.proofs.Reading.{gave_up}
use Rattle.as2_hub.proofs.talk.Talk.parse.Goals as goal

pub returns-in-Err-clause-unread : goal.returns-in-Err-clause-unread
returns-in-Err-clause-unread c = λ text held count.
    gave_up c.args.self.now.parser c.args.self.now.waiting (length c.args.bytes.now) text c.args.bytes.now c.requires.ended c.requires.free c.requires.some
    (omega arith)

use Rattle.std.proofs.Common.{ℕ, ◌-◌, List, ◌++◌, length, Option, rules, subst, arith}
use Rattle.as2_framing.specs.HeadPieces.{EndsHead, HoldsText, Adds}
use Rattle.as2_framing.proofs.Feeding.{fed_whole, fed_long}
use Rattle.as2_framing.proofs.head_bytes.HeadBytes.feed.Goals as goal

pub returns-in-Some-clause-fed : goal.returns-in-Some-clause-fed
returns-in-Some-clause-fed c = λ text holds.
    let room = 16384 - c.args.self.now.skipped - length c.args.self.now.text.items in
    fed_whole c.add.new.self text c.args.bytes.now room c.in-Some.count
    (subst (λ (t : List ℕ). EndsHead c.add.new.self text t c.in-Some.count) (search rules)
    (subst (λ (end : Option ℕ). Adds c.add.new.self text c.first.result.now end) c.in-Some.is (c.in_ok-count.ensures.added text holds.holds)))

pub returns-in-None-2-clause-fed : goal.returns-in-None-2-clause-fed
returns-in-None-2-clause-fed c = λ text holds.
    let room = 16384 - c.args.self.now.skipped - length c.args.self.now.text.items in
    fed_long c.add.new.self text c.args.bytes.now room
    (subst (λ (t : List ℕ). HoldsText c.add.new.self (text ++ t)) (search rules)
    (subst (λ (end : Option ℕ). Adds c.add.new.self text c.first.result.now end) c.in-None.is (c.in_ok-count.ensures.added text holds.holds)))
    (omega arith) (omega (arith, holds.holds.counted))

use Rattle.std.proofs.Common.{rules, List, ℕ, refl, subst, ap}
use Rattle.as2_hub.specs.Talks.{KeepsBehind}
use Rattle.as2_hub.proofs.Reading.{heard_nothing, heard_parsed, heard_while_waiting, is_none_of, rest_of}
use Rattle.as2_hub.proofs.talk.Talk.hear.Goals as goal

pub returns-in_default-clause-rest : goal.returns-in_default-clause-rest
returns-in_default-clause-rest c = λ input calls it.
    heard_nothing c.args.self.now (record c.args.self.now { parser = c.take.new.self }) c.args.piece.now input calls (first_of (cc, search rules))
    (first_of (cc, search rules)) refl refl refl refl it

pub returns-then-is_some-clause-rest : goal.returns-then-is_some-clause-rest
returns-then-is_some-clause-rest c = λ input calls it.
    heard_while_waiting c.args.self.now c.keep.new.self c.in-Some.parser c.args.piece.now input calls (first_of (cc, search rules))
    (first_of (cc, search rules)) c.keep.ensures it

pub returns-clause-rest : goal.returns-clause-rest
returns-clause-rest c = λ input calls it.
    heard_parsed c.args.self.now c.parse-used.new.self c.keep-2.new.self c.in-Some.parser c.parse-used.result c.args.piece.now input calls
    (first_of (cc, search rules)) (search (rules, is_none_of)) c.parse-used.ensures.within
    c.parse-used.ensures.no_more c.parse-used.ensures.taken (ap (λ t. t.behind) c.parse-used.ensures.others) c.parse-used.ensures.unread
    (subst (λ (x : List ℕ). KeepsBehind c.parse-used.new.self c.keep-2.new.self x) (rest_of c.parse-used.result c.args.piece.now) c.keep-2.ensures) it

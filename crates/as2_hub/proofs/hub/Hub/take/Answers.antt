use Rattle.std.proofs.Common.{sym, ◌∙◌}
use Rattle.as2_hub.proofs.Playing.{takes_closes, takes_comes, takes_goes, takes_opens, takes_turns}
use Rattle.as2_hub.proofs.hub.Hub.take.Goals as goal

pub returns-in-Opens-clause-takes : goal.returns-in-Opens-clause-takes
returns-in-Opens-clause-takes g c = λ yes.
    takes_opens g.D.Desk.conduct c.args.desk.now c.args.self.now c.open.new.self c.args.input.now c.in-Opens.at c.open.result
    c.in-Opens.is c.open.ensures.vacant c.open.ensures.stands c.open.ensures.opens c.open.ensures.refused c.open.ensures.bounded

pub returns-in-Comes-clause-takes : goal.returns-in-Comes-clause-takes
returns-in-Comes-clause-takes g c = λ yes.
    takes_comes g.D.Desk.conduct c.args.desk.now c.args.self.now c.hear_all.new.self c.args.input.now c.in-Comes.at c.in-Comes.piece c.deref.result.now
    c.in-Comes.is c.deref.ensures.value (sym c.hear_all.ensures.fits ∙ yes) (c.hear_all.ensures.stands yes)
    (c.hear_all.ensures.changes yes) c.hear_all.ensures.bounded

pub returns-in-Turns-clause-takes : goal.returns-in-Turns-clause-takes
returns-in-Turns-clause-takes g c = λ yes.
    takes_turns g.D.Desk.conduct c.args.desk.now c.round.new.desk c.args.self.now c.round.new.self c.args.input.now c.in-Turns.ready
    c.deref-in-Turns.result.now c.round.result c.in-Turns.is c.deref-in-Turns.ensures.value c.round.ensures.settles c.round.ensures.bounded

pub returns-in-Goes-clause-takes : goal.returns-in-Goes-clause-takes
returns-in-Goes-clause-takes g c = λ yes.
    takes_goes g.D.Desk.conduct c.args.desk.now c.args.self.now c.sent.new.self c.args.input.now c.in-Goes.at c.in-Goes.most c.sent.result c.in-Goes.is
    c.sent.ensures.count c.sent.ensures.stands c.sent.ensures.sets c.sent.ensures.none c.sent.ensures.bounded

pub returns-in-Closes-clause-takes : goal.returns-in-Closes-clause-takes
returns-in-Closes-clause-takes g c = λ yes.
    takes_closes g.D.Desk.conduct c.args.desk.now c.args.self.now c.close.new.self c.args.input.now c.in-Closes.at c.in-Closes.is c.close.ensures.stands
    c.close.ensures.empties c.close.ensures.bounded

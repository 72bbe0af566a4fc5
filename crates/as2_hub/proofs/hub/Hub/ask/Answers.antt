use Rattle.std.proofs.Common.{◌∙◌, rules, ◌≡◌, ◌<◌, length, Some, refl, sym, ap, arith}
use Rattle.std.specs.Prelude.{slice_get}
use Rattle.std.proofs.lemmas.Option.{slice_get_past}
use Rattle.as2_hub.specs.Bounded.{unanswered_in}
use Rattle.as2_hub.specs.Places.{is_ready_in}
use Rattle.as2_hub.specs.Talks.{unanswered_of}
use Rattle.as2_hub.specs.declared.talk.Talk.{Talk}
use Rattle.as2_hub.proofs.Asking.{asks_at, asks_nobody, unread_asked}
use Rattle.as2_hub.proofs.Standing.{nobody_there, put_back, there}
use Rattle.as2_hub.proofs.Within.{less_put_back, less_set}
use Rattle.as2_hub.proofs.hub.Hub.ask.Goals as goal

pub returns-then-at-len-clause-asks : goal.returns-then-at-len-clause-asks
returns-then-at-len-clause-asks g c =
    let talks = c.args.self.now.talks.items in
    asks_nobody g.D.Desk.conduct c.args.desk.now c.args.self.now c.args.self.now c.args.at
    (ap is_ready_in (slice_get_past talks c.args.at (omega (arith, c.args.self.now.talks.ok.0)))) refl

pub returns-in_default-clause-asks : goal.returns-in_default-clause-asks
returns-in_default-clause-asks g c =
    let talks = c.args.self.now.talks.items in
    let within : c.args.at < length talks = omega (arith, c.args.self.now.talks.ok.0) in
    asks_nobody g.D.Desk.conduct c.args.desk.now c.args.self.now _ c.args.at
    (ap is_ready_in (nobody_there talks c.args.at c.index_mut.result.now within c.index_mut.ensures.value (first_of (cc, search rules))))
    (put_back talks c.args.at c.index_mut.result.now within c.index_mut.ensures.value)

pub returns-in_default-clause-unread : goal.returns-in_default-clause-unread
returns-in_default-clause-unread g c =
    less_put_back c.args.self.now.talks.items c.args.at c.index_mut.result.now (omega (arith, c.args.self.now.talks.ok.0)) c.index_mut.ensures.value

pub returns-clause-asks : goal.returns-clause-asks
returns-clause-asks g c =
    let talks = c.args.self.now.talks.items in
    let within : c.args.at < length talks = omega (arith, c.args.self.now.talks.ok.0) in
    asks_at g.D.Desk.conduct c.args.desk.now c.ask.new.desk c.args.self.now _ c.args.at c.in-Some.talk c.ask.new.self c.ask.result within
    (there talks c.args.at c.index_mut.result.now c.in-Some.talk within c.index_mut.ensures.value c.in-Some.is) refl c.ask.ensures

pub returns-clause-unread : goal.returns-clause-unread
returns-clause-unread g c =
    let talks = c.args.self.now.talks.items in
    let within : c.args.at < length talks = omega (arith, c.args.self.now.talks.ok.0) in
    let here = there talks c.args.at c.index_mut.result.now c.in-Some.talk within c.index_mut.ensures.value c.in-Some.is in
    let was : unanswered_in (slice_get talks c.args.at) ≡ unanswered_of c.in-Some.talk = ap unanswered_in here in
    let same : unanswered_of c.ask.new.self ≡ unanswered_of c.in-Some.talk =
    unread_asked g.D.Desk.conduct c.args.desk.now c.ask.new.desk c.in-Some.talk c.ask.new.self c.ask.result c.ask.ensures in
    less_set talks c.args.at (Some c.ask.new.self) within (omega (arith, was, same))

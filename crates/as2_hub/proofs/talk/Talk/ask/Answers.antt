use Rattle.std.proofs.Common.{rules, ◌≡◌, length, refl, arith}
use Rattle.std.proofs.lemmas.Bool.Decides.{nat_tests}
use Rattle.std.proofs.lemmas.List.{nil_from_length}
use Rattle.as2_hub.proofs.Reading.{is_none_of}
use Rattle.as2_hub.proofs.talk.Talk.ask.Goals as goal

pub returns : goal.returns
returns g c =
    let none : length c.args.self.now.output.items ≡ 0 = first_of (search rules, first_of (grind (arith, nat_tests), omega arith)) in
    record {
      asked = c.in-Some.asked;
      reply = c.reply_to-resolved.result.reply;
      waits = search rules;
      silent = search (rules, is_none_of);
      empty = nil_from_length c.args.self.now.output.items none;
      answered = c.reply_to-resolved.ensures.answers;
      last = c.reply_to-resolved.ensures.last;
      held = refl;
      back = λ may. first_of (cc, search rules);
      on = c.reply_to-resolved.ensures.goes_on;
    }

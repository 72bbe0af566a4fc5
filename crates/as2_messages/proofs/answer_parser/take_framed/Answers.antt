use Rattle.std.proofs.Common.{refl, inl, inr}
use Rattle.as2_messages.proofs.Answered.{feeds_answer}
use Rattle.as2_messages.proofs.answer_parser.take_framed.Goals as goal

pub returns-in-Open : goal.returns-in-Open
returns-in-Open c = λ text awaits. feeds_answer c.args.answer _ c.args.missing c.feed.new.self text c.args.bytes.now c.in_ok-feed.field-0 _
    c.in-Open.is refl refl c.in_ok-feed.ensures.fed awaits

pub returns-in-Whole : goal.returns-in-Whole
returns-in-Whole c = λ text awaits. feeds_answer c.args.answer _ c.args.missing c.feed.new.self text c.args.bytes.now c.in_ok-feed.field-0 _
    c.in-Whole.is refl refl c.in_ok-feed.ensures.fed awaits

pub returns-in-Bad : goal.returns-in-Bad
returns-in-Bad c = λ text awaits.
    elim c.in-Bad.is [
      | inl bad ↦ feeds_answer c.args.answer
          (record {
            status = c.args.answer.status;
            fields = c.args.answer.fields;
            body = c.feed.new.body;
          }) c.args.missing c.feed.new.self text c.args.bytes.now c.in_ok-feed.field-0 _ bad refl refl
          c.in_ok-feed.ensures.fed awaits
      | inr large ↦ feeds_answer c.args.answer
          (record {
            status = c.args.answer.status;
            fields = c.args.answer.fields;
            body = c.feed.new.body;
          }) c.args.missing c.feed.new.self text c.args.bytes.now c.in_ok-feed.field-0 _ large refl refl
          c.in_ok-feed.ensures.fed awaits
    ]

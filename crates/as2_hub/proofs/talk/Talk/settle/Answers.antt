use Rattle.std.proofs.Common.{◌≡◌, Some, refl, sym, ap, ◌∙◌, arith}
use Rattle.as2_hub.specs.Talks.{before_call, unanswered_of}
use Rattle.as2_hub.specs.declared.desk.Reply.{Reply}
use Rattle.as2_hub.specs.declared.talk.Talk.{Talk}
use Rattle.as2_hub.proofs.Reading.{settled_on, settled_end}
use Rattle.as2_hub.proofs.talk.Talk.settle.Goals as goal

pub returns-then-reply-clause-kept : goal.returns-then-reply-clause-kept
returns-then-reply-clause-kept c = λ kept e input calls holds it.
    let same : c.in-Some.reply ≡ holds.reply = cc in (
      settled_on (before_call e.asked c.args.self.now) c.go_on.new.self e input calls refl
          (sym holds.stays ∙ sym (ap (λ (r : Reply). r.stays) same) ∙ c.if-reply.true) holds.last
          c.go_on.ensures.reads
          (λ none. (
            ap (λ (t : Talk). t.parser) (c.go_on.ensures.ended none)
                ∙ none,
            ap (λ (t : Talk). t.waiting) (c.go_on.ensures.ended none),
            ap (λ (t : Talk). t.is_spent) (c.go_on.ensures.ended none),
            ap (λ (t : Talk). t.taken) (c.go_on.ensures.ended none),
            c.go_on.ensures.nothing none,
          ))
          it,
      ap (λ v. v.items) c.go_on.ensures.same_output ∙ ap (λ (r : Reply). r.text.items) same ∙ holds.text,
    )

pub returns-else-reply-clause-kept : goal.returns-else-reply-clause-kept
returns-else-reply-clause-kept c = λ kept e input calls holds it.
    let same : c.in-Some.reply ≡ holds.reply = cc in (
      settled_end (before_call e.asked c.args.self.now) c.end.new.self e input calls refl
          (sym holds.stays ∙ sym (ap (λ (r : Reply). r.stays) same) ∙ c.if-reply.false)
          (ap (λ (t : Talk). t.parser) c.end.ensures.others) (ap (λ (t : Talk). t.waiting) c.end.ensures.others) c.end.ensures.unread it,
      ap (λ (t : Talk). t.output.items) c.end.ensures.others ∙ ap (λ (r : Reply). r.text.items) same ∙ holds.text,
    )

use Rattle.std.proofs.Common.{◌≡◌, ℕ, List, ◌++◌, ◌∙◌, take, refl, rules, subst, arith}
use Rattle.std.specs.Io.KnownBytes.{Consumes}
use Rattle.as2_messages.specs.Answering.{BeginsAnswer, IsOpenAnswer}
use Rattle.as2_messages.specs.AnswerPieces.{HasKept, ParsesAnswer}
use Rattle.as2_messages.specs.declared.answer_parser.ParsedAnswer.{ParsedAnswer}
use Rattle.as2_http.proofs.AnswerReads.{answer_arrives, awaits_none, awaits_on, failed_needed, gets, holds_all, was_needed}
use Rattle.as2_http.proofs.InputReads.{reads_none}
use Rattle.as2_http.proofs.exchanging.read_answer.Goals as goal

-- no memory for the reads

pub returns-then-is_err-clause-needed : goal.returns-then-is_err-clause-needed
returns-then-is_err-clause-needed g c =
    λ input known. reads_none IsOpenAnswer input (g.R.Source.left c.args.source.now) (g.R.Source.calls c.args.source.now) known

pub loop-init : goal.loop-init
loop-init g c = (
  λ input known. awaits_none input c.new-parser.result (g.R.Source.left c.args.source.now) (g.R.Source.calls c.args.source.now) c.new-parser.ensures known,
  search rules,
  omega arith,
  refl,
)

-- the read failed

pub returns-in_default-clause-needed : goal.returns-in_default-clause-needed
returns-in_default-clause-needed g c = λ input known.
    failed_needed input c.loop.parser (g.R.Source.left c.loop.source) (g.R.Source.left c.pull.new.source) (g.R.Source.calls c.args.source.now)
    (g.R.Source.calls c.loop.source) (g.R.Source.calls c.pull.new.source)
    (c.loop.invariant.0 input known) (c.pull.ensures.kept (search rules)) c.pull.ensures.calls

-- the input ended

pub returns-then-count-eq0-clause-answer : goal.returns-then-count-eq0-clause-answer
returns-then-count-eq0-clause-answer g c = λ input known.
    let before = g.R.Source.left c.loop.source in
    let after = g.R.Source.left c.pull.new.source in
    let none : c.in-Some.count ≡ 0 = search rules in
    c.ended.ensures input
    (holds_all input c.loop.parser before after (g.R.Source.calls c.args.source.now) (g.R.Source.calls c.loop.source) (c.loop.invariant.0 input known)
    (subst (λ (n : ℕ). Consumes before after (take n c.pull.new.buffer.items)) none c.in-Some.ensures.given)
    (c.pull.ensures.ended (search rules) (omega (arith, c.loop.invariant.1))))

pub returns-then-count-eq0-clause-needed : goal.returns-then-count-eq0-clause-needed
returns-then-count-eq0-clause-needed g c = λ input known.
    was_needed input c.loop.parser (g.R.Source.left c.loop.source) (g.R.Source.left c.pull.new.source) (g.R.Source.calls c.args.source.now)
    (g.R.Source.calls c.loop.source) (g.R.Source.calls c.pull.new.source)
    (take c.in-Some.count c.pull.new.buffer.items) (c.loop.invariant.0 input known) c.in-Some.ensures.given (search rules) c.pull.ensures.calls

-- a whole answer

pub returns-in-Ok-Answer-clause-answer : goal.returns-in-Ok-Answer-clause-answer
returns-in-Ok-Answer-clause-answer g c = λ input known.
    let w = c.loop.invariant.0 input known in
    let a = c.in-Ok-Answer.answer in
    gets input c.received.result a c.received.ensures
    (answer_arrives input c.loop.parser (g.R.Source.left c.loop.source) (g.R.Source.left c.pull.new.source) (g.R.Source.calls c.args.source.now)
    (g.R.Source.calls c.loop.source)
    (take c.in-Some.count c.pull.new.buffer.items) a w c.in-Some.ensures.given
    (subst (λ (s : List ℕ). (rest : List ℕ) × BeginsAnswer (w.reads.read ++ take c.in-Some.count s) a.status a.fields a.body rest) c.deref.ensures.value
    (subst (λ (p : ParsedAnswer). ParsesAnswer c.feed.new.self
    (w.reads.read ++ take c.in-Some.count c.deref.result.now) p) c.in-Ok-Answer.field-0-is (c.in-Ok-Answer.ensures.parses w.reads.read w.holds))))

pub returns-in-Ok-Answer-clause-needed : goal.returns-in-Ok-Answer-clause-needed
returns-in-Ok-Answer-clause-needed g c = λ input known.
    was_needed input c.loop.parser (g.R.Source.left c.loop.source) (g.R.Source.left c.pull.new.source) (g.R.Source.calls c.args.source.now)
    (g.R.Source.calls c.loop.source) (g.R.Source.calls c.pull.new.source)
    (take c.in-Some.count c.pull.new.buffer.items) (c.loop.invariant.0 input known) c.in-Some.ensures.given (search rules) c.pull.ensures.calls

-- less than an answer so far

pub loop-preserved : goal.loop-preserved
loop-preserved g c = (
  λ input known.
      let w = c.loop.invariant.0 input known in
      awaits_on input c.loop.parser c.feed.new.self (g.R.Source.left c.loop.source) (g.R.Source.left c.pull.new.source)
      (g.R.Source.calls c.args.source.now) (g.R.Source.calls c.loop.source) (g.R.Source.calls c.pull.new.source)
      (take c.in-Some.count c.pull.new.buffer.items) w c.in-Some.ensures.given (search rules) c.pull.ensures.calls (search rules)
      (subst (λ (s : List ℕ). HasKept c.feed.new.self (w.reads.read ++ take c.in-Some.count s)) c.deref.ensures.value
      (subst (λ (p : ParsedAnswer). ParsesAnswer c.feed.new.self
      (w.reads.read ++ take c.in-Some.count c.deref.result.now) p) c.in-Ok-Open.field-0-is (c.in-Ok-Open.ensures.parses w.reads.read w.holds)).1),
  search rules,
  search rules,
  c.in-Some.ensures.sound ∙ c.loop.invariant.3,
)

-- no answer, however the input goes on, or no memory for it

pub returns-in-Ok-NoAnswer-clause-needed : goal.returns-in-Ok-NoAnswer-clause-needed
returns-in-Ok-NoAnswer-clause-needed g c = λ input known.
    was_needed input c.loop.parser (g.R.Source.left c.loop.source) (g.R.Source.left c.pull.new.source) (g.R.Source.calls c.args.source.now)
    (g.R.Source.calls c.loop.source) (g.R.Source.calls c.pull.new.source)
    (take c.in-Some.count c.pull.new.buffer.items) (c.loop.invariant.0 input known) c.in-Some.ensures.given (search rules) c.pull.ensures.calls

-- so many reads, and less than an answer

pub returns-clause-needed : goal.returns-clause-needed
returns-clause-needed g c = λ input known. (c.loop.invariant.0 input known).reads

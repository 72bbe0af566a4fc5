use Rattle.std.proofs.Common.{◌≡◌, ◌∙◌, [], Some, None, rules, sym, arith}
use Rattle.as2_http.specs.Notes.{sink_and_journal}
use Rattle.as2_http.specs.declared.stream.Served.TheVariants.{ReadFault, WriteFault}
use Rattle.as2_http.proofs.Serving.{between_first, runs_none, serves_long, serves_nothing}
use Rattle.as2_http.proofs.stream.serve_stream.Goals as goal

pub returns-then-is_err-clause-serves : goal.returns-then-is_err-clause-serves
returns-then-is_err-clause-serves g c = λ clean s rests input known. serves_nothing (g.K.Records.shows c.args.station.now) rests known

pub returns-then-is_err-clause-posts : goal.returns-then-is_err-clause-posts
returns-then-is_err-clause-posts g c = λ clean s rests. (s, rests, runs_none c.args.agreements.now c.args.moment s)

pub loop-init : goal.loop-init
loop-init g c = (
  λ clean. clean,
  search rules,
  omega arith,
  omega arith,
  omega arith,
  ([], c.new-parser.ensures),
  λ clean s rests input known. between_first (g.K.Records.shows c.args.station.now) rests known c.new-parser.ensures,
  λ clean s rests. (s, rests, runs_none c.args.agreements.now c.args.moment s),
)

pub returns-in-Some-clause-serves : goal.returns-in-Some-clause-serves
returns-in-Some-clause-serves g c = λ clean s rests input known.
    let w = c.loop.invariant.6 (c.answer_next-end.ensures.clean clean) s rests input known in
    let before = sink_and_journal (g.W.Sink.written c.args.sink.now) (g.J.Journal.noted c.args.journal.now) in
    rw c.in-Some.is at (c.answer_next-end.ensures.answered clean s input before (g.R.Source.calls c.args.source.now) w)

pub returns-in-Some-clause-posts : goal.returns-in-Some-clause-posts
returns-in-Some-clause-posts g c = λ clean s rests.
    let before = c.loop.invariant.7 (c.answer_next-end.ensures.clean clean) s rests in
    c.answer_next-end.ensures.posts clean s before.0 before.1 before.2

pub loop-preserved : goal.loop-preserved
loop-preserved g c = (
  λ clean. c.loop.invariant.0 (c.answer_next-end.ensures.clean clean),
  c.answer_next-end.ensures.room,
  omega (arith, c.loop.invariant.2, c.answer_next-end.ensures.calls),
  c.answer_next-end.ensures.sound_reads (λ bad. let e : None ≡ Some ReadFault = sym (search rules) ∙ bad in cc) ∙ c.loop.invariant.3,
  c.answer_next-end.ensures.sound_writes (λ bad. let e : None ≡ Some WriteFault = sym (search rules) ∙ bad in cc) ∙ c.loop.invariant.4,
  c.answer_next-end.ensures.held (search rules),
  λ clean s rests input known.
      let w = c.loop.invariant.6 (c.answer_next-end.ensures.clean clean) s rests input known in
      let before = sink_and_journal (g.W.Sink.written c.args.sink.now) (g.J.Journal.noted c.args.journal.now) in
      let none : c.answer_next-end.result ≡ None = search rules in
      rw none at (c.answer_next-end.ensures.answered clean s input before (g.R.Source.calls c.args.source.now) w),
  λ clean s rests.
      let before = c.loop.invariant.7 (c.answer_next-end.ensures.clean clean) s rests in
      c.answer_next-end.ensures.posts clean s before.0 before.1 before.2,
)

pub returns-clause-serves : goal.returns-clause-serves
returns-clause-serves g c = λ clean s rests input known. serves_long (c.loop.invariant.6 clean s rests input known)

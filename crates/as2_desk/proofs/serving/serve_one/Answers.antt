use Rattle.std.proofs.Common.{◌∙◌}
use Rattle.as2_desk.proofs.Saying.{pushed}
use Rattle.as2_desk.proofs.serving.serve_one.Goals as goal

pub returns-clause-serves : goal.returns-clause-serves
returns-clause-serves g c = record {
  end = c.serve-end.result;
  ended = c.serve-end.ensures.ended;
  serves = c.serve-end.ensures.serves;
  line = pushed g.W.Sink c.args.console.now.output c.push_all.new.sink _ _ c.push_all.result
      (c.as_bytes.ensures.value ∙ c.as_str.ensures.value ∙ c.connection_line.ensures)
      c.push_all.ensures.whole c.push_all.ensures.sound c.push_all.ensures.part c.push_all.ensures.failed;
}

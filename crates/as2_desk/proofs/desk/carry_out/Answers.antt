use Rattle.std.proofs.Common.{Ok}
use Rattle.as2_desk.proofs.Stopping.{sends_task, serves_task, stopped_by}
use Rattle.as2_desk.specs.Observed.{errors_of, input_of, output_of}
use Rattle.as2_desk.proofs.desk.carry_out.Goals as goal

pub returns-in-Ok-work_of-clause-store : goal.returns-in-Ok-work_of-clause-store
returns-in-Ok-work_of-clause-store g c = λ is_failed.
    let contents = g.F.ReadFiles.content c.args.host.now.outside.files in
    let was = c.args.console.now in
    let is = c.work_over-in-Ok-work_of.new.console in
    rw c.in-Run.is (stopped_by (input_of g.R.Source was is) (output_of g.W.Sink was is) (errors_of g.E.Sink was is) c.work_over-in-Ok-work_of.result
    (sends_task contents c.in-Run.run' c.in-Run.command c.in-Ok-work_of.work c.in-Ok-work_of.ensures)
    (serves_task contents c.in-Run.run' c.in-Run.command c.in-Ok-work_of.work c.in-Ok-work_of.ensures)
    (c.work_over-in-Ok-work_of.ensures.store is_failed))

pub returns-in-Ok-work_of-clause-comes : goal.returns-in-Ok-work_of-clause-comes
returns-in-Ok-work_of-clause-comes g c = rw (c.in-Ok.is, c.in-Run.is) (
  Ok c.in-Ok-work_of.work,
  c.in-Ok-work_of.ensures,
  rw (c.of.ensures.path, c.of.ensures.first) at c.work_over-in-Ok-work_of.ensures.goes,
)

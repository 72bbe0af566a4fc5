use Rattle.std.proofs.Common.{[], subst}
use Rattle.sqlite.specs.Held.{state}
use Rattle.sqlite.specs.State.{Executes}
use Rattle.as2_store.proofs.Turning.{begin_text, begins, begins_none}
use Rattle.as2_store.proofs.rounds.hold.Goals as goal

pub returns-in_err-execute : goal.returns-in_err-execute
returns-in_err-execute g c =
    let old = state g.S.Store c.args.conn.now in
    let new = state g.S.Store c.execute.new.self in
    record {
      begins = begins_none c.from_residual.result _ [] old new c.from_residual.ensures.0
          (λ clean. subst (Executes begin_text [] old new) c.in_err-execute.was (c.execute.ensures.runs clean)) c.execute.ensures.survives;
    }

pub returns : goal.returns
returns g c =
    let old = state g.S.Store c.args.conn.now in
    let new = state g.S.Store c.execute.new.self in
    record {
      begins = begins tt [] old new c.in_ok-execute.field-0
          (λ clean. subst (Executes begin_text [] old new) c.in_ok-execute.was (c.execute.ensures.runs clean)) c.execute.ensures.survives;
    }

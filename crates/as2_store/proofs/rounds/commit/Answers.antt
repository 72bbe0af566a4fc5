use Rattle.std.proofs.Common.{[], subst}
use Rattle.sqlite.specs.Held.{state}
use Rattle.sqlite.specs.State.{Executes}
use Rattle.as2_store.proofs.Turning.{commit_text, ends, ends_none}
use Rattle.as2_store.proofs.rounds.commit.Goals as goal

pub returns-in_err-execute : goal.returns-in_err-execute
returns-in_err-execute g c = record {
  ends = ends_none c.from_residual.result [] (state g.S.Store c.args.conn.now) (state g.S.Store c.execute.new.self) c.from_residual.ensures.0
      c.execute.ensures.survives;
}

pub returns : goal.returns
returns g c =
    let old = state g.S.Store c.args.conn.now in
    let new = state g.S.Store c.execute.new.self in
    record {
      ends = ends tt [] old new c.in_ok-execute.field-0
          (λ clean. subst (Executes commit_text [] old new) c.in_ok-execute.was (c.execute.ensures.runs clean)) c.execute.ensures.survives;
    }

use Rattle.std.proofs.Common.{Ok, []}
use Rattle.sqlite.specs.Held.{state}
use Rattle.sqlite.specs.State.{Executes}
use Rattle.sql_tables.proofs.Inside.{made, stays}
use Rattle.as2_store.proofs.Statements.{version_text}
use Rattle.as2_store.proofs.MigratedTables.{raises_version, stands_raised}
use Rattle.as2_store.proofs.Committing.{ran_inside}
use Rattle.as2_store.proofs.migrating.raise_version.Goals as goal

pub returns-in_err-execute-clause-within : goal.returns-in_err-execute-clause-within
returns-in_err-execute-clause-within g c =
    ran_inside g.S.Store _ _ c.args.tx.now.conn.now c.execute.new.self.conn.now c.execute.result _ _
    c.execute.ensures.ended c.execute.ensures.runs c.execute.ensures.survives

pub returns-clause-raised : goal.returns-clause-raised
returns-clause-raised g c clean number way s it =
    let old = state g.S.Store c.args.tx.now.conn.now in
    let new = state g.S.Store c.execute.new.self.conn.now in
    let went : Executes version_text [] old new (Ok c.in_ok-execute.field-0) =
    (made g.S.Store _ _ c.args.tx.now.conn.now c.execute.new.self.conn.now c.execute.result _ _ c.execute.ensures.ended
    (c.execute.ensures.runs clean) c.in_ok-execute.field-0 c.in_ok-execute.was).2 in
    stands_raised number way old new s it (raises_version way old new number s.next_in s.next_out c.in_ok-execute.field-0 it.schema it.meta went)

pub returns-clause-inside : goal.returns-clause-inside
returns-clause-inside g c clean =
    stays g.S.Store _ _ c.args.tx.now.conn.now c.execute.new.self.conn.now c.execute.result _ _ c.execute.ensures.ended
    (c.execute.ensures.runs clean) c.in_ok-execute.field-0 c.in_ok-execute.was

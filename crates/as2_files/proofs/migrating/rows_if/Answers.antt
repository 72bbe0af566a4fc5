use Rattle.sqlite.specs.Held.{state}
use Rattle.as2_files.proofs.Earlier.{back_same}
use Rattle.as2_files.proofs.migrating.rows_if.Goals as goal

pub returns-clause-given_back : goal.returns-clause-given_back
returns-clause-given_back g c = back_same (state g.S.Store c.args.conn.now) c.requires.autocommit

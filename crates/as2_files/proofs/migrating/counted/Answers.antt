use Rattle.sqlite.specs.Held.{state}
use Rattle.as2_files.proofs.Earlier.{back_then}
use Rattle.as2_files.proofs.migrating.counted.Goals as goal

pub returns-clause-given_back : goal.returns-clause-given_back
returns-clause-given_back g c =
    let old = state g.S.Store c.args.conn.now in
    let one = state g.S.Store c.rows_if-first.new.conn in
    let two = state g.S.Store c.rows_if-later.new.conn in
    let last = state g.S.Store c.rows_of-outbox.new.conn in
    back_then old two last (back_then old one two c.rows_if-first.ensures.given_back c.rows_if-later.ensures.given_back) c.rows_of-outbox.ensures.given_back

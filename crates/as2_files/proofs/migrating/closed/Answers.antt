use Rattle.as2_files.proofs.migrating.closed.Goals as goal

-- the files that were closed hold what the store stood for
pub returns-in-Ok-clause-kept : goal.returns-in-Ok-clause-kept
returns-in-Ok-clause-kept g c = λ honest s rests. c.in-Ok.ensures.closed honest s rests

-- and those of one that couldn't be closed are left of it
pub returns-in-Err-clause-kept : goal.returns-in-Err-clause-kept
returns-in-Err-clause-kept g c = λ honest s rests. (c.args.conn, rests, c.in-Err.ensures.left)

use Rattle.sqlite.specs.Files.{file_state}
use Rattle.as2_files.proofs.keeping.close_into_files.Goals as goal

-- the files that were closed hold what the store stood for
pub returns-in-Ok-clause-kept : goal.returns-in-Ok-clause-kept
returns-in-Ok-clause-kept g c = λ honest s rests. c.in-Ok.ensures.closed honest s (rw c.into_connection.ensures rests)

-- those of one that couldn't be closed are left of it
pub returns-in-Err-clause-kept : goal.returns-in-Err-clause-kept
returns-in-Err-clause-kept g c = λ honest s rests. (c.into_connection.result, rw c.into_connection.ensures rests, c.in-Err.ensures.left)

pub returns-in-Err-clause-clean : goal.returns-in-Err-clause-clean
returns-in-Err-clause-clean g c = λ honest. rw c.into_connection.ensures at (c.in-Err.ensures.unclosed honest)

pub returns-in-Err-clause-left : goal.returns-in-Err-clause-left
returns-in-Err-clause-left g c = rw c.into_connection.ensures at c.in-Err.ensures.left

-- what was committed is in the database file
pub returns-in-Ok-clause-alone : goal.returns-in-Ok-clause-alone
returns-in-Ok-clause-alone g c = λ honest.
    let copied = c.in-Ok.ensures.copied honest in
    ((file_state c.into_connection.result).committed.trees, copied.seen, copied.left)

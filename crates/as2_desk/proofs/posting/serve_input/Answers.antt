use Rattle.as2_desk.proofs.posting.serve_input.Goals as goal

pub returns-then-logs-clause-serves : goal.returns-then-logs-clause-serves
returns-then-logs-clause-serves g c = rw c.if-logs.true (c.serve_stream-end.ensures.serves)

pub returns-clause-serves : goal.returns-clause-serves
returns-clause-serves g c = rw c.if-logs.false (c.serve_stream-end-2.ensures.serves)

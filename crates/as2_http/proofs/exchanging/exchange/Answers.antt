use Rattle.as2_messages.specs.Answering.{IsOpenAnswer}
use Rattle.as2_http.proofs.InputReads.{reads_none}
use Rattle.as2_http.proofs.exchanging.exchange.Goals as goal

-- no read is made behind a request that wasn't written whole
pub returns-then-is_err-clause-needed : goal.returns-then-is_err-clause-needed
returns-then-is_err-clause-needed g c =
    λ input known. reads_none IsOpenAnswer input (g.R.Source.left c.args.source.now) (g.R.Source.calls c.args.source.now) known

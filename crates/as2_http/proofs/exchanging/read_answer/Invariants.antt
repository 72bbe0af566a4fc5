use Rattle.std.proofs.Common.{◌≡◌, ◌+◌, ℕ, List, Some, vec_len}
use Rattle.as2_http.specs.InputReads.{read_limit}
use Rattle.as2_http.proofs.AnswerReads.{AwaitsMore}
use Rattle.as2_http.proofs.exchanging.read_answer.Given as goal

abbrev pub invariant-loop : goal.invariant-loop
invariant-loop g l =
    ((input : List ℕ) → g.R.Source.left l.fn.source ≡ Some input
    → AwaitsMore input l.parser (g.R.Source.left l.source) (g.R.Source.calls l.fn.source) (g.R.Source.calls l.source))
    × (vec_len l.buffer ≡ read_limit)
    × (g.R.Source.calls l.source ≡ g.R.Source.calls l.fn.source + l.counter)
    × (g.R.Source.failed l.source ≡ g.R.Source.failed l.fn.source)

use Rattle.std.proofs.Common.{true, false, rules}
use Rattle.as2_messages.proofs.Parsing.{told_blank}
use Rattle.as2_http.proofs.stream.ended.Goals as goal

pub returns-then-is_blank-clause-closed : goal.returns-then-is_blank-clause-closed
returns-then-is_blank-clause-closed c = λ is text taken. told_blank text c.is_blank.result true (search rules) (c.is_blank.ensures text taken)

pub returns-else-is_blank-clause-truncated : goal.returns-else-is_blank-clause-truncated
returns-else-is_blank-clause-truncated c = λ is text taken. told_blank text c.is_blank.result false (search rules) (c.is_blank.ensures text taken)

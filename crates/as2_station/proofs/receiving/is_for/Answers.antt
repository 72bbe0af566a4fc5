use Rattle.std.proofs.Common.{◌∙◌, ◌&&◌, sym, ap}
use Rattle.as2_station.proofs.receiving.is_for.Goals as goal

pub returns-then-bears : goal.returns-then-bears
returns-then-bears c = λ body. ap (λ t. t && c.args.document.now.begun) (sym c.if-bears.true ∙ c.bears.ensures body)

pub returns-else-bears : goal.returns-else-bears
returns-else-bears c = λ body. c.if-bears.false ∙ ap (λ t. t && c.args.document.now.begun) (sym c.if-bears.false ∙ c.bears.ensures body)

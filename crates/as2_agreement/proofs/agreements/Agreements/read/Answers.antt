use Rattle.toml.specs.View.{table_view}
use Rattle.as2_agreement.proofs.Found.{given_by, found_by, only_by}
use Rattle.as2_agreement.proofs.agreements.Agreements.read.Goals as goal

pub returns-in-Ok-clause-found : goal.returns-in-Ok-clause-found
returns-in-Ok-clause-found c =
    found_by c.args.text.now c.read_document.result
    (given_by c.args.text.now (table_view c.in-Ok.document) c.read_document.result c.in-Ok.ensures.ok c.read_document.ensures)

pub returns-in-Ok-clause-only : goal.returns-in-Ok-clause-only
returns-in-Ok-clause-only c =
    only_by c.args.text.now c.read_document.result
    (given_by c.args.text.now (table_view c.in-Ok.document) c.read_document.result c.in-Ok.ensures.ok c.read_document.ensures)

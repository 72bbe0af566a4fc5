use Rattle.as2_parts.proofs.Folding.{fields_found, fields_only}
use Rattle.as2_parts.proofs.fields.Fields.of.Goals as goal

pub returns-clause-found : goal.returns-clause-found
returns-clause-found c = fields_found c.args.text.now

pub returns-clause-only : goal.returns-clause-only
returns-clause-only c others h = fields_only c.args.text.now others h

use Rattle.std.proofs.Common.{◌≡◌, length}
use Rattle.as2_parts.specs.Fields.{fields}
use Rattle.as2_parts.proofs.fields.FieldsIterator.next.Given as goal

abbrev pub invariant-loop-self : goal.invariant-loop-self
invariant-loop-self l = fields l.self-inside.rest.now ≡ l.fn.self

abbrev pub decreases-loop-self : goal.decreases-loop-self
decreases-loop-self l = length l.self-inside.rest.now

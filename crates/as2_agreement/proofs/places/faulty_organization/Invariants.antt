use Rattle.std.proofs.Common.{◌≡◌, ◌+◌, [], drop, length}
use Rattle.toml.specs.View.{items_view}
use Rattle.as2_agreement.specs.Places.{first_faulty}
use Rattle.as2_agreement.specs.Reading.{organization}
use Rattle.as2_agreement.proofs.places.faulty_organization.Given as goal

abbrev pub invariant-loop-entry : goal.invariant-loop-entry
invariant-loop-entry l =
    (first_faulty organization 1 [] (items_view l.entries) ≡ first_faulty organization (1 + l.entry-index) l.kept.items
    (items_view (drop l.entry-index l.entries)))
    × (length l.kept.items ≡ l.entry-index)

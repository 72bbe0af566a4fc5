use Rattle.std.proofs.Common.{◌≡◌, [], drop}
use Rattle.toml.specs.View.{items_view}
use Rattle.as2_agreement.specs.Reading.{each, organization}
use Rattle.as2_agreement.proofs.entries.each_organization.Given as goal

abbrev pub invariant-loop-entry : goal.invariant-loop-entry
invariant-loop-entry l =
    each organization [] (items_view l.entries) ≡ each organization l.kept.items (items_view (drop l.entry-index l.entries))

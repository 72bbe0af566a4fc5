use Rattle.std.proofs.Common.{◌≡◌, [], drop}
use Rattle.toml.specs.View.{items_view}
use Rattle.as2_agreement.specs.Reading.{each, partner}
use Rattle.as2_agreement.proofs.entries.each_partner.Given as goal

abbrev pub invariant-loop-entry : goal.invariant-loop-entry
invariant-loop-entry l =
    each (partner l.organizations) [] (items_view l.entries) ≡ each (partner l.organizations) l.kept.items (items_view (drop l.entry-index l.entries))

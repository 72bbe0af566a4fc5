use Rattle.std.proofs.Common.{◌≡◌, ◌∙◌, map, ap}
use Rattle.as2_json.specs.Lines.{object_lines}
use Rattle.as2_json.specs.Listings.{list_in_objects}
use Rattle.as2_json.specs.Objects.{in_object}
use Rattle.as2_json.proofs.Entries.{inbox_objects}
use Rattle.as2_records.proofs.Following.{read_if}
use Rattle.as2_json.proofs.listing.received_in_objects.Goals as goal

pub returns-clause-listed : goal.returns-clause-listed
returns-clause-listed g c =
    read_if _ (λ s text. text.items ≡ object_lines (list_in_objects s)) _ _ c.in_ok-rows.rows c.in_objects.result _ c.in_objects.ensures.lines
    (λ s text made rows. made ∙ ap (λ r. object_lines (map in_object r)) (c.as_slice.ensures.value ∙ rows)
    ∙ ap object_lines (inbox_objects s)) c.in_ok-rows.ensures.entries

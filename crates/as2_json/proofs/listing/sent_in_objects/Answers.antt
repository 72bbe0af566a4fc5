use Rattle.std.proofs.Common.{◌≡◌, ◌∙◌, ◌++◌, ap}
use Rattle.as2_exchange.specs.Progress.{is_in}
use Rattle.as2_records.proofs.Following.{read_then}
use Rattle.as2_json.specs.Lines.{object_lines}
use Rattle.as2_json.specs.Listings.{list_out_objects}
use Rattle.as2_json.proofs.listing.sent_in_objects.Goals as goal

pub returns-clause-listed : goal.returns-clause-listed
returns-clause-listed g c =
    read_then _ _ (λ s text. text.items ≡ object_lines (list_out_objects s c.args.wanted)) _ _ _ c.in_ok-rows.rows c.with_rows.result
    (λ s text rests rows told. told (is_in c.args.wanted) (c.as_slice.ensures.value ∙ rows)
    ∙ ap (λ b. b ++ object_lines (list_out_objects s c.args.wanted)) c.new.ensures.items) c.in_ok-rows.ensures.documents c.with_rows.ensures.listed

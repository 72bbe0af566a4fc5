use Rattle.std.proofs.Common.{◌≡◌, ◌∙◌, ◌++◌, map, ap}
use Rattle.as2_records.proofs.Following.{read_then}
use Rattle.as2_json.specs.Lines.{object_line, object_lines}
use Rattle.as2_json.specs.Listings.{entry_object, outstanding_documents, outstanding_objects}
use Rattle.as2_json.specs.Objects.{counts_object}
use Rattle.as2_json.proofs.listing.outstanding_in_objects.Goals as goal

pub returns-clause-outstanding : goal.returns-clause-outstanding
returns-clause-outstanding g c =
    let m = c.args.moment in
    read_then _ _ (λ s text. text.items ≡ object_lines (outstanding_objects s m)) _ _ _ c.in_ok-counts.counts c.with_outstanding.result
    (λ s text rests counts told. told
    ∙ ap (λ t. t ++ object_lines (map entry_object (outstanding_documents s m))) (c.in_ok-text.ensures.line ∙ ap (λ n. object_line (counts_object n)) counts))
    c.in_ok-counts.ensures.counts c.with_outstanding.ensures.listed

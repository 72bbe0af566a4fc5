use Rattle.std.proofs.Common.{◌∙◌, Some, option_map, ap, sym}
use Rattle.as2_json.specs.Lines.{object_line}
use Rattle.as2_json.specs.Objects.{document_object}
use Rattle.as2_records.proofs.Following.{read_ok}
use Rattle.as2_json.proofs.listing.show_in_objects.Goals as goal

pub returns-in_ok-document_object-in-Some-clause-shown : goal.returns-in_ok-document_object-in-Some-clause-shown
returns-in_ok-document_object-in-Some-clause-shown g c =
    read_ok _ _ _ _ _ _ (λ s rests found. ap Some c.in_ok-document_object-in-Some.ensures.line
    ∙ ap (λ d. option_map object_line (option_map document_object d)) (sym c.in-Some.is ∙ found)) c.in_ok-document.ensures.found

use Rattle.as2_station.proofs.Viewed.{sent_lines}
use Rattle.as2_station.proofs.viewing.sent_listing.Goals as goal

pub returns-clause-listing : goal.returns-clause-listing
returns-clause-listing g c =
    sent_lines _ _ c.in_ok-documents.documents _ _ c.out_text.result c.as_slice.ensures.value c.as_slice-2.ensures.value c.args.wanted
    c.out_text.ensures.lines c.in_ok-documents.ensures.marked

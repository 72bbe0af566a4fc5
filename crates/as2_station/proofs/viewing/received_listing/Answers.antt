use Rattle.as2_station.proofs.Viewed.{received_lines}
use Rattle.as2_station.proofs.viewing.received_listing.Goals as goal

pub returns-clause-listing : goal.returns-clause-listing
returns-clause-listing g c =
    received_lines _ _ c.in_ok-rows.rows _ c.in_text.result c.as_slice.ensures.value c.in_text.ensures.lines c.in_ok-rows.ensures.entries

use Rattle.std.proofs.Common.{◌∙◌}
use Rattle.as2_store.proofs.ReadsBy.{mapped, read_told}
use Rattle.as2_store.proofs.entries.in_content.Goals as goal

pub returns-clause-content : goal.returns-clause-content
returns-clause-content g c =
    read_told _ _ _ _ _ _ c.map_err-2.result _ _ c.map_err-2.ensures.cases c.content_in.ensures.read
    (λ s content read shown p e found is. read e.number e.posted.content (c.deref.ensures.value ∙ shown p e found is))
    (mapped _ _ _ _ _ _ _ c.map_err.ensures.cases c.in_ok-pieces.was c.in_piece_rows.ensures.rows)

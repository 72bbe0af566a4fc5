use Rattle.std.proofs.Common.{◌∙◌, Ok}
use Rattle.as2_json.specs.Listings.{Continues}
use Rattle.as2_json.proofs.Continued.{continued}
use Rattle.as2_records.proofs.Following.{read_ok, reads_standing}
use Rattle.as2_records.specs.Standing.{IsCounted}
use Rattle.as2_json.proofs.listing.with_rows.Goals as goal

pub returns-clause-listed : goal.returns-clause-listed
returns-clause-listed g c =
    let rows = c.args.rows.now in
    let text = c.args.text.items in
    let made = c.add_out_objects.new.text in
    reads_standing (λ s t. IsCounted s → Continues s rows text t.items) _ _ _ (Ok made) (λ s t stands told. told stands)
    (read_ok _ _ _ _ c.in_ok-settled.settled made
    (λ s rests numbers stands. continued s _ rows text made.items stands
    (c.as_slice.ensures.value ∙ numbers) c.in_ok-add_out_objects.ensures) c.in_ok-settled.ensures.numbers)

use Rattle.std.proofs.Common.{◌&&◌}
use Rattle.as2_exchange.specs.Progress.{is_under_way}
use Rattle.as2_exchange.specs.Tries.{is_due}
use Rattle.as2_records.proofs.Following.{read_then}
use Rattle.as2_json.specs.Listings.{HasOutstanding}
use Rattle.as2_json.proofs.Continued.{kept_of_all}
use Rattle.as2_json.proofs.listing.with_outstanding.Goals as goal

pub returns-clause-listed : goal.returns-clause-listed
returns-clause-listed g c =
    let m = c.args.moment in
    read_then _ _ (λ s made. HasOutstanding s m c.args.text.items made.items) _ _ _ c.in_ok-rows.rows c.with_rows.result
    (λ s made rests rows told. told (λ d. is_under_way d.detail && is_due m d.due)
    (kept_of_all s m _ _ _ rows c.keep_outstanding.ensures c.as_slice.ensures.value))
    c.in_ok-rows.ensures.documents c.with_rows.ensures.listed

use Rattle.std.proofs.Common.{◌≡◌}
use Rattle.as2_records.specs.Listing.{listed_rows, settled_numbers}
use Rattle.as2_records.proofs.Following.{read_bad, read_ok, read_then}
use Rattle.as2_station.specs.declared.viewing.Marked.{Marked}
use Rattle.as2_exchange.specs.State.{State}
use Rattle.as2_station.proofs.viewing.documents.Goals as goal

pub returns-in_err-settled-clause-marked : goal.returns-in_err-settled-clause-marked
returns-in_err-settled-clause-marked g c =
    let both : State → Marked → Type 0 = λ s m. (m.rows.items ≡ listed_rows c.args.wanted s) × (m.settled.items ≡ settled_numbers s) in
    read_then _ _ both _ _ _ _ c.from_residual-in_err-settled.result (λ s m rests known more. more) c.in_ok-rows.ensures.documents
    (read_bad _ both _ _ _ c.from_residual-in_err-settled.result c.from_residual-in_err-settled.ensures.0 c.in_err-settled.ensures.numbers)

pub returns-clause-marked : goal.returns-clause-marked
returns-clause-marked g c =
    let both : State → Marked → Type 0 = λ s m. (m.rows.items ≡ listed_rows c.args.wanted s) × (m.settled.items ≡ settled_numbers s) in
    let second : State → Marked → Type 0 = λ s m. c.in_ok-rows.rows.items ≡ listed_rows c.args.wanted s
    → (m.rows.items ≡ listed_rows c.args.wanted s) × (m.settled.items ≡ settled_numbers s) in
    read_then _ second both _ _ _ _ _ (λ s m rests known more. more known) c.in_ok-rows.ensures.documents
    (read_ok _ second _ _ c.in_ok-settled.settled (record { rows = c.in_ok-rows.rows; settled = c.in_ok-settled.settled })
    (λ s rests numbers known. (known, numbers)) c.in_ok-settled.ensures.numbers)

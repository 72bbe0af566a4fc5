use Rattle.std.proofs.Common.{◌≡◌, ◌∙◌, ap}
use Rattle.sqlite.specs.Held.{state}
use Rattle.as2_records.specs.Counting.{counts_of}
use Rattle.as2_store.specs.Counting.{details_of}
use Rattle.as2_store.proofs.ReadsBy.{read_bad, read_of, read_ok, read_then}
use Rattle.as2_store.proofs.store.Store.counts.Goals as goal

pub returns-in_err-receipt_stages-clause-counts : goal.returns-in_err-receipt_stages-clause-counts
returns-in_err-receipt_stages-clause-counts g c =
    read_of _ _ _ _ _ (ap (state g.S.Store) c.self.view_is)
    (read_then _ _ (λ s counts. counts ≡ counts_of s) _ _ _ _ c.from_residual-in_err-receipt_stages.result
    (λ s found rests known more. more) c.in_ok-details.ensures.details
    (read_bad _ (λ s counts. counts ≡ counts_of s) _ _ _ c.from_residual-in_err-receipt_stages.result c.from_residual-in_err-receipt_stages.ensures.0
    c.in_err-receipt_stages.ensures.receipt_stages))

pub returns-clause-counts : goal.returns-clause-counts
returns-clause-counts g c =
    read_of _ _ _ _ _ (ap (state g.S.Store) c.self.view_is)
    (read_then _ (λ s counts. c.in_ok-details.details.items ≡ details_of s → counts ≡ counts_of s) (λ s counts. counts ≡ counts_of s) _ _ _ _ _
    (λ s counts rests known more. more known) c.in_ok-details.ensures.details
    (read_ok _ (λ s counts. c.in_ok-details.details.items ≡ details_of s → counts ≡ counts_of s) _ _ c.in_ok-receipt_stages.receipt_stages c.counted.result
    (λ s rests owed known. c.counted.ensures s (c.as_slice.ensures.value ∙ known)
    (c.as_slice-2.ensures.value ∙ owed)) c.in_ok-receipt_stages.ensures.receipt_stages))

use Rattle.std.proofs.Common.{◌≡◌, ◌∙◌}
use Rattle.as2_exchange.specs.Due.{least}
use Rattle.as2_rows.specs.Waiting.{kind_code}
use Rattle.as2_records.specs.Due.{numbers_behind}
use Rattle.as2_store.specs.Due.{due_numbers}
use Rattle.as2_store.proofs.ReadsBy.{mapped, read_bad, read_then, read_told, reads_told}
use Rattle.as2_store.proofs.due.least_due.Goals as goal

pub returns-in_err-rows-clause-due : goal.returns-in_err-rows-clause-due
returns-in_err-rows-clause-due g c =
    let none = mapped _ _ _ _ _ _ _ c.map_err.ensures.cases c.in_ok-any.was c.any_due_rows.ensures.rows in
    read_then _ (λ _ _. ⊥) _ _ _ _ c.in_ok-any.any c.from_residual-in_err-rows.result (λ s b r some none. absurd none) none
    (read_bad _ (λ _ _. ⊥) _ _ c.map_err-2.result c.from_residual-in_err-rows.result c.from_residual-in_err-rows.ensures.0
    (reads_told _ _ _ _ _ _ _ c.map_err-2.ensures.cases (λ s rows r found. found) c.least_due_rows.ensures.rows))

pub returns-clause-due : goal.returns-clause-due
returns-clause-due g c =
    let none = mapped _ _ _ _ _ _ _ c.map_err.ensures.cases c.in_ok-any.was c.any_due_rows.ensures.rows in
    let rows = mapped _ _ _ _ _ _ _ c.map_err-2.ensures.cases c.in_ok-rows.was c.least_due_rows.ensures.rows in
    read_then _ _ _ _ _ _ c.in_ok-any.any c.map_err-3.result (λ s b r some is. is) none
    (read_told _ (λ s number. number ≡ least
    (numbers_behind c.args.behind (due_numbers (kind_code c.args.wait) c.args.moment s))) _ _ c.in_ok-rows.rows c.number_in.result _ _ _
    c.map_err-3.ensures.cases c.number_in.ensures
    (λ s found told shown. told (least (numbers_behind c.args.behind (due_numbers (kind_code c.args.wait) c.args.moment s)))
    (c.deref.ensures.value ∙ shown)) rows)

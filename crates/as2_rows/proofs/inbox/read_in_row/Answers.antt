use Rattle.std.proofs.Common.{◌∙◌, sym, refl, arith}
use Rattle.as2_rows.proofs.Columns.{columns_are, same}
use Rattle.as2_rows.proofs.inbox.read_in_row.Goals as goal

pub returns-clause-shown : goal.returns-clause-shown
returns-clause-shown c =
    columns_are c.args.row.now 17 (omega (arith, c.column_count.ensures, c.if-column_count-ne-COLUMNS.false))
    ∙ (same (sym c.column.ensures ∙ c.in_ok-whole.ensures.read)
    (same (sym c.column-2.ensures ∙ c.in_ok-name.ensures.read)
    (same (sym c.column-3.ensures ∙ c.in_ok-name-2.ensures.read)
    (same (sym c.column-4.ensures ∙ c.in_ok-identifier_of.ensures.key)
    (same (sym c.column-5.ensures ∙ c.in_ok-identifier_of.ensures.read)
    (same (sym c.column-6.ensures ∙ c.in_ok-text.ensures.read)
    (same (sym c.column-7.ensures ∙ c.in_ok-whole-2.ensures.read)
    (same (sym c.column-8.ensures ∙ c.in_ok-moment.ensures.read)
    (same (sym c.column-9.ensures ∙ c.in_ok-outcome_in.ensures.read)
    (same (sym c.column-10.ensures ∙ c.in_ok-how.ensures.code)
    (same (sym c.column-11.ensures ∙ c.in_ok-how.ensures.url)
    (same (sym c.column-12.ensures ∙ c.in_ok-mic.ensures.digest)
    (same (sym c.column-13.ensures ∙ c.in_ok-mic.ensures.text)
    (same (sym c.column-14.ensures ∙ c.in_ok-receipt_stage_in.ensures.read)
    (same (sym c.column-15.ensures ∙ c.in_ok-whole-3.ensures.read)
    (same (sym c.column-16.ensures ∙ c.in_ok-attempt_in.ensures.read)
    (same (sym c.column-17.ensures ∙ c.in_ok-whole_or_null.ensures.read)
    refl)))))))))))))))))

use Rattle.std.proofs.Common.{List, ℕ, Some, ap, sym, ◌∙◌}
use Rattle.as2_mic.proofs.Fields.{no_field, empty_mic, empty_digest, the_field}
use Rattle.as2_mic.proofs.field.MicField.parse.Goals as goal
use Rattle.as2_mic.proofs.field.MicField.parse.Goals.{then-is_empty-via-then-is_empty, then-is_empty-via-else-is_empty+then-is_empty-2}

pub returns-in_default-clause-only : goal.returns-in_default-clause-only
returns-in_default-clause-only c field f = absurd (no_field c.args.value.now field c.in_default.ensures.whole f)

pub returns-in_default-clause-none : goal.returns-in_default-clause-none
returns-in_default-clause-none c field f = no_field c.args.value.now field c.in_default.ensures.whole f

pub returns-then-is_empty-clause-none : goal.returns-then-is_empty-clause-none
returns-then-is_empty-clause-none c field f =
    elim c.then-is_empty.branch [
      | then-is_empty-via-then-is_empty w ↦
          empty_mic c.args.value.now c.in-Some.before.now c.in-Some.behind.now c.without_blanks_and_line_ends-mic.result.now field c.in-Some.ensures.cut c.without_blanks_and_line_ends-mic.ensures (sym c.is_empty.ensures ∙ w.if-is_empty.true) f
      | then-is_empty-via-else-is_empty+then-is_empty-2 w ↦
          empty_digest c.args.value.now c.in-Some.before.now c.in-Some.behind.now c.without_blanks_and_line_ends-digest.result.now field c.in-Some.ensures.cut c.without_blanks_and_line_ends-digest.ensures (sym w.is_empty-else-is_empty.ensures ∙ w.if-is_empty-2.true) f
    ]

pub returns-then-is_empty-clause-only : goal.returns-then-is_empty-clause-only
returns-then-is_empty-clause-only c field f = absurd (returns-then-is_empty-clause-none c field f)

pub returns-clause-only : goal.returns-clause-only
returns-clause-only c field f =
    ap (λ (x : List ℕ × List ℕ). Some x)
    (the_field c.args.value.now c.in-Some.before.now c.in-Some.behind.now c.without_blanks_and_line_ends-mic.result.now c.without_blanks_and_line_ends-digest.result.now field c.in-Some.ensures.cut c.without_blanks_and_line_ends-mic.ensures c.without_blanks_and_line_ends-digest.ensures f)

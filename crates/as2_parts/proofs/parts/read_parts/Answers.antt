use Rattle.std.proofs.Common.{true, sym, ap, ◌∙◌}
use Rattle.std.specs.Prelude.{◌≡◌}
use Rattle.std.specs.List.{list_any}
use Rattle.std.proofs.lemmas.Bool.{or_from, or_left, or_right}
use Rattle.as2_parts.specs.Lines.{lines, is_closing, without_line_end}
use Rattle.as2_parts.specs.Parts.{part_in}
use Rattle.as2_parts.proofs.Reading.{HasDelimiter, unclosed, closing_after, reads_unclosed, reads_one, reads_two}
use Rattle.as2_parts.proofs.parts.read_parts.Goals as goal
use Rattle.as2_parts.proofs.parts.read_parts.Goals.{else-not-is_closing-via-then-not-is_closing+else-not-has_closing, else-not-is_closing-via-else-not-is_closing}

pub returns-in_default-next_mark : goal.returns-in_default-next_mark
returns-in_default-next_mark c =
    let b = c.args.boundary.now in
    let after = lines c.in-Some.opening.after.now in
    let o : HasDelimiter b c.args.body.now c.in-Some.opening.line.now after =
    record { found = c.in-Some.ensures.found; opens = sym c.is_closing.ensures ∙ c.if-is_closing.false } in
    reads_unclosed b c.args.body.now c.in-Some.opening.line.now after o (unclosed b after c.in_default-next_mark.ensures.none)

pub returns-then-is_closing-2 : goal.returns-then-is_closing-2
returns-then-is_closing-2 c =
    let b = c.args.boundary.now in
    let after = lines c.in-Some.opening.after.now in
    let o : HasDelimiter b c.args.body.now c.in-Some.opening.line.now after =
    record { found = c.in-Some.ensures.found; opens = sym c.is_closing.ensures ∙ c.if-is_closing.false } in
    reads_one b c.args.body.now c.in-Some.opening.line.now after c.in-Some-next_mark.between.line.now
    (lines c.in-Some-next_mark.between.after.now) o c.in-Some-next_mark.ensures.found (sym c.is_closing-2.ensures ∙ c.if-is_closing-2.true)

pub returns-in_default-next_mark-2 : goal.returns-in_default-next_mark-2
returns-in_default-next_mark-2 c =
    let b = c.args.boundary.now in
    let after = lines c.in-Some.opening.after.now in
    let rest = lines c.in-Some-next_mark.between.after.now in
    let o : HasDelimiter b c.args.body.now c.in-Some.opening.line.now after =
    record { found = c.in-Some.ensures.found; opens = sym c.is_closing.ensures ∙ c.if-is_closing.false } in
    let goes = sym c.is_closing-2.ensures ∙ c.if-is_closing-2.false in
    let none = or_from (is_closing b c.in-Some-next_mark.between.line.now) (list_any (is_closing b) rest) goes
    (unclosed b rest c.in_default-next_mark-2.ensures.none) in
    reads_unclosed b c.args.body.now c.in-Some.opening.line.now after o
    (closing_after b after c.in-Some-next_mark.between.line.now rest c.in-Some-next_mark.ensures.found ∙ none)

pub returns-then-not-has_closing : goal.returns-then-not-has_closing
returns-then-not-has_closing c =
    let b = c.args.boundary.now in
    let after = lines c.in-Some.opening.after.now in
    let rest = lines c.in-Some-next_mark.between.after.now in
    let end = c.in-Some-next_mark-2.end.line.now in
    let behind = lines c.in-Some-next_mark-2.end.after.now in
    let o : HasDelimiter b c.args.body.now c.in-Some.opening.line.now after =
    record { found = c.in-Some.ensures.found; opens = sym c.is_closing.ensures ∙ c.if-is_closing.false } in
    let goes = sym c.is_closing-2.ensures ∙ c.if-is_closing-2.false in
    let last = closing_after b rest end behind c.in-Some-next_mark-2.ensures.found
    ∙ or_from (is_closing b end) (list_any (is_closing b) behind) (sym c.is_closing-3.ensures ∙ c.if-not-is_closing.true)
    (sym c.has_closing.ensures ∙ c.if-not-has_closing.true) in
    let none = or_from (is_closing b c.in-Some-next_mark.between.line.now) (list_any (is_closing b) rest) goes last in
    reads_unclosed b c.args.body.now c.in-Some.opening.line.now after o
    (closing_after b after c.in-Some-next_mark.between.line.now rest c.in-Some-next_mark.ensures.found ∙ none)

closing_follows : (c : goal.After-part_in-2) → list_any (is_closing c.args.boundary.now) (lines c.in-Some-next_mark.between.after.now) ≡ true
closing_follows c =
    let b = c.args.boundary.now in
    let end = c.in-Some-next_mark-2.end.line.now in
    let behind = lines c.in-Some-next_mark-2.end.after.now in
    closing_after b (lines c.in-Some-next_mark.between.after.now) end behind c.in-Some-next_mark-2.ensures.found
    ∙ elim c.else-not-is_closing.branch [
      | else-not-is_closing-via-then-not-is_closing+else-not-has_closing w ↦ or_right (is_closing b end) (list_any (is_closing b) behind)
          (sym w.has_closing.ensures ∙ w.if-not-has_closing.false)
      | else-not-is_closing-via-else-not-is_closing w ↦ or_left (is_closing b end) (list_any (is_closing b) behind)
          (sym c.is_closing-3.ensures ∙ w.if-not-is_closing.false)
    ]

pub returns : goal.returns
returns c =
    let b = c.args.boundary.now in
    let after = lines c.in-Some.opening.after.now in
    let rest = lines c.in-Some-next_mark.between.after.now in
    let o : HasDelimiter b c.args.body.now c.in-Some.opening.line.now after =
    record { found = c.in-Some.ensures.found; opens = sym c.is_closing.ensures ∙ c.if-is_closing.false } in
    let first = c.part_in.ensures ∙ ap part_in (c.without_line_end.ensures ∙ ap without_line_end (sym c.in-Some-next_mark.ensures.front)) in
    let second = c.part_in-2.ensures ∙ ap part_in (c.without_line_end-2.ensures ∙ ap without_line_end (sym c.in-Some-next_mark-2.ensures.front)) in
    rw (first, second) (reads_two b c.args.body.now c.in-Some.opening.line.now after c.in-Some-next_mark.between.line.now rest o c.in-Some-next_mark.ensures.found (sym c.is_closing-2.ensures ∙ c.if-is_closing-2.false) (closing_follows c))

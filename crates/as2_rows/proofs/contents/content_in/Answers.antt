use Rattle.std.proofs.Common.{◌≡◌, ℕ, List, length, map, ◌+◌, ◌-◌, min, ◌∙◌, sym, ap, subst, arith, rules}
use Rattle.std.proofs.lemmas.Bool.Decides.{nat_tests}
use Rattle.as2_mic.specs.Pieces.{piece_size}
use Rattle.as2_rows.specs.Contents.{piece_bytes, pieces, piece_shown}
use Rattle.as2_rows.proofs.Joining.{Joined, one_more, all_taken, as_many, as_long, read_here, piece_here, count_is, joined_more, min_lesser}
use Rattle.as2_rows.proofs.contents.content_in.Goals.{then-is_empty-via-then-is_empty, then-is_empty-via-else-is_empty+then-bytes-min}
use Rattle.as2_rows.proofs.contents.content_in.Goals as goal

pub returns-in_err-bytes-clause-taken : goal.returns-in_err-bytes-clause-taken
returns-in_err-bytes-clause-taken c =
    let memory = λ (content : List ℕ) (all : c.args.rows.now ≡ map piece_shown (pieces c.args.number content)).
    c.in_err-bytes.ensures.taken (piece_bytes content c.rows.row-index)
    (c.row-item.is
    ∙ piece_here c.args.rows.now c.args.number c.args.size content c.rows.content c.rows.row-index c.row-item.result c.rows.invariant.0 all c.rows-test.true
    ∙ ap (λ k. piece_shown (record { number = c.args.number; position = k; bytes = piece_bytes content c.rows.row-index })) (sym c.count.ensures)) in
    search (rules, memory)

pub returns-then-is_empty-clause-taken : goal.returns-then-is_empty-clause-taken
returns-then-is_empty-clause-taken c content long all =
    let read = read_here c.args.rows.now c.args.number content c.rows.row-index c.row-item.result _ all c.rows-test.true
    (sym c.in_ok-bytes.ensures.shown ∙ c.row-item.is) in
    let bytes = ap length read in
    let wanted = as_long c.args.rows.now c.args.number c.args.size content c.rows.content c.rows.row-index all long c.rows.invariant.0 c.rows-test.true in
    elim c.then-is_empty.branch [
      | then-is_empty-via-then-is_empty w ↦ let empty = w.if-is_empty.ensures in absurd (grind (arith, nat_tests))
      | then-is_empty-via-else-is_empty+then-bytes-min w ↦ absurd
          (w.if-bytes-min.true (bytes ∙ wanted.1 ∙ ap (λ n. min piece_size (c.args.size - n)) (sym c.len.ensures)
          ∙ sym (min_lesser piece_size (c.args.size - c.len.result)) ∙ sym w.min.ensures))
    ]

pub rows-preserved : goal.rows-preserved
rows-preserved c =
    let read = λ (n : ℕ) (content : List ℕ) (all : c.args.rows.now ≡ map piece_shown (pieces n content)).
    read_here c.args.rows.now n content c.rows.row-index c.row-item.result _ all c.rows-test.true (sym c.in_ok-bytes.ensures.shown ∙ c.row-item.is) in
    let some = c.if-is_empty.ensures in
    let more = joined_more c.args.rows.now c.args.number c.args.size c.rows.content c.in_ok-bytes.bytes.now c.rows.row-index c.row-item.result
    c.rows.invariant.0 c.rows-test.true
    (sym c.row-item.is ∙ c.in_ok-bytes.ensures.shown
    ∙ ap (λ k. piece_shown (record { number = c.args.number; position = k; bytes = c.in_ok-bytes.bytes.now }))
    (c.count.ensures ∙ count_is c.rows.content c.args.size c.rows.row-index c.rows.invariant.0.long c.rows.invariant.0.needed))
    (grind (arith, nat_tests))
    (c.if-bytes-min.false ∙ c.min.ensures ∙ min_lesser piece_size (c.args.size - c.len.result) ∙ ap (λ n. min piece_size (c.args.size - n)) c.len.ensures) in (
      subst (λ l. Joined c.args.rows.now c.args.number c.args.size l (c.rows.row-index + 1)) (sym c.in_ok-append.ensures.ok) more,
      λ n content all. c.in_ok-append.ensures.ok
          ∙ one_more content c.rows.content c.in_ok-bytes.bytes.now c.rows.row-index (c.rows.invariant.1 n content all) (read n content all),
    )

pub returns-then-len-size-clause-taken : goal.returns-then-len-size-clause-taken
returns-then-len-size-clause-taken c content long all =
    let taken = c.rows.invariant.1 c.args.number content all
    ∙ all_taken content c.rows.row-index (omega (arith, c.rows-test.false, as_many c.args.rows.now c.args.number content all)) in
    absurd (omega (arith, c.if-len-size.true, c.len-2.ensures, ap length taken, long))

pub returns-clause-read : goal.returns-clause-read
returns-clause-read c n content all = c.rows.invariant.1 n content all
    ∙ all_taken content c.rows.row-index (omega (arith, c.rows-test.false, as_many c.args.rows.now n content all))

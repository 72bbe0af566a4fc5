use Rattle.std.proofs.Common.{◌≡◌, ◌<◌, ℕ, List, [], length, take, sym, rules, subst, arith}
use Rattle.std.specs.Io.KnownBytes.{Consumes}
use Rattle.as2_http.proofs.InputReads.{piece_of}
use Rattle.as2_http.proofs.Serving.{next_answered, serves_ended, serves_fault, taken_on}
use Rattle.as2_http.proofs.stream.answer_next.Goals as goal

-- the read failed
pub returns-in_default-clause-answered : goal.returns-in_default-clause-answered
returns-in_default-clause-answered g c = λ clean s input before calls w. serves_fault w (c.pull.ensures.kept (search rules)) c.pull.ensures.calls

-- the input ended
pub returns-then-count-eq0-clause-answered : goal.returns-then-count-eq0-clause-answered
returns-then-count-eq0-clause-answered g c = λ clean s input before calls w.
    let unread = g.R.Source.left c.args.source.now in
    let after = g.R.Source.left c.pull.new.source in
    let none : c.in-Some.count ≡ 0 = search rules in
    serves_ended w after
    (subst (λ (n : ℕ). Consumes unread after (take n c.pull.new.buffer.items)) none c.in-Some.ensures.given)
    (c.pull.ensures.ended (search rules) (omega (arith, c.requires.room))) c.pull.ensures.calls
    c.ended.ensures.closed c.ended.ensures.truncated c.ended.ensures.one

pub returns-clause-answered : goal.returns-clause-answered
returns-clause-answered g c = λ clean s input before calls w.
    let unread = g.R.Source.left c.args.source.now in
    let after = g.R.Source.left c.pull.new.source in
    let piece = take c.in-Some.count c.deref.result.now in
    let given : Consumes unread after piece =
    subst (λ (x : List ℕ). Consumes unread after (take c.in-Some.count x)) (sym c.deref.ensures.value) c.in-Some.ensures.given in
    next_answered w (piece_of unread after w.reads.left piece given w.reads.known) (search rules) c.pull.ensures.calls c.answer_piece.result
    (subst (λ (x : List ℕ). 0 < length (take c.in-Some.count x)) (sym c.deref.ensures.value) (search rules))
    (λ left. c.answer_piece.ensures.answered clean w.mid w.rests w.held left w.taken)

pub returns-clause-posts : goal.returns-clause-posts
returns-clause-posts g c = λ clean s mid rests ran.
    taken_on ran (c.answer_piece.ensures.answered clean mid rests c.requires.held.0 [] c.requires.held.1)

use Rattle.std.proofs.Common.{◌≡◌, ◌∙◌, true, false, [], rules, arith}
use Rattle.std.proofs.lemmas.List.{nil_from_length}
use Rattle.as2_framing.proofs.Feeding.{rest_of}
use Rattle.as2_http.proofs.Faults.{cut_sound, sent_sound}
use Rattle.as2_http.proofs.Streaming.{begins_piece, proceeds_on, piece_open, piece_taken, piece_last, piece_cut, piece_refused, piece_refusal_cut, piece_unread, replied_whole}
use Rattle.as2_http.proofs.stream.answer_piece.Goals as goal

pub loop-rest-init : goal.loop-rest-init
loop-rest-init g c = (λ clean. clean, omega arith, c.requires.held, λ clean s rests held left taken. begins_piece held rests taken)

pub returns-in-Ok-Open-clause-answered : goal.returns-in-Ok-Open-clause-answered
returns-in-Ok-Open-clause-answered g c = λ clean s rests held left taken.
    let w = c.loop-rest.invariant.3 clean s rests held left taken in
    let told = rw c.in-Ok-Open.field-0-is at (c.in-Ok-Open.ensures.parses w.held w.taken) in
    piece_open w told.1

-- ---- a request ends

pub returns-in-Err-reply-clause-answered : goal.returns-in-Err-reply-clause-answered
returns-in-Err-reply-clause-answered g c = λ clean s rests held left taken.
    let w = c.loop-rest.invariant.3 (c.reply.ensures.clean clean) s rests held left taken in
    let e = rw c.in-Ok-Request.field-0-is at (c.in-Ok-Request.ensures.parses w.held w.taken) in
    rw c.end_by.ensures.end (piece_cut w e.begins c.in-Err-reply.is (c.reply.ensures.replied clean w.mid w.rests))

pub returns-then-last-clause-answered : goal.returns-then-last-clause-answered
returns-then-last-clause-answered g c = λ clean s rests held left taken.
    let w = c.loop-rest.invariant.3 (c.reply.ensures.clean clean) s rests held left taken in
    let e = rw c.in-Ok-Request.field-0-is at (c.in-Ok-Request.ensures.parses w.held w.taken) in
    let ends : c.in-Ok-Request.request.last ≡ true = search rules in
    piece_last w e.begins (replied_whole c.in_default.is (c.reply.ensures.replied clean w.mid w.rests)) ends

pub loop-rest-preserved : goal.loop-rest-preserved
loop-rest-preserved g c = (
  λ clean. c.loop-rest.invariant.0 (c.reply.ensures.clean clean),
  sent_sound c.in_default.is c.reply.ensures.sound ∙ c.loop-rest.invariant.1,
  (
    [],
    (let e = rw c.in-Ok-Request.field-0-is at (c.in-Ok-Request.ensures.parses c.loop-rest.invariant.2.0 c.loop-rest.invariant.2.1) in e.empty),
  ),
  λ clean s rests held left taken.
      let w = c.loop-rest.invariant.3 (c.reply.ensures.clean clean) s rests held left taken in
      let e = rw c.in-Ok-Request.field-0-is at (c.in-Ok-Request.ensures.parses w.held w.taken) in
      let go : c.in-Ok-Request.request.last ≡ false = search rules in
      rw (rest_of c.in-Ok-Request.used c.loop-rest.rest.now)
      (proceeds_on w e.begins (replied_whole c.in_default.is (c.reply.ensures.replied clean w.mid w.rests)) e.empty go),
)

-- ---- no request begins

pub returns-in-Ok-clause-answered : goal.returns-in-Ok-clause-answered
returns-in-Ok-clause-answered g c = λ clean s rests held left taken.
    let w = c.loop-rest.invariant.3 clean s rests held left taken in
    let e = rw c.in-Ok-Refused.field-0-is at (c.in-Ok-Refused.ensures.parses w.held w.taken) in
    piece_refused w e c.in-Ok.is (record { sends = c.refuse.ensures.sends; noted = c.refuse.ensures.noted })

pub returns-in-Err-refuse-clause-answered : goal.returns-in-Err-refuse-clause-answered
returns-in-Err-refuse-clause-answered g c = λ clean s rests held left taken.
    let w = c.loop-rest.invariant.3 clean s rests held left taken in
    let e = rw c.in-Ok-Refused.field-0-is at (c.in-Ok-Refused.ensures.parses w.held w.taken) in
    rw c.end_by-in-Err-refuse.ensures.end
    (piece_refusal_cut w e c.in-Err-refuse.is (record { sends = c.refuse.ensures.sends; noted = c.refuse.ensures.noted }))

-- ---- the piece is taken, or memory is wanting

pub returns-in-Err-clause-answered : goal.returns-in-Err-clause-answered
returns-in-Err-clause-answered g c = λ clean s rests held left taken. piece_unread (c.loop-rest.invariant.3 clean s rests held left taken)

pub returns-clause-answered : goal.returns-clause-answered
returns-clause-answered g c = λ clean s rests held left taken.
    piece_taken (c.loop-rest.invariant.3 clean s rests held left taken) (nil_from_length c.loop-rest.rest.now (search rules))

-- ---- each write that failed is told

pub returns-in-Err-reply-clause-sound : goal.returns-in-Err-reply-clause-sound
returns-in-Err-reply-clause-sound g c = λ told.
    cut_sound c.in-Err-reply.fault c.in-Err-reply.is c.end_by.ensures.end c.reply.ensures.sound told ∙ c.loop-rest.invariant.1

pub returns-then-last-clause-sound : goal.returns-then-last-clause-sound
returns-then-last-clause-sound g c = λ told. sent_sound c.in_default.is c.reply.ensures.sound ∙ c.loop-rest.invariant.1

pub returns-in-Ok-clause-sound : goal.returns-in-Ok-clause-sound
returns-in-Ok-clause-sound g c = λ told. sent_sound c.in-Ok.is c.refuse.ensures.sound ∙ c.loop-rest.invariant.1

pub returns-in-Err-refuse-clause-sound : goal.returns-in-Err-refuse-clause-sound
returns-in-Err-refuse-clause-sound g c = λ told.
    cut_sound c.in-Err-refuse.fault c.in-Err-refuse.is c.end_by-in-Err-refuse.ensures.end c.refuse.ensures.sound told ∙ c.loop-rest.invariant.1

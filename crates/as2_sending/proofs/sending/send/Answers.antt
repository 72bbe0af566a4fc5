use Rattle.std.proofs.Common.{Bool, ◌≡◌, ◌∙◌, true, Err, ap, refl, arith}
use Rattle.std.proofs.KnownBytes.{Appends-nil}
use Rattle.std.specs.Bool.{⊤}
use Rattle.std.specs.Io.KnownBytes.{Appends}
use Rattle.as2_exchange.specs.declared.fault.StoreFault.TheVariants.{Refused}
use Rattle.as2_sending.specs.Exchanges.{Exchanges}
use Rattle.as2_sending.proofs.Turning.{joined, sends_first, sends_on, sends_ended, sends_given_up}
use Rattle.as2_sending.specs.declared.sent.Sent.{Sent}
use Rattle.as2_sending.specs.declared.sent.Sent.TheVariants.{Unwritten}
use Rattle.std.specs.Prelude.{Result}
use Rattle.as2_sending.proofs.sending.send.Goals as goal

pub loop-init : goal.loop-init
loop-init g c = (
  λ clean. clean,
  λ clean s rests.
      let hinted = g.E.Write.contents c.args.hints.now in
      sends_first c.args.agreements.now c.args.moment s (g.K.Records.shows c.args.station.now) (g.W.Sink.written c.args.output.now)
      (λ text made. (true ≡ true → Appends hinted hinted text) × Exchanges g.L.Links.answers c.args.links.now made c.args.links.now)
      (λ _. Appends-nil hinted, refl) rests,
  refl,
)

pub returns-in-Err-clause-sends : goal.returns-in-Err-clause-sends
returns-in-Err-clause-sends g c = λ clean s rests.
    let before = c.take_turn.ensures.clean clean in
    let w = c.loop.invariant.1 before s rests in
    let first = g.E.Write.contents c.args.hints.now in
    let mid = g.E.Write.contents c.loop.hints in
    let last = g.E.Write.contents c.take_turn.new.hints in
    sends_ended Bool c.args.agreements.now c.args.moment s (g.K.Records.shows c.loop.station) (g.K.Records.shows c.take_turn.new.station)
    (g.W.Sink.written c.args.output.now) (g.W.Sink.written c.loop.output) (g.W.Sink.written c.take_turn.new.output)
    _ _ _ (joined g.L.Links.answers (c.loop.told ≡ true) ⊤ (c.loop.told ≡ true) first mid last c.args.links.now c.loop.links c.take_turn.new.links
    (λ told. (told, tt)))
    c.in-Err.end w (c.in-Err.ensures.turned clean w.mid w.rests)

pub returns-clause-sends : goal.returns-clause-sends
returns-clause-sends g c = λ clean s rests.
    sends_given_up c.args.agreements.now c.args.moment s (g.K.Records.shows c.loop.station) (g.W.Sink.written c.args.output.now)
    (g.W.Sink.written c.loop.output) _ Refused refl (c.loop.invariant.1 clean s rests)

pub loop-preserved : goal.loop-preserved
loop-preserved g c = (
  λ clean. c.loop.invariant.0 (c.take_turn.ensures.clean clean),
  λ clean s rests.
      let A = c.args.agreements.now in
      let now = g.W.Sink.written c.loop.output in
      let later = g.W.Sink.written c.take_turn.new.output in
      let first = g.E.Write.contents c.args.hints.now in
      let mid = g.E.Write.contents c.loop.hints in
      let last = g.E.Write.contents c.take_turn.new.hints in
      let d = g.K.Records.shows c.take_turn.new.station in
      let w = c.loop.invariant.1 (c.take_turn.ensures.clean clean) s rests in
      sends_on Bool A c.args.moment s (g.K.Records.shows c.loop.station) d (g.W.Sink.written c.args.output.now) now later
      _ _ _ (joined g.L.Links.answers (c.loop.told ≡ true) (c.in-Ok.hinted ≡ true)
      (c.both-told.result ≡ true) first mid last c.args.links.now c.loop.links c.take_turn.new.links c.both-told.ensures)
      c.in-Ok.hinted w (c.in-Ok.ensures.turned clean w.mid w.rests),
  c.in-Ok.ensures.sound (λ bad. cc) ∙ c.loop.invariant.2,
)

pub returns-in-Err-clause-unwritten : goal.returns-in-Err-clause-unwritten
returns-in-Err-clause-unwritten g c = λ is. let more =
    c.in-Err.ensures.unwritten (ap (λ (end : Sent). let r : Result Bool Sent = Err end in r) is) in omega (arith, c.loop.invariant.2, more)

pub returns-in-Err-clause-sound : goal.returns-in-Err-clause-sound
returns-in-Err-clause-sound g c = λ other. c.in-Err.ensures.sound (λ is. other (let same : c.in-Err.end ≡ Unwritten = cc in same)) ∙ c.loop.invariant.2

-- (what is told then is another end)
pub returns-clause-sound : goal.returns-clause-sound
returns-clause-sound g c = λ _. c.loop.invariant.2

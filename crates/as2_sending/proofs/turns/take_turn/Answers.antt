use Rattle.std.proofs.Common.{Bool, refl}
use Rattle.std.proofs.KnownBytes.{Appends-nil}
use Rattle.std.specs.Bool.{⊤}
use Rattle.std.specs.Io.KnownBytes.{Appends}
use Rattle.as2_sending.specs.Exchanges.{Exchanges}
use Rattle.as2_sending.proofs.Turning.{next_fails}
use Rattle.as2_sending.proofs.turns.take_turn.Goals as goal

pub returns-in-Err-clause-turned : goal.returns-in-Err-clause-turned
returns-in-Err-clause-turned g c = λ clean s rests.
    let hinted = g.E.Write.contents c.args.hints.now in
    let links = c.args.links.now in
    next_fails Bool c.args.agreements.now c.args.moment s (g.K.Records.shows c.next.new.self) (g.W.Sink.written c.args.output.now)
    (λ text more. (⊤ → Appends hinted hinted text) × Exchanges g.L.Links.answers links more links) c.in-Err.fault
    (λ _. Appends-nil hinted, refl) c.in-Err.ensures.fault (c.in-Err.ensures.next.same clean s rests)

use Rattle.std.proofs.Common.{Bool, IfOk, ◌≡◌, ◌∙◌, refl, Err, true, rules, sym, subst}
use Rattle.std.proofs.KnownBytes.{Appends-nil}
use Rattle.std.specs.Bool.{⊤}
use Rattle.std.specs.Io.KnownBytes.{Appends}
use Rattle.as2_http.specs.Sending.{AppendsPart}
use Rattle.as2_sending.specs.Exchanges.{Exchanges}
use Rattle.as2_sending.specs.Hints.{hint_if}
use Rattle.as2_sending.specs.Turns.{TurnsTo}
use Rattle.as2_sending.specs.declared.hints.Why.{Why}
use Rattle.as2_sending.proofs.Turning.{close_ends, turn_told, turn_untold}
use Rattle.as2_sending.proofs.turns.turn.Goals as goal

pub returns-in_err-became-clause-turned : goal.returns-in_err-became-clause-turned
returns-in_err-became-clause-turned g c = λ clean s rests is.
    let begun = c.in_ok-job.ensures.begun (c.close.ensures.clean clean) s rests is in
    let closed = c.in_err-became.ensures.closed clean s begun.0 c.in_ok-job.job begun.1 begun.2 in
    let new = g.K.Records.shows c.close.new.station in
    let now = g.W.Sink.written c.args.output.now in
    let hinted = g.E.Write.contents c.args.hints.now in
    let first = c.args.links.now in
    let then = c.exchange-got.new.self in
    let end : c.from_residual-in_err-became.result ≡ Err c.in_err-became.field-0.0 = search rules in
    subst (λ r. TurnsTo {U = Bool} c.args.agreements.now c.args.moment s new now now
    (λ text made. (IfOk r (λ told. told ≡ true) → Appends hinted hinted text) × Exchanges g.L.Links.answers first made then) r) (sym end)
    (close_ends Bool c.args.agreements.now c.args.moment s c.args.what (record { job = c.in_ok-job.job; got = c.exchange-got.result }) begun.0 new now
    (λ text made. (⊤ → Appends hinted hinted text) × Exchanges g.L.Links.answers first made then) c.in_err-became.field-0.0
    (λ _. Appends-nil hinted, (c.exchange-got.new.self, c.exchange-got.ensures, refl)) closed)

pub returns-in-Ok-clause-turned : goal.returns-in-Ok-clause-turned
returns-in-Ok-clause-turned g c = λ clean s rests is.
    let before = g.W.Sink.written c.args.output.now in
    let after = g.W.Sink.written c.push_all.new.sink in
    let hinted = g.E.Write.contents c.args.hints.now in
    let later = g.E.Write.contents c.is_hinted.new.hints in
    let begun = c.in_ok-job.ensures.begun (c.close.ensures.clean clean) s rests is in
    let closed = c.in_ok-became.ensures.closed clean s begun.0 c.in_ok-job.job begun.1 begun.2 in
    turn_told Bool c.args.agreements.now c.args.moment s c.args.what c.exchange-got.result c.fault.result c.in_ok-job.job begun.0
    (g.K.Records.shows c.close.new.station) before after
    (λ text made. (c.is_hinted.result ≡ true → Appends hinted later text)
    × Exchanges g.L.Links.answers c.args.links.now made c.exchange-got.new.self) c.in_ok-became.became c.is_hinted.result
    begun.1 closed (subst (Appends before after) (c.as_bytes.ensures.value ∙ c.as_str.ensures.value ∙ c.line.ensures) c.in-Ok.ensures.whole) (
      subst (λ (why : Why). c.is_hinted.result ≡ true
          → Appends hinted later (hint_if c.args.what c.in_ok-became.became why)) c.why_of-why.ensures c.is_hinted.ensures,
      (c.exchange-got.new.self, c.exchange-got.ensures, refl),
    )

pub returns-clause-turned : goal.returns-clause-turned
returns-clause-turned g c = λ clean s rests is.
    let before = g.W.Sink.written c.args.output.now in
    let after = g.W.Sink.written c.push_all.new.sink in
    let hinted = g.E.Write.contents c.args.hints.now in
    let begun = c.in_ok-job.ensures.begun (c.close.ensures.clean clean) s rests is in
    let closed = c.in_ok-became.ensures.closed clean s begun.0 c.in_ok-job.job begun.1 begun.2 in
    let part = subst (AppendsPart before after) (c.as_bytes.ensures.value ∙ c.as_str.ensures.value ∙ c.line.ensures) c.in-Err.ensures.part in
    turn_untold Bool c.args.agreements.now c.args.moment s c.args.what c.exchange-got.result c.fault.result c.in_ok-job.job begun.0
    (g.K.Records.shows c.close.new.station) before after
    (λ text made. (⊤ → Appends hinted hinted text)
    × Exchanges g.L.Links.answers c.args.links.now made c.exchange-got.new.self) c.in_ok-became.became part.part part.missing
    begun.1 closed part.cut part.appended (λ _. Appends-nil hinted, (c.exchange-got.new.self, c.exchange-got.ensures, refl))

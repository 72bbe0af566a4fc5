use Rattle.std.proofs.Common.{◌≡◌, ◌<◌, ◌≤◌, ◌∙◌, ℕ, Option, ap, arith, refl, subst}
use Rattle.as2_commands.specs.Requests.{GivenServing}
use Rattle.as2_desk.proofs.Connecting.{all_served, cut, none_served, one_more}
use Rattle.as2_exchange.specs.Run.{Trace}
use Rattle.as2_host.specs.Serving.{ServesOne}
use Rattle.as2_desk.specs.Connections.{ServesNext, StopsAt, connection_line}
use Rattle.as2_desk.specs.Written.{WritesWhole, written_of}
use Rattle.as2_desk.proofs.serving.serve_connections.Goals as goal

pub loop-served-init : goal.loop-served-init
loop-served-init g c = (refl, refl, none_served g.L.Listens.ended c.args.serving.now.moment c.args.terms.now.agreements.now g.W.Sink _ c.args.listener.now _)

pub loop-served-preserved : goal.loop-served-preserved
loop-served-preserved g c =
    let mid = c.loop-served.listener in
    let last = c.serve_next.new.listener in
    let then = g.K.Records.shows c.loop-served.station in
    let now = g.K.Records.shows c.serve_next.new.station in
    let before = c.loop-served.invariant in
    let streams = c.serve_next.ensures.streams in
    let given : c.serving.inside.moment ≡ c.args.serving.now.moment = ap (λ (v : GivenServing). v.moment) c.serving.view_is in (
      streams.0 ∙ before.0,
      streams.1 ∙ before.1,
      one_more g.L.Listens.ended c.args.serving.now.moment c.args.terms.now.agreements.now g.W.Sink c.loop-served.served
          (g.K.Records.shows c.args.station.now) then now
          c.args.listener.now mid last c.args.console.now.output c.loop-served.console.output c.serve_next.new.console.output
          before.2 c.serve_next.ensures.clean
          (subst (λ (m : Option ℕ). ServesNext then now (λ end. (trace : Trace) × g.L.Listens.ended mid m trace end last)
          (λ end s t. ServesOne c.args.terms.now.agreements.now m (λ trace. g.L.Listens.ended mid m trace end last) s t)
          (λ end. WritesWhole (written_of g.W.Sink c.loop-served.console.output c.serve_next.new.console.output) (connection_line end)))
          given c.in_default.ensures.serves),
    )

pub returns-in-Err-clause-serves : goal.returns-in-Err-clause-serves
returns-in-Err-clause-serves g c =
    let mid = c.loop-served.listener in
    let last = c.serve_next.new.listener in
    let then = g.K.Records.shows c.loop-served.station in
    let now = g.K.Records.shows c.serve_next.new.station in
    let given : c.serving.inside.moment ≡ c.args.serving.now.moment = ap (λ (v : GivenServing). v.moment) c.serving.view_is in
    let count : c.serving.inside.count ≡ c.args.serving.now.count = ap (λ (v : GivenServing). v.count) c.serving.view_is in
    cut g.L.Listens.ended c.args.serving.now.moment c.args.terms.now.agreements.now g.W.Sink c.loop-served.served
    (g.K.Records.shows c.args.station.now) then now
    c.args.listener.now mid last c.args.console.now.output c.loop-served.console.output c.serve_next.new.console.output
    c.loop-served.invariant.2 c.serve_next.ensures.clean
    c.args.serving.now.count c.in-Err.stop
    (subst (λ (n : ℕ). c.loop-served.served < n) count c.loop-served-test.true)
    (subst (λ (m : Option ℕ). ServesNext then now (λ end. (trace : Trace) × g.L.Listens.ended mid m trace end last)
    (λ end s t. ServesOne c.args.terms.now.agreements.now m (λ trace. g.L.Listens.ended mid m trace end last) s t)
    (λ end. StopsAt c.in-Err.stop (written_of g.W.Sink c.loop-served.console.output c.serve_next.new.console.output) (connection_line end)))
    given c.in-Err.ensures.serves)

pub returns-in-Err-clause-streams : goal.returns-in-Err-clause-streams
returns-in-Err-clause-streams g c =
    let before = c.loop-served.invariant in
    let streams = c.serve_next.ensures.streams in
    (streams.0 ∙ before.0, streams.1 ∙ before.1)

pub returns-clause-serves : goal.returns-clause-serves
returns-clause-serves g c =
    let count : c.serving.inside.count ≡ c.args.serving.now.count = ap (λ (v : GivenServing). v.count) c.serving.view_is in
    let below : c.loop-served.served ≤ c.serving.inside.count = c.loop-served.auto.served-end in
    let above : c.serving.inside.count ≤ c.loop-served.served = c.loop-served-test.false in
    all_served g.L.Listens.ended c.args.serving.now.moment c.args.terms.now.agreements.now g.W.Sink _ _ _ _ c.args.listener.now
    c.loop-served.listener _ _ (omega (arith, below, above, count)) c.loop-served.invariant.2

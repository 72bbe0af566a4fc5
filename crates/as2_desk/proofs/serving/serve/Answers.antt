use Rattle.std.proofs.Common.{◌∙◌, ◌++◌, inl, inr, refl, subst, sym}
use Rattle.as2_commands.specs.Requests.{GivenServing}
use Rattle.as2_host.specs.Networks.{EndsEach, ServesEach, listening_of}
use Rattle.as2_desk.proofs.HandedBack.{each_known}
use Rattle.as2_desk.proofs.Connecting.{all_told, cut_told, fails_behind}
use Rattle.as2_desk.proofs.Saying.{ends_behind}
use Rattle.as2_desk.specs.Connections.{listening_line}
use Rattle.as2_desk.specs.Endings.{Ends}
use Rattle.as2_desk.specs.Observed.{console_outcome}
use Rattle.as2_desk.specs.Refusals.{error_line, refusal_status}
use Rattle.as2_desk.specs.Written.{WritesIf, written_of}
use Rattle.as2_desk.specs.declared.refusal.CommandFault.{CommandFault}
use Rattle.as2_desk.proofs.serving.serve.Goals as goal

pub returns-in_default-clause-serves : goal.returns-in_default-clause-serves
returns-in_default-clause-serves g c = λ known stood. inl (record {
  left = each_known _ _ known stood (λ s it. it.1);
  unwritten = refl;
  told = inl (
    subst (λ (v : GivenServing). g.N.Network.refuses c.args.network.now v.address v.waits c.listen.new.self) c.serving.view_is
        c.in_default.ensures.none,
    c.refuse.ensures.told,
  );
})

pub returns-in_default-listening_line-clause-serves : goal.returns-in_default-listening_line-clause-serves
returns-in_default-listening_line-clause-serves g c = λ known stood. inl (record {
  left = each_known _ _ known stood (λ s it. it.1);
  unwritten = refl;
  told = inr (
    (
      c.in-Ok.listener,
      c.listen.new.self,
      subst (λ (v : GivenServing). g.N.Network.listens c.args.network.now v.address v.waits c.in-Ok.listener c.listen.new.self) c.serving.view_is
          c.in-Ok.ensures.listener,
      c.stop.ensures,
    ),
    c.refuse-in_default-listening_line.ensures.told,
  );
})

pub returns-in-Ok-served-clause-serves : goal.returns-in-Ok-served-clause-serves
returns-in-Ok-served-clause-serves g c = λ known stood.
    let agreements = c.args.terms.now.agreements.now in
    let moment = c.args.serving.moment in
    let new = g.K.Records.shows c.serve_connections-served.new.station in
    let first = c.in-Ok.listener in
    let last = c.serve_connections-served.new.listener in
    let was = c.args.network.now in
    let listening = c.listen.new.self in
    let address = g.N.Listener.Listens.bound first in
    let streams = c.serve_connections-served.ensures.streams in
    let listened = subst (λ (v : GivenServing). g.N.Network.listens was v.address v.waits first listening) c.serving.view_is c.in-Ok.ensures.listener in
    let said = subst (WritesIf c.is_said-told.result (written_of g.E.Sink c.args.console.now.errors c.is_said-told.new.errors))
    (c.as_str.ensures.value ∙ c.in-Ok-listening_line.ensures) c.is_said-told.ensures.said in
    all_told c.args.serving.count known
    (console_outcome g.W.Sink g.E.Sink c.args.console.now c.serve_connections-served.new.console (λ t. new.Rests t))
    (g.K.Records.shows c.args.station.now) new
    (λ ends. EndsEach g.N.Listener.Listens.ended moment first ends last)
    (λ ends s t. ServesEach g.N.Listener.Listens.ended moment agreements ends first s last t)
    (listening_of g.N.Network g.N.Listener.Listens was c.stop-2.new.self agreements c.args.serving) _ address
    stood (λ t rests. rests)
    (λ ends all. (first, last, listening, listened, refl, all, c.stop-2.ensures))
    (λ ends s t all. (first, last, listening, listened, refl, all, c.stop-2.ensures))
    (rw c.in-Ok-served.is at c.serve_connections-served.ensures.serves) (record {
      ended = refl;
      said = subst (λ (e : g.row.E.Denot). WritesIf c.is_said-told.result (written_of g.E.Sink c.args.console.now.errors e)
          (listening_line address)) (sym streams.1) said;
    })

-- no more were served, and that was told behind where it listens
pub returns-clause-serves : goal.returns-clause-serves
returns-clause-serves g c = λ known stood.
    let agreements = c.args.terms.now.agreements.now in
    let moment = c.args.serving.moment in
    let new = g.K.Records.shows c.serve_connections-served.new.station in
    let first = c.in-Ok.listener in
    let last = c.serve_connections-served.new.listener in
    let was = c.args.network.now in
    let listening = c.listen.new.self in
    let address = g.N.Listener.Listens.bound first in
    let streams = c.serve_connections-served.ensures.streams in
    let listened = subst (λ (v : GivenServing). g.N.Network.listens was v.address v.waits first listening) c.serving.view_is c.in-Ok.ensures.listener in
    let old = c.args.console.now.errors in
    let end = c.refuse_behind.new.errors in
    let said = subst (WritesIf c.is_said-told.result (written_of g.E.Sink old c.is_said-told.new.errors))
    (c.as_str.ensures.value ∙ c.in-Ok-listening_line.ensures) c.is_said-told.ensures.said in
    let told = ends_behind g.E.Sink old c.is_said-told.new.errors c.serve_connections-served.new.console.errors end
    (listening_line address) c.stop_fault.result c.is_said-told.result c.refuse_behind.result
    said c.is_said-told.ensures.counted streams.1 c.refuse_behind.ensures.status c.refuse_behind.ensures.told c.refuse_behind.ensures.untold in
    cut_told c.args.serving.count known
    (console_outcome g.W.Sink g.E.Sink c.args.console.now (record c.serve_connections-served.new.console { errors = end }) (λ t. new.Rests t))
    (g.K.Records.shows c.args.station.now) new
    (λ ends. EndsEach g.N.Listener.Listens.ended moment first ends last)
    (λ ends s t. ServesEach g.N.Listener.Listens.ended moment agreements ends first s last t)
    (listening_of g.N.Network g.N.Listener.Listens was c.stop-2.new.self agreements c.args.serving) _ address
    stood (λ t rests. rests)
    (λ ends all. (first, last, listening, listened, refl, all, c.stop-2.ensures))
    (λ ends s t all. (first, last, listening, listened, refl, all, c.stop-2.ensures))
    c.in-Err.stop (rw c.in-Err.is at c.serve_connections-served.ensures.serves)
    (subst (λ (f : CommandFault). Ends (refusal_status f) (listening_line address ++ error_line f)
    (written_of g.E.Sink old end) c.refuse_behind.result) c.stop_fault.ensures told)

pub returns-clause-store : goal.returns-clause-store
returns-clause-store g c =
    let address = g.N.Listener.Listens.bound c.in-Ok.listener in
    let old = c.args.console.now.errors in
    let end = c.refuse_behind.new.errors in
    let said = subst (WritesIf c.is_said-told.result (written_of g.E.Sink old c.is_said-told.new.errors))
    (c.as_str.ensures.value ∙ c.in-Ok-listening_line.ensures) c.is_said-told.ensures.said in
    let told = ends_behind g.E.Sink old c.is_said-told.new.errors c.serve_connections-served.new.console.errors end
    (listening_line address) c.stop_fault.result c.is_said-told.result c.refuse_behind.result
    said c.is_said-told.ensures.counted c.serve_connections-served.ensures.streams.1 c.refuse_behind.ensures.status c.refuse_behind.ensures.told
    c.refuse_behind.ensures.untold in
    fails_behind c.in-Err.stop address _ _
    (subst (λ (f : CommandFault). Ends (refusal_status f) (listening_line address ++ error_line f)
    (written_of g.E.Sink old end) c.refuse_behind.result) c.stop_fault.ensures told)

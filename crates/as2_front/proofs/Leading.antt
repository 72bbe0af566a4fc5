-- What the rounds of many connections lead the station to: the contract of `play`.
-- The plan: a call that is answered leads the records from one state to the next (`call_on`), so does a round of them (`chain_on`), and so
-- do all rounds (`leads_on`), since none is lost; and what was answered is a run of the machine (`answers_run`).
use Rattle.std.proofs.Common.{◌≡◌, ◌∙◌, ℕ, List, [], ◌∷◌, ◌++◌, true, false, true≢false, refl, sym, ap, subst, append_assoc, append-nil}
use Rattle.as2_agreement.specs.Agreements.{AgreedValues}
use Rattle.as2_exchange.specs.Lines.{refusal}
use Rattle.as2_exchange.specs.Run.{Run, Trace}
use Rattle.as2_exchange.specs.State.{State}
use Rattle.as2_http.specs.Responses.{IsSafe}
use Rattle.as2_http.specs.Sending.{refusal_form}
use Rattle.as2_http.specs.Streams.{RequestAndResponse, stream_events}
use Rattle.as2_http.proofs.Serving.{event_then, events_join}
use Rattle.as2_http.proofs.Unsaid.{responds_unsaid}
use Rattle.as2_hub.specs.Calls.{DeskCall}
use Rattle.as2_hub.specs.Conduct.{Chain}
use Rattle.as2_hub.specs.Happenings.{Happenings, Opens, Comes, Keeps, Loses, Goes, Closes}
use Rattle.as2_hub.specs.Promises.{KeepsPromises, Leads}
use Rattle.as2_hub.specs.Rounds.{Scene}
use Rattle.as2_hub.specs.declared.beginning.Beginning.{Beginning}
use Rattle.as2_hub.specs.declared.beginning.Beginning.TheVariants as beginning
use Rattle.as2_hub.specs.declared.input.Input.{Input}
use Rattle.as2_messages.specs.Replies.{refusal_line}
use Rattle.as2_messages.specs.declared.framing.Refused.{Refused}
use Rattle.as2_messages.specs.declared.request.Request.{Request}
use Rattle.as2_records.specs.Standing.{Medium, Standing}
use Rattle.as2_station.proofs.ByHistory.{ends_by_history, run_then}
use Rattle.as2_front.specs.Answers.{AnswersAt, AnswersOver, GivesReply, conduct_by}
use Rattle.as2_front.specs.Serving.{AnswersCalls, GetsAnswer, LosesNone, ServesFrom, ServesMany, kept_calls}
use Rattle.as2_front.specs.declared.desk.StationDesk.{StationDesk}

module _ (A : AgreedValues) (moment : ℕ) where
  -- what was answered is a run of the machine
  answer_run : (s t : State) (b : Beginning) (e : DeskCall) (now : List RequestAndResponse) → GetsAnswer A moment s t b e now
      → Run A s (stream_events moment now) t
  answer_run s t (beginning.Request r) e now it =
      subst (λ (l : List RequestAndResponse). Run A s (stream_events moment l) t) (sym it.1)
      (event_then A moment s t t r it.0.response r.method r.target [] it.0.responds refl)
  answer_run s t (beginning.NoRequest refused) e now it =
      subst (λ (l : List RequestAndResponse). Run A s (stream_events moment l) t) (sym it.0) it.1

  pub answers_run : (s t : State) (calls : List DeskCall) (done : List RequestAndResponse) → AnswersCalls A moment s calls done t
      → Run A s (stream_events moment done) t
  answers_run s t [] done it = subst (λ (l : List RequestAndResponse). Run A s (stream_events moment l) t) (sym it.0) it.1
  answers_run s t (e ∷ earlier) done (mid, before, now, answered, gets, all) =
      subst (λ (l : List RequestAndResponse). Run A s (stream_events moment l) t) (sym all)
      (subst (λ (trace : Trace). Run A s trace t) (sym (events_join moment before now))
      (run_then A s mid t (stream_events moment before) (stream_events moment now) (answers_run s mid earlier before answered)
      (answer_run mid t e.asked e now gets)))

module _ {M : Medium} {K : Type 0} (shows : K → Standing M) where
  -- behind these calls, from the state s on, the records of the desk stand for a state that they left
  pub record Answered (A : AgreedValues) (moment : ℕ) (s : State) (calls : List DeskCall) (d : StationDesk K) : Type 0 where
    pub done : List RequestAndResponse
    pub left : State
    pub rests : (shows d.station).Rests left
    pub answered : AnswersCalls A moment s calls done left

  -- .. if they are clean then
  pub record LeadsOn (calls : List DeskCall) (old new : StationDesk K) : Type 0 where
    pub same : new ≡ record old { station = new.station }
    pub clean : (shows new.station).IsClean → (shows old.station).IsClean
    pub on : (shows new.station).IsClean → (s : State) (earlier : List DeskCall) → Answered old.agreements.now old.moment s earlier old
        → Answered old.agreements.now old.moment s (calls ++ earlier) new

  -- a request that was answered
  asked_on : (old new : StationDesk K) (e : DeskCall) (r : Request) → e.asked ≡ beginning.Request r → new ≡ record old { station = new.station }
      → AnswersOver old.agreements.now old.moment (shows old.station) (shows new.station) r e.reply e.stays → LeadsOn (e ∷ []) old new
  asked_on old new e r is same it = record {
    same = same;
    clean = it.clean;
    on = λ clean s earlier was.
        let A = old.agreements.now in
        let moment = old.moment in
        let now = it.answers clean was.left was.rests in
        let gets : GetsAnswer A moment was.left now.0 (beginning.Request r) e ((r, now.2.response) ∷ []) = (
          record {
            response = now.2.response;
            responds = responds_unsaid A moment was.left r now.2.response (IsSafe (shows new.station)) now.0 now.2.responds;
            reply = now.2.reply;
          },
          refl,
        ) in
        record {
          done = was.done ++ (r, now.2.response) ∷ [];
          left = now.0;
          rests = now.1;
          answered = (
            was.left,
            was.done,
            (r, now.2.response) ∷ [],
            was.answered,
            subst (λ (b : Beginning). GetsAnswer A moment was.left now.0 b e ((r, now.2.response) ∷ [])) (sym is) gets,
            refl,
          );
        };
  }

  -- .. and bytes that no request begins with
  refused_on : (old new : StationDesk K) (e : DeskCall) (refused : Refused) → e.asked ≡ beginning.NoRequest refused → new ≡ old
      → GivesReply old.moment (refusal_form refused) (refusal (refusal_line refused.reason)) false e.reply e.stays → LeadsOn (e ∷ []) old new
  refused_on old new e refused is same it = record {
    same = same ∙ ap (λ (d : StationDesk K). record old { station = d.station }) (sym same);
    clean = λ clean. subst (λ (d : StationDesk K). (shows d.station).IsClean) same clean;
    on = λ clean s earlier was. record {
      done = was.done ++ [];
      left = was.left;
      rests = subst (λ (d : StationDesk K). (shows d.station).Rests was.left) (sym same) was.rests;
      answered = (
        was.left,
        was.done,
        [],
        was.answered,
        subst (λ (b : Beginning). GetsAnswer old.agreements.now old.moment was.left was.left b e []) (sym is) (refl, refl, it),
        refl,
      );
    };
  }

  call_on : (old new : StationDesk K) (e : DeskCall) → AnswersAt shows old e.asked e.reply e.stays new → LeadsOn (e ∷ []) old new
  call_on old new e it = go e.asked refl it
    where
      go : (b : Beginning) → e.asked ≡ b → AnswersAt shows old b e.reply e.stays new → LeadsOn (e ∷ []) old new
      go (beginning.Request r) is it = asked_on old new e r is it.0 it.2
      go (beginning.NoRequest refused) is it = refused_on old new e refused is it.0 it.1

  on_none : (old new : StationDesk K) → new ≡ old → LeadsOn [] old new
  on_none old new same = record {
    same = same ∙ ap (λ (d : StationDesk K). record old { station = d.station }) (sym same);
    clean = λ clean. subst (λ (d : StationDesk K). (shows d.station).IsClean) same clean;
    on = λ clean s earlier was. subst (λ (d : StationDesk K). Answered old.agreements.now old.moment s earlier d) (sym same) was;
  }

  on_then : (a b c : StationDesk K) (one two : List DeskCall) → LeadsOn one a b → LeadsOn two b c → LeadsOn (two ++ one) a c
  on_then a b c one two first second =
      let agreed : b.agreements.now ≡ a.agreements.now = ap (λ (d : StationDesk K). d.agreements.now) first.same in
      let when : b.moment ≡ a.moment = ap (λ (d : StationDesk K). d.moment) first.same in
      record {
        same = second.same ∙ ap (λ (d : StationDesk K). record d { station = c.station }) first.same;
        clean = λ clean. first.clean (second.clean clean);
        on = λ clean s earlier was.
            let mid = first.on (second.clean clean) s earlier was in
            let here : Answered b.agreements.now b.moment s (one ++ earlier) b =
            subst (λ (m : ℕ). Answered b.agreements.now m s (one ++ earlier) b) (sym when)
            (subst (λ (A : AgreedValues). Answered A a.moment s (one ++ earlier) b) (sym agreed) mid) in
            subst (λ (l : List DeskCall). Answered a.agreements.now a.moment s l c) (sym (append_assoc two one earlier))
            (subst (λ (m : ℕ). Answered a.agreements.now m s (two ++ (one ++ earlier)) c) when
            (subst (λ (A : AgreedValues). Answered A b.moment s (two ++ (one ++ earlier)) c) agreed (second.on clean s (one ++ earlier) here)));
      }

  chain_on : (old new : StationDesk K) (round : List DeskCall) → Chain (conduct_by shows) old round new → LeadsOn round old new
  chain_on old new [] it = on_none old new it
  chain_on old new (e ∷ round) (mid, chain, answers) = on_then old mid new round (e ∷ []) (chain_on old mid round chain) (call_on mid new e answers)

  false_is_not_true : {X : Type 0} → false ≡ true → X
  false_is_not_true is = absurd (true≢false (sym is))

  pub leads_on : (old new : StationDesk K) (h : Happenings) → Leads (conduct_by shows) old h new → LeadsOn (kept_calls h) old new
  leads_on old new [] it = on_none old new it
  leads_on old new (Keeps round ∷ h) (mid, leads, of) =
      on_then old mid new (kept_calls h) round (leads_on old mid h leads)
      (subst (λ (d : StationDesk K). LeadsOn round mid d) (sym of.ended) (chain_on mid of.called round of.chain))
  leads_on old new (Loses round ∷ h) (mid, leads, of) = false_is_not_true of.ended.0
  leads_on old new (Opens c ∷ h) it = leads_on old new h it
  leads_on old new (Comes c piece ∷ h) it = leads_on old new h it
  leads_on old new (Goes c piece ∷ h) it = leads_on old new h it
  leads_on old new (Closes c ∷ h) it = leads_on old new h it

  -- the station loses no round
  none_lost : (old new : StationDesk K) (h : Happenings) → Leads (conduct_by shows) old h new → LosesNone h
  none_lost old new [] it = tt
  none_lost old new (Keeps round ∷ h) (mid, leads, of) = none_lost old mid h leads
  none_lost old new (Loses round ∷ h) (mid, leads, of) = false_is_not_true of.ended.0
  none_lost old new (Opens c ∷ h) it = none_lost old new h it
  none_lost old new (Comes c piece ∷ h) it = none_lost old new h it
  none_lost old new (Goes c piece ∷ h) it = none_lost old new h it
  none_lost old new (Closes c ∷ h) it = none_lost old new h it

  pub serves_from : (old new : StationDesk K) (h : Happenings) (s : State) → LeadsOn (kept_calls h) old new → (shows new.station).IsClean
      → (shows old.station).Rests s → ServesFrom shows old new h s
  serves_from old new h s leads clean rests =
      let A = old.agreements.now in
      let moment = old.moment in
      let start : Answered A moment s [] old = record { done = []; left = s; rests = rests; answered = (refl, refl) } in
      let all : Answered A moment s (kept_calls h ++ []) new = leads.on clean s [] start in
      let calls : AnswersCalls A moment s (kept_calls h) all.done all.left =
      subst (λ (l : List DeskCall). AnswersCalls A moment s l all.done all.left) (append-nil (kept_calls h)) all.answered in
      let run = answers_run A moment s all.left (kept_calls h) all.done calls in record {
        done = all.done;
        left = all.left;
        rests = all.rests;
        answered = calls;
        run = run;
        by_history = ends_by_history A s (stream_events moment all.done) all.left run;
      }

  pub serves_many : (inputs : List Input) (old new : Scene (StationDesk K)) → KeepsPromises (conduct_by shows) inputs old new
      → ServesMany shows inputs old new
  serves_many inputs old new promised = let leads = leads_on old.desk new.desk promised.happenings promised.leads in record {
    promised = promised;
    none_lost = none_lost old.desk new.desk promised.happenings promised.leads;
    same = leads.same;
    clean = leads.clean;
    serves = λ clean s rests. serves_from old.desk new.desk promised.happenings s leads clean rests;
  }

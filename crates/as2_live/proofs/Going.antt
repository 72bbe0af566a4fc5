-- What happens to a live station, one behind the other: nothing is something, and what happens behind something is, with it, something.
use Rattle.std.proofs.Common.{◌≡◌, ◌∙◌, ℕ, Bool, true, false, List, [], ◌∷◌, ◌++◌, length, Result, Ok, Err, refl, sym, ap, subst, append_assoc, append-nil}
use Rattle.as2_agreement.specs.Agreements.{AgreedValues}
use Rattle.as2_exchange.specs.Run.{AnEvent, EventResult, Run, Trace}
use Rattle.as2_exchange.specs.State.{State}
use Rattle.as2_exchange.specs.declared.answer.Answer.{Answer}
use Rattle.as2_exchange.specs.declared.event.Event.{Event}
use Rattle.as2_exchange.specs.declared.event.Event.TheVariants.{Tick}
use Rattle.as2_exchange.specs.declared.fault.StoreFault.{StoreFault}
use Rattle.as2_http.specs.Streams.{stream_events}
use Rattle.as2_hub.specs.Bounded.{KeepsBounds}
use Rattle.as2_hub.specs.Happenings.{Happenings, Opens, Comes, Keeps, Loses, Goes, Closes}
use Rattle.as2_hub.specs.Places.{StandAfter, places}
use Rattle.as2_hub.specs.Rounds.{AnswerWhatWaited}
use Rattle.as2_hub.specs.declared.hub.Hub.{Hub}
use Rattle.as2_exchange.specs.declared.event.TryAnswer.{TryAnswer}
use Rattle.as2_exchange.specs.declared.next.Next.{Next}
use Rattle.as2_links.specs.Happenings.{Begins, Cuts, Ends, Hears, LinkHappenings, Sends, if_so}
use Rattle.as2_links.specs.Links.{LinksStand, links_of}
use Rattle.as2_links.specs.declared.table.LinkTable.{LinkTable}
use Rattle.as2_records.specs.Standing.{Medium, Standing}
use Rattle.as2_station.specs.Said.{begin_event, outcome_event}
use Rattle.as2_station.proofs.ByHistory.{ends_by_history, run_then}
use Rattle.as2_station.specs.Steps.{TakesEvent}
use Rattle.as2_station.specs.Theorem.{said_as}
use Rattle.as2_live.specs.Living.{AtALink, AtAPlace, Answers, AnswersPlaces, BeginsTry, Commanded, EndsTry, LeadsByOne, LeadsTo, LiveHistory, LivesAcross, LivesBy, LivesFrom, LivesOn, LivesOnAcross, LosesLive, PassesLive, Ticks, at_links, at_places, opened_for, at_a_link}
use Rattle.as2_live.specs.declared.live.Live.{Live}

at_places_of_both : (late early : LiveHistory) → at_places (late ++ early) ≡ at_places late ++ at_places early
at_places_of_both [] early = refl
at_places_of_both (AtAPlace what ∷ late) early = ap (λ (h : Happenings). what ∷ h) (at_places_of_both late early)
at_places_of_both (Answers moment round ∷ late) early = ap (λ (h : Happenings). Keeps round ∷ h) (at_places_of_both late early)
at_places_of_both (Ticks moment said ∷ late) early = at_places_of_both late early
at_places_of_both (Commanded words ∷ late) early = at_places_of_both late early
at_places_of_both (AtALink what ∷ late) early = at_places_of_both late early
at_places_of_both (BeginsTry l what moment said ∷ late) early = at_places_of_both late early
at_places_of_both (EndsTry l what got moment said ∷ late) early = at_places_of_both late early

at_links_of_both : (late early : LiveHistory) → at_links (late ++ early) ≡ at_links late ++ at_links early
at_links_of_both [] early = refl
at_links_of_both (AtAPlace what ∷ late) early = at_links_of_both late early
at_links_of_both (Answers moment round ∷ late) early = at_links_of_both late early
at_links_of_both (Ticks moment said ∷ late) early = at_links_of_both late early
at_links_of_both (Commanded words ∷ late) early = at_links_of_both late early
at_links_of_both (AtALink what ∷ late) early = ap (λ (h : LinkHappenings). what ∷ h) (at_links_of_both late early)
at_links_of_both (BeginsTry l what moment said ∷ late) early =
    ap (λ (h : LinkHappenings). opened_for l what said ++ h) (at_links_of_both late early)
    ∙ sym (append_assoc (opened_for l what said) (at_links late) (at_links early))
at_links_of_both (EndsTry l what got moment said ∷ late) early = ap (λ (h : LinkHappenings). Ends l what got ∷ h) (at_links_of_both late early)

module _ (A : AgreedValues) (s mid : State) (early : LiveHistory) (before : Trace) (first : LeadsTo A s early before mid) where
  leads_then : (late : LiveHistory) (trace : Trace) (t : State) → LeadsTo A mid late trace t → LeadsTo A s (late ++ early) (before ++ trace) t
  leads_then [] trace t it =
      subst (λ (l : Trace). LeadsTo A s early (before ++ l) t) (sym it.0)
      (subst (λ (l : Trace). LeadsTo A s early l t) (sym (append-nil before)) (subst (λ (u : State). LeadsTo A s early before u) (sym it.1) first))
  leads_then (AtAPlace (Opens c) ∷ late) trace t it = leads_then late trace t it
  leads_then (AtAPlace (Comes c piece) ∷ late) trace t it = leads_then late trace t it
  leads_then (AtAPlace (Goes c piece) ∷ late) trace t it = leads_then late trace t it
  leads_then (AtAPlace (Closes c) ∷ late) trace t it = leads_then late trace t it
  leads_then (AtAPlace (Keeps round) ∷ late) trace t it = absurd it
  leads_then (AtAPlace (Loses round) ∷ late) trace t it = absurd it
  leads_then (Answers moment round ∷ late) trace t (last, between, done, leads, answered, all) = (
    last,
    before ++ between,
    done,
    leads_then late between last leads,
    answered,
    ap (λ (l : Trace). before ++ l) all ∙ sym (append_assoc before between (stream_events moment done)),
  )
  leads_then (Ticks moment said ∷ late) trace t (last, between, leads, run, all) = (
    last,
    before ++ between,
    leads_then late between last leads,
    run,
    ap (λ (l : Trace). before ++ l) all ∙ sym (append_assoc before between (AnEvent (Tick moment) said ∷ [])),
  )
  leads_then (Commanded words ∷ late) trace t (last, between, events, leads, one, run, all) = (
    last,
    before ++ between,
    events,
    leads_then late between last leads,
    one,
    run,
    ap (λ (l : Trace). before ++ l) all ∙ sym (append_assoc before between events),
  )
  leads_then (AtALink (Begins l what job) ∷ late) trace t it = absurd it
  leads_then (AtALink (Sends l piece) ∷ late) trace t it = leads_then late trace t it
  leads_then (AtALink (Hears l piece) ∷ late) trace t it = leads_then late trace t it
  leads_then (AtALink (Cuts l) ∷ late) trace t it = leads_then late trace t it
  leads_then (AtALink (Ends l what got) ∷ late) trace t it = absurd it
  leads_then (BeginsTry l what moment said ∷ late) trace t (last, between, leads, run, all) = (
    last,
    before ++ between,
    leads_then late between last leads,
    run,
    ap (λ (l : Trace). before ++ l) all ∙ sym (append_assoc before between (AnEvent (begin_event what moment) said ∷ [])),
  )
  leads_then (EndsTry l what got moment said ∷ late) trace t (last, between, leads, run, all) = (
    last,
    before ++ between,
    leads_then late between last leads,
    run,
    ap (λ (l : Trace). before ++ l) all ∙ sym (append_assoc before between (AnEvent (outcome_event what got moment) said ∷ [])),
  )

module _ {M : Medium} {K : Type 0} (shows : K → Standing M) where
  pub lives_none : (a b : Live K) → b ≡ a → LivesBy shows a [] b
  lives_none a b same = subst (λ (l : Live K). LivesBy shows a [] l) (sym same) (record {
    stands = λ h stand. stand;
    answer = λ h stand waited. waited;
    bounded = record { bounds = refl; within = λ within. within };
    linked = λ h stand. stand;
    as_many = refl;
    agreed = refl;
    clean = λ clean. clean;
    lives = λ clean s rests. record {
      trace = [];
      left = s;
      rests = rests;
      leads = (refl, refl);
      run = refl;
      by_history = ends_by_history a.desk.agreements.now s [] s refl;
    };
  })

-- One history behind the other, over records of up to three types.
module _ {M N O : Medium} {K L J : Type 0} (shows : K → Standing M) (shows_mid : L → Standing N) (shows_new : J → Standing O) where
  -- the state that two histories led to
  from_then : (a : Live K) (b : Live L) (c : Live J) (early late : LiveHistory) (s : State) → b.desk.agreements.now ≡ a.desk.agreements.now
      → (mid : LivesFrom shows_mid b a.desk.agreements.now early s) → LivesFrom shows_new c b.desk.agreements.now late mid.left
      → LivesFrom shows_new c a.desk.agreements.now (late ++ early) s
  from_then a b c early late s agreed mid end =
      let A = a.desk.agreements.now in
      let same : b.desk.agreements.now ≡ A = agreed in
      let leads : LeadsTo A mid.left late end.trace end.left = subst (λ (B : AgreedValues). LeadsTo B mid.left late end.trace end.left) same end.leads in
      let on : Run A mid.left end.trace end.left = subst (λ (B : AgreedValues). Run B mid.left end.trace end.left) same end.run in
      let run = run_then A s mid.left end.left mid.trace end.trace mid.run on in
      record {
        trace = mid.trace ++ end.trace;
        left = end.left;
        rests = end.rests;
        leads = leads_then A s mid.left early mid.trace mid.leads late end.trace end.left leads;
        run = run;
        by_history = ends_by_history A s (mid.trace ++ end.trace) end.left run;
      }

  pub across_then : (a : Live K) (b : Live L) (c : Live J) (early late : LiveHistory) → LivesAcross shows shows_mid a early b
      → LivesAcross shows_mid shows_new b late c → LivesAcross shows shows_new a (late ++ early) c
  across_then a b c early late first second =
      let both = at_places_of_both late early in
      let along : (h : Happenings) → at_places (late ++ early) ++ h ≡ at_places late ++ (at_places early ++ h)
      = λ h. ap (λ (l : Happenings). l ++ h) both ∙ append_assoc (at_places late) (at_places early) h in
      let along_links : (h : LinkHappenings) → at_links (late ++ early) ++ h ≡ at_links late ++ (at_links early ++ h)
      = λ h. ap (λ (l : LinkHappenings). l ++ h) (at_links_of_both late early) ∙ append_assoc (at_links late) (at_links early) h in
      record {
        stands = λ h stand. subst (λ (l : Happenings). StandAfter (places c.hub) l) (sym (along h))
            (second.stands (at_places early ++ h) (first.stands h stand));
        answer = λ h stand waited. subst AnswerWhatWaited (sym (along h))
            (second.answer (at_places early ++ h) (first.stands h stand) (first.answer h stand waited));
        bounded = record {
          bounds = second.bounded.bounds ∙ first.bounded.bounds;
          within = λ within. second.bounded.within (first.bounded.within within);
        };
        linked = λ h stand. subst (λ (l : LinkHappenings). LinksStand c.links l) (sym (along_links h))
            (second.linked (at_links early ++ h) (first.linked h stand));
        as_many = second.as_many ∙ first.as_many;
        agreed = second.agreed ∙ first.agreed;
        clean = λ clean. first.clean (second.clean clean);
        lives = λ clean s rests.
            let mid = first.lives (second.clean clean) s rests in
            from_then a b c early late s first.agreed mid (second.lives clean mid.left mid.rests);
      }

  pub on_across : (a : Live K) (b : Live L) (c : Live J) → LivesOnAcross shows shows_mid a b → LivesOnAcross shows_mid shows_new b c
      → LivesOnAcross shows shows_new a c
  on_across a b c (early, first) (late, second) = (late ++ early, across_then a b c early late first second)

-- Another live station that has taken its place.
module _ {M N : Medium} {K L : Type 0} (shows : K → Standing M) (shows_new : L → Standing N) where
  pub passes_by : (a : Live K) (b : Live L) → PassesLive shows shows_new a b → LivesAcross shows shows_new a [] b
  passes_by a b it =
      let agreed : b.desk.agreements.now ≡ a.desk.agreements.now = ap (λ r. r.now) it.desk.beside.agreements in
      record {
        stands = λ h stand. subst (λ (g : Hub). StandAfter (places g) h) (sym it.hub) stand;
        answer = λ h stand waited. waited;
        bounded = subst (λ (g : Hub). KeepsBounds a.hub g) (sym it.hub) (record { bounds = refl; within = λ within. within });
        linked = λ h stand. subst (λ (t : LinkTable). LinksStand t h) (sym it.links) stand;
        as_many = ap (λ (t : LinkTable). length (links_of t)) it.links;
        agreed = agreed;
        clean = it.desk.station.clean;
        lives = λ clean s rests. record {
          trace = [];
          left = s;
          rests = it.desk.station.same clean s rests;
          leads = (refl, refl);
          run = refl;
          by_history = ends_by_history a.desk.agreements.now s [] s refl;
        };
      }

  pub passes_on : (a : Live K) (b : Live L) → PassesLive shows shows_new a b → LivesOnAcross shows shows_new a b
  passes_on a b it = ([], passes_by a b it)

-- A round, over its own records: what happened in one that was begun.
module _ {M N : Medium} {K L : Type 0} (shows : K → Standing M) (round : L → Standing N) (a : Live K) (b c : Live L) where
  begun_then : (h : LiveHistory) → PassesLive shows round a b → LivesBy round b h c → LivesAcross shows round a h c
  begun_then h begun lives = subst (λ (l : LiveHistory). LivesAcross shows round a l c) (append-nil h)
      (across_then shows round round a b c [] h (passes_by shows round a b begun) lives)

  -- .. and committed
  pub held_then : (d : Live K) (h : LiveHistory) → PassesLive shows round a b → LivesBy round b h c → PassesLive round shows c d
      → LivesBy shows a h d
  held_then d h begun lives committed =
      across_then shows round shows a c d h [] (begun_then h begun lives) (passes_by round shows c d committed)

  pub held_on : (d : Live K) → PassesLive shows round a b → LivesOn round b c → PassesLive round shows c d → LivesOn shows a d
  held_on d begun (h, lives) committed = (h, held_then d h begun lives committed)

  -- .. or lost: its records, which a fault has shut, stand for what it led to as far as they are clean
  pub lost_then : (d : Live L) (h : LiveHistory) → PassesLive shows round a b → LivesBy round b h c → LosesLive round c d
      → LivesAcross shows round a h d
  lost_then d h begun lives lost =
      across_then shows round round a c d h [] (begun_then h begun lives) (passes_by round round c d (record {
        hub = lost.hub;
        links = lost.links;
        desk = record { beside = lost.desk.beside; station = lost.desk.station.passes };
      }))

  pub lost_on : (d : Live L) → PassesLive shows round a b → LivesOn round b c → LosesLive round c d → LivesOnAcross shows round a d
  lost_on d begun (h, lives) lost = (h, lost_then d h begun lives lost)

module _ {M : Medium} {K : Type 0} (shows : K → Standing M) where
  pub lives_then : (a b c : Live K) (early late : LiveHistory) → LivesBy shows a early b → LivesBy shows b late c → LivesBy shows a (late ++ early) c
  lives_then = across_then shows shows shows

  -- something that happened, or nothing
  pub on_none : (a : Live K) → LivesOn shows a a
  on_none a = ([], lives_none shows a a refl)

  pub on_then : (a b c : Live K) → LivesOn shows a b → LivesOn shows b c → LivesOn shows a c
  on_then a b c (early, first) (late, second) = (late ++ early, lives_then a b c early late first second)

  pub on_one : (a b : Live K) (history : LiveHistory) → LivesBy shows a history b → LivesOn shows a b
  on_one a b history it = (history, it)

  pub on_answer : (a b : Live K) (moment : ℕ) (named : List ℕ) → AnswersPlaces shows a moment named b → LivesOn shows a b
  on_answer a b moment named (round, turns, it) = (Answers moment round ∷ [], it)

-- What happens at no place: a moment that has come, a command.
module _ {M : Medium} {K : Type 0} (shows : K → Standing M) (old new : Live K) (hub : new.hub ≡ old.hub)
    (agreed : new.desk.agreements.now ≡ old.desk.agreements.now) (clean : (shows new.desk.station).IsClean → (shows old.desk.station).IsClean) where
  pub off_places : (what : LiveHistory) → at_places what ≡ [] → length (links_of new.links) ≡ length (links_of old.links)
      → ((h : LinkHappenings) → LinksStand old.links h → LinksStand new.links (at_links what ++ h))
      → ((shows new.desk.station).IsClean → (s : State) → (shows old.desk.station).Rests s → LivesFrom shows new old.desk.agreements.now what s)
      → LivesBy shows old what new
  off_places what none as_many linked lives = record {
    stands = λ h stand. subst (λ (p : Happenings). StandAfter (places new.hub) (p ++ h)) (sym none)
        (subst (λ (g : Hub). StandAfter (places g) h) (sym hub) stand);
    answer = λ h stand waited. subst (λ (p : Happenings). AnswerWhatWaited (p ++ h)) (sym none) waited;
    bounded = subst (λ (g : Hub). KeepsBounds old.hub g) (sym hub) (record { bounds = refl; within = λ within. within });
    linked = linked;
    as_many = as_many;
    agreed = agreed;
    clean = clean;
    lives = lives;
  }

  same_links : new.links ≡ old.links → (h : LinkHappenings) → LinksStand old.links h → LinksStand new.links h
  same_links links h stand = subst (λ (t : LinkTable). LinksStand t h) (sym links) stand

  as_many_same : new.links ≡ old.links → length (links_of new.links) ≡ length (links_of old.links)
  as_many_same links = ap (λ (t : LinkTable). length (links_of t)) links

  -- nothing but a look at the records
  pub looked : ((shows new.desk.station).IsClean → (s : State) → (shows old.desk.station).Rests s → (shows new.desk.station).Rests s)
      → new.links ≡ old.links → LivesBy shows old [] new
  looked same links = off_places [] refl (as_many_same links) (same_links links) (λ clean s rests.
      let A = old.desk.agreements.now in
      record {
        trace = [];
        left = s;
        rests = same clean s rests;
        leads = (refl, refl);
        run = refl;
        by_history = ends_by_history A s [] s refl;
      })

  -- a try that begins
  pub began : (l : ℕ) (what : Next) (moment : ℕ) (said : EventResult)
      → ((shows new.desk.station).IsClean → (s : State) → (shows old.desk.station).Rests s
      → (t : State) × (shows new.desk.station).Rests t × Run old.desk.agreements.now s (AnEvent (begin_event what moment) said ∷ []) t)
      → length (links_of new.links) ≡ length (links_of old.links)
      → ((h : LinkHappenings) → LinksStand old.links h → LinksStand new.links (opened_for l what said ++ h))
      → LivesBy shows old (BeginsTry l what moment said ∷ []) new
  began l what moment said led as_many linked = off_places (BeginsTry l what moment said ∷ []) refl as_many
      (λ h stand. subst (λ (g : LinkHappenings). LinksStand new.links (g ++ h)) (sym (append-nil (opened_for l what said))) (linked h stand))
      (λ clean s rests.
      let it = led clean s rests in
      let A = old.desk.agreements.now in
      let trace = AnEvent (begin_event what moment) said ∷ [] in
      record {
        trace = trace;
        left = it.0;
        rests = it.1;
        leads = (s, [], (refl, refl), it.2, refl);
        run = it.2;
        by_history = ends_by_history A s trace it.0 it.2;
      })

  -- and its outcome
  pub ended : (l : ℕ) (what : Next) (got : TryAnswer) (moment : ℕ) (said : EventResult)
      → ((shows new.desk.station).IsClean → (s : State) → (shows old.desk.station).Rests s
      → (t : State) × (shows new.desk.station).Rests t × Run old.desk.agreements.now s (AnEvent (outcome_event what got moment) said ∷ []) t)
      → length (links_of new.links) ≡ length (links_of old.links)
      → ((h : LinkHappenings) → LinksStand old.links h → LinksStand new.links (Ends l what got ∷ h))
      → LivesBy shows old (EndsTry l what got moment said ∷ []) new
  ended l what got moment said led as_many linked = off_places (EndsTry l what got moment said ∷ []) refl as_many linked (λ clean s rests.
      let it = led clean s rests in
      let A = old.desk.agreements.now in
      let trace = AnEvent (outcome_event what got moment) said ∷ [] in
      record {
        trace = trace;
        left = it.0;
        rests = it.1;
        leads = (s, [], (refl, refl), it.2, refl);
        run = it.2;
        by_history = ends_by_history A s trace it.0 it.2;
      })

  -- a command of these words, which led on by one event or none
  pub commanded : (words : List (List ℕ))
      → ((shows new.desk.station).IsClean → (s : State) → (shows old.desk.station).Rests s
      → LeadsByOne old.desk.agreements.now s (λ t. (shows new.desk.station).Rests t))
      → new.links ≡ old.links → LivesBy shows old (Commanded words ∷ []) new
  commanded words led links = off_places (Commanded words ∷ []) refl (as_many_same links) (same_links links) (λ clean s rests.
      let it = led clean s rests in
      let A = old.desk.agreements.now in
      record {
        trace = it.events;
        left = it.state;
        rests = it.left;
        leads = (s, [], it.events, (refl, refl), it.one, it.run, refl);
        run = it.run;
        by_history = ends_by_history A s it.events it.state it.run;
      })

  -- a moment that has come
  pub ticked : (moment : ℕ) (said : EventResult)
      → ((shows new.desk.station).IsClean → (s : State) → (shows old.desk.station).Rests s
      → (t : State) × (shows new.desk.station).Rests t × Run old.desk.agreements.now s (AnEvent (Tick moment) said ∷ []) t)
      → new.links ≡ old.links → LivesBy shows old (Ticks moment said ∷ []) new
  ticked moment said led links = off_places (Ticks moment said ∷ []) refl (as_many_same links) (same_links links) (λ clean s rests.
      let it = led clean s rests in
      let A = old.desk.agreements.now in
      let trace = AnEvent (Tick moment) said ∷ [] in
      record {
        trace = trace;
        left = it.0;
        rests = it.1;
        leads = (s, [], (refl, refl), it.2, refl);
        run = it.2;
        by_history = ends_by_history A s trace it.0 it.2;
      })

-- What happens at a link alone.
module _ {M : Medium} {K : Type 0} (shows : K → Standing M) (old : Live K) (table : LinkTable)
    (as_many : length (links_of table) ≡ length (links_of old.links)) where
  abbrev with_links : Live K
  with_links = record old { links = table }

  goes_on : (history : LiveHistory) → at_places history ≡ [] → ((A : AgreedValues) (s : State) → LeadsTo A s history [] s)
      → ((h : LinkHappenings) → LinksStand old.links h → LinksStand table (at_links history ++ h)) → LivesBy shows old history with_links
  goes_on history none leads linked = off_places shows old with_links refl refl (λ clean. clean) history none as_many linked (λ clean s rests.
      let A = old.desk.agreements.now in
      record {
        trace = [];
        left = s;
        rests = rests;
        leads = leads A s;
        run = refl;
        by_history = ends_by_history A s [] s refl;
      })

  pub unlinked : ((h : LinkHappenings) → LinksStand old.links h → LinksStand table h) → LivesBy shows old [] with_links
  unlinked linked = goes_on [] refl (λ A s. (refl, refl)) linked

  pub link_sent : (l : ℕ) (piece : List ℕ) (is : Bool)
      → ((h : LinkHappenings) → LinksStand old.links h → LinksStand table (if_so is (Sends l piece) ++ h))
      → LivesBy shows old (at_a_link is (Sends l piece)) with_links
  link_sent l piece true linked = goes_on (AtALink (Sends l piece) ∷ []) refl (λ A s. (refl, refl)) linked
  link_sent l piece false linked = unlinked linked

  pub link_heard : (l : ℕ) (piece : List ℕ) (is : Bool)
      → ((h : LinkHappenings) → LinksStand old.links h → LinksStand table (if_so is (Hears l piece) ++ h))
      → LivesBy shows old (at_a_link is (Hears l piece)) with_links
  link_heard l piece true linked = goes_on (AtALink (Hears l piece) ∷ []) refl (λ A s. (refl, refl)) linked
  link_heard l piece false linked = unlinked linked

  pub link_cut : (l : ℕ) (is : Bool) → ((h : LinkHappenings) → LinksStand old.links h → LinksStand table (if_so is (Cuts l) ++ h))
      → LivesBy shows old (at_a_link is (Cuts l)) with_links
  link_cut l true linked = goes_on (AtALink (Cuts l) ∷ []) refl (λ A s. (refl, refl)) linked
  link_cut l false linked = unlinked linked

-- an event that a call took is a step of the machine, or a fault that changed nothing
pub took : {M : Medium} {X : Type 0} (A : AgreedValues) (e : Event) (tell : X → Answer) (old new : Standing M) (r : Result X StoreFault)
    → TakesEvent A e tell old new r → new.IsClean → (s : State) → old.Rests s
    → (t : State) × new.Rests t × Run A s (AnEvent e (said_as tell r) ∷ []) t
took A e tell old new (Ok a) takes clean s rests =
    let it = takes.does.answered clean s rests tt in (it.next, it.rests, (it.next, it.step, refl))
took A e tell old new (Err f) takes clean s rests =
    let it = takes.does.failed clean s rests tt in (s, it.0, (it.1, refl))

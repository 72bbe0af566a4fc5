-- What each call of a live station does: one happening, or none where the hub did nothing.
use Rattle.std.proofs.Common.{◌≡◌, ◌∙◌, ℕ, zero, suc, ◌<◌, ◌≤◌, Bool, true, false, IsTrue, List, [], ◌∷◌, length, take, true≢false, refl, sym, ap, subst, append-nil}
use Rattle.std.proofs.Math.Nat.{not-suc-le-zero, zero-lt-suc}
use Rattle.as2_agreement.specs.Agreements.{AgreedValues}
use Rattle.as2_exchange.specs.State.{State}
use Rattle.as2_http.specs.Streams.{stream_events}
use Rattle.as2_hub.specs.Bounded.{KeepsBounds}
use Rattle.as2_hub.specs.Calls.{DeskCall}
use Rattle.as2_hub.specs.Happenings.{Happening, Happenings, Opens, Comes, Keeps, Goes, Closes}
use Rattle.as2_hub.specs.Inputs.{comes_if, goes_to, opens_if}
use Rattle.as2_hub.specs.Places.{StandAfter, places}
use Rattle.as2_hub.specs.Rounds.{AnswerWhatWaited, SettlesRound, scene}
use Rattle.as2_hub.specs.declared.hub.Hub.{Hub}
use Rattle.as2_front.specs.Answers.{conduct_by}
use Rattle.as2_front.specs.Serving.{AnswersCalls}
use Rattle.as2_front.proofs.Leading.{leads_on, serves_from}
use Rattle.as2_front.specs.declared.desk.StationDesk.{StationDesk}
use Rattle.as2_links.specs.Links.{LinksStand, links_of}
use Rattle.as2_links.specs.declared.table.LinkTable.{LinkTable}
use Rattle.as2_records.specs.Standing.{Medium, Standing}
use Rattle.as2_station.proofs.ByHistory.{ends_by_history}
use Rattle.as2_live.specs.Living.{AtAPlace, AnswersPlaces, LeadsTo, LivesBy, all_at_places}
use Rattle.as2_live.specs.declared.live.Live.{Live}
use Rattle.as2_live.proofs.Going.{lives_none}

module _ {M : Medium} {K : Type 0} (shows : K → Standing M) (old new : Live K) (same : new.desk ≡ old.desk) (links : new.links ≡ old.links) where
  -- it happened at a place, and answers nothing
  happened : (what : Happening) → ((h : Happenings) → AnswerWhatWaited h → AnswerWhatWaited (what ∷ h))
      → ((A : AgreedValues) (s : State) → LeadsTo A s (AtAPlace what ∷ []) [] s)
      → ((h : Happenings) → StandAfter (places old.hub) h → StandAfter (places new.hub) (what ∷ h))
      → KeepsBounds old.hub new.hub → LivesBy shows old (AtAPlace what ∷ []) new
  happened what waits leads stands bounded = record {
    stands = stands;
    answer = λ h stand waited. waits h waited;
    bounded = bounded;
    linked = λ h stand. subst (λ (t : LinkTable). LinksStand t h) (sym links) stand;
    as_many = ap (λ (t : LinkTable). length (links_of t)) links;
    agreed = ap (λ (d : StationDesk K). d.agreements.now) same;
    clean = λ clean. subst (λ (d : StationDesk K). (shows d.station).IsClean) same clean;
    lives = λ clean s rests. record {
      trace = [];
      left = s;
      rests = subst (λ (d : StationDesk K). (shows d.station).Rests s) (sym same) rests;
      leads = leads old.desk.agreements.now s;
      run = refl;
      by_history = ends_by_history old.desk.agreements.now s [] s refl;
    };
  }

  nothing : new.hub ≡ old.hub → LivesBy shows old [] new
  nothing hub = lives_none shows old new
      (ap (λ (g : Hub). record new { hub = g }) hub ∙ ap (λ (d : StationDesk K). record new { hub = old.hub; desk = d }) same
      ∙ ap (λ (t : LinkTable). record old { links = t }) links)

  pub opened : (at : ℕ) (is : Bool)
      → (IsTrue is → (h : Happenings) → StandAfter (places old.hub) h → StandAfter (places new.hub) (Opens at ∷ h))
      → KeepsBounds old.hub new.hub → (is ≡ false → new.hub ≡ old.hub) → LivesBy shows old (all_at_places (opens_if at is)) new
  opened at true stands bounded none = happened (Opens at) (λ h waited. waited) (λ A s. (refl, refl)) (stands refl) bounded
  opened at false stands bounded none = nothing (none refl)

  pub closed : (at : ℕ) → ((h : Happenings) → StandAfter (places old.hub) h → StandAfter (places new.hub) (Closes at ∷ h))
      → KeepsBounds old.hub new.hub → LivesBy shows old (all_at_places (Closes at ∷ [])) new
  closed at stands bounded = happened (Closes at) (λ h waited. waited) (λ A s. (refl, refl)) stands bounded

  -- so many of the first bytes came
  pub heard : (at count : ℕ) (piece : List ℕ) → count ≤ length piece
      → (0 < count → (h : Happenings) → StandAfter (places old.hub) h → StandAfter (places new.hub) (Comes at (take count piece) ∷ h))
      → KeepsBounds old.hub new.hub → (count ≡ 0 → new.hub ≡ old.hub) → LivesBy shows old (all_at_places (comes_if true at (take count piece))) new
  heard at zero piece within stands bounded none = nothing (none refl)
  heard at (suc n) [] within stands bounded none = absurd (not-suc-le-zero within)
  heard at (suc n) (b ∷ piece) within stands bounded none =
      happened (Comes at (b ∷ take n piece)) (λ h waited. waited) (λ A s. (refl, refl)) (stands (zero-lt-suc n)) bounded

  -- .. or went
  pub went : (at count : ℕ) (piece : List ℕ) → count ≤ length piece
      → (0 < count → (h : Happenings) → StandAfter (places old.hub) h → StandAfter (places new.hub) (Goes at (take count piece) ∷ h))
      → KeepsBounds old.hub new.hub → (count ≡ 0 → new.hub ≡ old.hub) → LivesBy shows old (all_at_places (goes_to at (take count piece))) new
  went at zero piece within stands bounded none = nothing (none refl)
  went at (suc n) [] within stands bounded none = absurd (not-suc-le-zero within)
  went at (suc n) (b ∷ piece) within stands bounded none =
      happened (Goes at (b ∷ take n piece)) (λ h waited. waited) (λ A s. (refl, refl)) (stands (zero-lt-suc n)) bounded

module _ {M : Medium} {K : Type 0} (shows : K → Standing M) (old new : Live K) (moment : ℕ) (links : new.links ≡ old.links) where
  abbrev at_moment : StationDesk K
  at_moment = record old.desk { moment = moment }

  -- a round that was answered
  pub answered : (named : List ℕ) (verdict : Bool)
      → SettlesRound (conduct_by shows) named (scene at_moment old.hub) (scene new.desk new.hub) verdict
      → KeepsBounds old.hub new.hub → AnswersPlaces shows old moment named new
  answered named false it bounded = absurd (true≢false (sym it.round.ended.0))
  answered named true it bounded =
      let leads = leads_on shows at_moment new.desk (Keeps it.calls ∷ []) (at_moment, refl, it.round) in (
        it.calls,
        it.turns,
        record {
          stands = λ h stand. it.stands h stand;
          answer = λ h stand waited. (it.answer h stand, waited);
          bounded = bounded;
          linked = λ h stand. subst (λ (t : LinkTable). LinksStand t h) (sym links) stand;
          as_many = ap (λ (t : LinkTable). length (links_of t)) links;
          agreed = ap (λ (d : StationDesk K). d.agreements.now) leads.same;
          clean = λ clean. leads.clean clean;
          lives = λ clean s rests.
              let A = old.desk.agreements.now in
              let from = serves_from shows at_moment new.desk (Keeps it.calls ∷ []) s leads clean rests in
              record {
                trace = stream_events moment from.done;
                left = from.left;
                rests = from.rests;
                leads = (
                  s,
                  [],
                  from.done,
                  (refl, refl),
                  subst (λ (l : List DeskCall). AnswersCalls A moment s l from.done from.left) (append-nil it.calls) from.answered,
                  refl,
                );
                run = from.run;
                by_history = from.by_history;
              };
        },
      )

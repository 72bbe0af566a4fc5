-- What happens by the inputs, one after the other, and what is promised then.
-- The plan: `takes_*` puts together what an input comes to, from what the call says of itself; `plays_push` puts an input behind others,
-- and what holds of each input holds of all (`plays_*`); `promised` reads what is promised off the places, and `kept_promises` is the whole.
use Rattle.std.proofs.Common.{◌≡◌, inl, inr, take, min, length-take, Vec, Global, ℕ, ◌<◌, ◌≤◌, length, Bool, true, false, true≢false, List, [], ◌∷◌, ◌++◌, Option, Some, None, IsTrue, refl, sym, ap, subst, ◌∙◌, append_assoc, append-nil, arith}
use Rattle.std.specs.Prelude.{slice_get, slice_set}
use Rattle.std.proofs.lemmas.Bool.{cases_lt}
use Rattle.std.proofs.lemmas.List.{take_all}
use Rattle.as2_hub.specs.Calls.{DeskCall}
use Rattle.as2_hub.specs.Conduct.{Conduct, Round}
use Rattle.as2_hub.specs.Happenings.{Happenings, Opens, Comes, Keeps, Loses, Goes, Closes, is_open_after, bytes_from, calls_of}
use Rattle.as2_hub.specs.Places.{OpensTalk, PlaceStands, SetsOutput, StandAmid, StandAfter, ended_round, is_reading_in, is_vacant, output_at, places}
use Rattle.as2_hub.specs.Bounded.{KeepsBounds}
use Rattle.as2_hub.specs.Turns.{called_places, places_asked}
use Rattle.as2_hub.specs.Inputs.{ChangesPlaces, HappensBy, comes_if, fits_in, goes_to, opens_if, piece_fits}
use Rattle.as2_hub.specs.Rounds.{AnswersWhatWaits, AnswerWhatWaited, LeavesOthers, Scene, SettlesRound, scene}
use Rattle.as2_hub.specs.Promises.{KeepsPromises, Leads, PlaysInputs, Promise, Takes}
use Rattle.as2_hub.specs.declared.hub.Hub.{Hub}
use Rattle.as2_hub.specs.declared.input.Input.{Input}
use Rattle.as2_hub.specs.declared.input.Input.TheVariants as input
use Rattle.as2_hub.specs.declared.talk.Talk.{Talk}
use Rattle.as2_hub.proofs.Reading.{in_order}

-- the first bytes, up to a number of them
cut_at_most : (n most : ℕ) (bytes : List ℕ) → n ≡ min most (length bytes) → take n bytes ≡ take most bytes
cut_at_most n most bytes count = elim (cases_lt most (length bytes)) [
  | inl lt ↦ let e : n ≡ most = omega (arith, count, lt) in ap (λ (k : ℕ). take k bytes) e
  | inr ge ↦ take_all n bytes (omega (arith, count, ge)) ∙ sym (take_all most bytes ge)
]

nothing_cut : (n : ℕ) (bytes : List ℕ) → n ≤ length bytes → take n bytes ≡ [] → n ≡ 0
nothing_cut n bytes le nothing = omega (arith, le, length-take n bytes, ap length nothing)

something_cut : (n b : ℕ) (l bytes : List ℕ) → take n bytes ≡ b ∷ l → 0 < n
something_cut n b l bytes some = omega (arith, length-take n bytes, ap length some)

-- that nothing happened, or bytes came, leads nowhere and answers nothing
abbrev IsQuiet : Happenings → Type 0
IsQuiet [] = Unit {0}
IsQuiet (Comes c piece ∷ more) = IsQuiet more
IsQuiet (Opens c ∷ more) = ⊥
IsQuiet (Keeps round ∷ more) = ⊥
IsQuiet (Loses round ∷ more) = ⊥
IsQuiet (Goes c piece ∷ more) = ⊥
IsQuiet (Closes c ∷ more) = ⊥

quiet_comes : (b : Bool) (at : ℕ) (piece : List ℕ) → IsQuiet (comes_if b at piece)
quiet_comes true at [] = tt
quiet_comes true at (x ∷ piece) = tt
quiet_comes false at piece = tt

quiet_answers : (more h : Happenings) → IsQuiet more → AnswerWhatWaited h → AnswerWhatWaited (more ++ h)
quiet_answers [] h is it = it
quiet_answers (Comes c piece ∷ more) h is it = quiet_answers more h is it
quiet_answers (Opens c ∷ more) h is it = absurd is
quiet_answers (Keeps round ∷ more) h is it = absurd is
quiet_answers (Loses round ∷ more) h is it = absurd is
quiet_answers (Goes c piece ∷ more) h is it = absurd is
quiet_answers (Closes c ∷ more) h is it = absurd is

-- ---- what is promised

-- of a connection that stands so
pub promised : (talks : List (Option Talk)) (h : Happenings) → StandAfter talks h → (c : ℕ) → is_open_after c h ≡ true
    → Promise c h (output_at (slice_get talks c))
unfolding StandAmid
promised talks h it c taken = go (slice_get talks c) (it c)
  where
    go : (o : Option (Option Talk)) → PlaceStands c h [] o → Promise c h (output_at o)
    go None is = absurd (true≢false (sym taken ∙ is.0))
    go (Some None) is = absurd (true≢false (sym taken ∙ is.0))
    go (Some (Some t)) is = record { answered = in_order t (bytes_from c h) (calls_of c h) is.rest; written = is.written }

-- ---- the inputs

-- an input fits that is this one
fits_by : (hub : Hub) (i : Input) {j : Input} → i ≡ j → fits_in hub j ≡ true → fits_in hub i ≡ true
fits_by hub i is it = ap (λ (x : Input). fits_in hub x) is ∙ it

module _ {S : Type 0} (D : Conduct S) where
  quiet_leads : (desk : S) (more : Happenings) → IsQuiet more → Leads D desk more desk
  quiet_leads desk [] is = refl
  quiet_leads desk (Comes c piece ∷ more) is = quiet_leads desk more is
  quiet_leads desk (Opens c ∷ more) is = absurd is
  quiet_leads desk (Keeps round ∷ more) is = absurd is
  quiet_leads desk (Loses round ∷ more) is = absurd is
  quiet_leads desk (Goes c piece ∷ more) is = absurd is
  quiet_leads desk (Closes c ∷ more) is = absurd is

  -- ---- what happens by an input

  pub takes_opens : (desk : S) (hub next : Hub) (i : Input) (at : ℕ) (vacant_there : Bool) → i ≡ input.Opens at
      → vacant_there ≡ is_vacant (slice_get (places hub) at)
      → (IsTrue vacant_there → (h : Happenings) → StandAfter (places hub) h → StandAfter (places next) (Opens at ∷ h))
      → (IsTrue vacant_there → OpensTalk at (places hub) (places next)) → (vacant_there ≡ false → next ≡ hub)
      → KeepsBounds hub next → (more : Happenings) × Takes D i (scene desk hub) more (scene desk next)
  takes_opens desk hub next i at true is free on opens off bounded = (
    Opens at ∷ [],
    record {
      fits = fits_by hub i is refl;
      by_input = subst (λ (x : Input). HappensBy hub x (Opens at ∷ [])) (sym is) (ap (λ (b : Bool). opens_if at b) free);
      leads = refl;
      answer = λ h stand it. it;
      stands = on refl;
      changes = λ h stand. opens refl;
      bounded = bounded;
    },
  )
  takes_opens desk hub next i at false is free on opens off bounded = (
    [],
    record {
      fits = fits_by hub i is refl;
      by_input = subst (λ (x : Input). HappensBy hub x []) (sym is) (ap (λ (b : Bool). opens_if at b) free);
      leads = refl;
      answer = λ h stand it. it;
      stands = λ h it. subst (λ (x : Hub). StandAfter (places x) h) (sym (off refl)) it;
      changes = λ h stand. ap places (off refl);
      bounded = bounded;
    },
  )

  pub takes_closes : (desk : S) (hub next : Hub) (i : Input) (at : ℕ) → i ≡ input.Closes at
      → ((h : Happenings) → StandAfter (places hub) h → StandAfter (places next) (Closes at ∷ h))
      → places next ≡ slice_set (places hub) at None
      → KeepsBounds hub next → (more : Happenings) × Takes D i (scene desk hub) more (scene desk next)
  takes_closes desk hub next i at is on empties bounded = (
    Closes at ∷ [],
    record {
      fits = fits_by hub i is refl;
      by_input = subst (λ (x : Input). HappensBy hub x (Closes at ∷ [])) (sym is) refl;
      leads = refl;
      answer = λ h stand it. it;
      stands = on;
      changes = λ h stand. empties;
      bounded = bounded;
    },
  )

  pub takes_turns : (old new : S) (hub next : Hub) (i : Input) (ready : Vec ℕ Global) (named : List ℕ) (verdict : Bool) → i ≡ input.Turns ready
      → named ≡ ready.items → SettlesRound D named (scene old hub) (scene new next) verdict → KeepsBounds hub next
      → (more : Happenings) × Takes D i (scene old hub) more (scene new next)
  takes_turns old new hub next i ready named verdict is same it bounded = (
    ended_round verdict it.calls [],
    record {
      fits = fits_by hub i is refl;
      by_input = subst (λ (x : Input). HappensBy hub x (ended_round verdict it.calls [])) (sym is)
          (verdict, it.calls, it.turns ∙ ap (λ (l : List ℕ). places_asked hub l) same, refl);
      leads = one_round verdict it.calls it.round;
      answer = λ h stand before. answers_more verdict h it.calls (it.answer h stand) before;
      stands = λ h stand. stands_more verdict h it.calls (it.stands h stand);
      changes = λ h stand. changes_so verdict it.calls (it.others h stand);
      bounded = bounded;
    },
  )
    where
      one_round : (b : Bool) (calls : List DeskCall) → Round D b old calls new → Leads D old (ended_round b calls []) new
      one_round true calls round = (old, refl, round)
      one_round false calls round = (old, refl, round)

      answers_more : (b : Bool) (h : Happenings) (calls : List DeskCall) → AnswersWhatWaits h calls → AnswerWhatWaited h
          → AnswerWhatWaited (ended_round b calls [] ++ h)
      answers_more true h calls now before = (now, before)
      answers_more false h calls now before = (now, before)

      changes_so : (b : Bool) (calls : List DeskCall) → LeavesOthers b calls (places hub) (places next)
          → ChangesPlaces (ended_round b calls []) (places hub) (places next)
      changes_so true calls it = it
      changes_so false calls it = it

      stands_more : (b : Bool) (h : Happenings) (calls : List DeskCall) → StandAfter (places next) (ended_round b calls h)
          → StandAfter (places next) (ended_round b calls [] ++ h)
      stands_more true h calls it = it
      stands_more false h calls it = it

  pub takes_comes : (desk : S) (hub next : Hub) (i : Input) (at : ℕ) (piece : Vec ℕ Global) (bytes : List ℕ) → i ≡ input.Comes at piece
      → bytes ≡ piece.items → piece_fits hub at bytes ≡ true
      → ((h : Happenings) → StandAfter (places hub) h → StandAfter (places next) (comes_if (is_reading_in (slice_get (places hub) at)) at bytes ++ h))
      → ChangesPlaces (comes_if (is_reading_in (slice_get (places hub) at)) at bytes) (places hub) (places next)
      → KeepsBounds hub next → (more : Happenings) × Takes D i (scene desk hub) more (scene desk next)
  takes_comes desk hub next i at piece bytes is same fits on changes bounded =
      let more = comes_if (is_reading_in (slice_get (places hub) at)) at bytes in
      let quiet = quiet_comes (is_reading_in (slice_get (places hub) at)) at bytes in (
        more,
        record {
          fits = fits_by hub i is (ap (λ (l : List ℕ). piece_fits hub at l) (sym same) ∙ fits);
          by_input = subst (λ (x : Input). HappensBy hub x more) (sym is) (ap (λ (l : List ℕ). comes_if (is_reading_in (slice_get (places hub) at)) at l) same);
          leads = quiet_leads desk more quiet;
          answer = λ h stand it. quiet_answers more h quiet it;
          stands = on;
          changes = λ h stand. changes;
          bounded = bounded;
        },
      )

  pub takes_goes : (desk : S) (hub next : Hub) (i : Input) (at most n : ℕ) → i ≡ input.Goes at most
      → n ≡ min most (length (output_at (slice_get (places hub) at)))
      → (0 < n → (h : Happenings) → StandAfter (places hub) h → StandAfter (places next) (Goes at (take n (output_at (slice_get (places hub) at))) ∷ h))
      → (0 < n → SetsOutput at n (places hub) (places next)) → (n ≡ 0 → next ≡ hub)
      → KeepsBounds hub next → (more : Happenings) × Takes D i (scene desk hub) more (scene desk next)
  takes_goes desk hub next i at most n is count on sets off bounded = go (take n (output_at (slice_get (places hub) at))) refl
    where
      by : (more : Happenings) → more ≡ goes_to at (take n (output_at (slice_get (places hub) at))) → HappensBy hub i more
      by more it = subst (λ (x : Input). HappensBy hub x more) (sym is)
          (it ∙ ap (λ (l : List ℕ). goes_to at l) (cut_at_most n most (output_at (slice_get (places hub) at)) count))

      none : take n (output_at (slice_get (places hub) at)) ≡ [] → next ≡ hub
      none nothing = off (nothing_cut n (output_at (slice_get (places hub) at)) (omega (arith, count)) nothing)

      go : (l : List ℕ) → take n (output_at (slice_get (places hub) at)) ≡ l → (more : Happenings) × Takes D i (scene desk hub) more (scene desk next)
      go [] nothing = (
        [],
        record {
          fits = fits_by hub i is refl;
          by_input = by [] (ap (λ (l : List ℕ). goes_to at l) (sym nothing));
          leads = refl;
          answer = λ h stand it. it;
          stands = λ h it. subst (λ (x : Hub). StandAfter (places x) h) (sym (none nothing)) it;
          changes = λ h stand. ap places (none nothing);
          bounded = bounded;
        },
      )
      go (b ∷ l) some =
          let more : 0 < n = something_cut n b l (output_at (slice_get (places hub) at)) some in
          let size : n ≡ length (b ∷ l) = omega (arith, count, length-take n (output_at (slice_get (places hub) at)), ap length some) in (
            Goes at (b ∷ l) ∷ [],
            record {
              fits = fits_by hub i is refl;
              by_input = by (Goes at (b ∷ l) ∷ []) (ap (λ (x : List ℕ). goes_to at x) (sym some));
              leads = refl;
              answer = λ h stand it. it;
              stands = λ h it. subst (λ (x : List ℕ). StandAfter (places next) (Goes at x ∷ h)) some (on more h it);
              changes = λ h stand. subst (λ (k : ℕ). SetsOutput at k (places hub) (places next)) size (sets more);
              bounded = bounded;
            },
          )

  -- ---- inputs, one after the other

  leads_then : (a b c : S) (one two : Happenings) → Leads D a one b → Leads D b two c → Leads D a (two ++ one) c
  leads_then a b c one [] first second = subst (λ (x : S). Leads D a one x) (sym second) first
  leads_then a b c one (Keeps round ∷ two) first second = (second.0, leads_then a b second.0 one two first second.1, second.2)
  leads_then a b c one (Loses round ∷ two) first second = (second.0, leads_then a b second.0 one two first second.1, second.2)
  leads_then a b c one (Opens k ∷ two) first second = leads_then a b c one two first second
  leads_then a b c one (Comes k piece ∷ two) first second = leads_then a b c one two first second
  leads_then a b c one (Goes k piece ∷ two) first second = leads_then a b c one two first second
  leads_then a b c one (Closes k ∷ two) first second = leads_then a b c one two first second

  -- one input more
  pub plays_push : (inputs : List Input) (i : Input) (a b c : Scene S) (h more : Happenings) → PlaysInputs D inputs a h b → Takes D i b more c
      → PlaysInputs D (inputs ++ i ∷ []) a (more ++ h) c
  plays_push [] i a b c h more it last =
      (c, more, [], subst (λ (x : Scene S). Takes D i x more c) it.1 last, (refl, refl), ap (λ (x : Happenings). more ++ x) it.0 ∙ append-nil more)
  plays_push (j ∷ inputs) i a b c h more it last = (
    it.0,
    it.1,
    more ++ it.2,
    it.3,
    plays_push inputs i it.0 b c it.2 more it.4 last,
    ap (λ (x : Happenings). more ++ x) it.5
        ∙ sym (append_assoc more it.2 it.1),
  )

  plays_lead : (inputs : List Input) (a b : Scene S) (h : Happenings) → PlaysInputs D inputs a h b → Leads D a.desk h b.desk
  plays_lead [] a b h it = subst (λ (x : Happenings). Leads D a.desk x b.desk) (sym it.0) (ap (λ (x : Scene S). x.desk) it.1)
  plays_lead (j ∷ inputs) a b h it =
      subst (λ (x : Happenings). Leads D a.desk x b.desk) (sym it.5)
      (leads_then a.desk it.0.desk b.desk it.1 it.2 it.3.leads (plays_lead inputs it.0 b it.2 it.4))

  plays_stand : (inputs : List Input) (a b : Scene S) (h : Happenings) → PlaysInputs D inputs a h b → (g : Happenings) → StandAfter (places a.hub) g
      → StandAfter (places b.hub) (h ++ g)
  plays_stand [] a b h it g stand =
      subst (λ (x : Happenings). StandAfter (places b.hub) (x ++ g)) (sym it.0) (subst (λ (x : Scene S). StandAfter (places x.hub) g) (sym it.1) stand)
  plays_stand (j ∷ inputs) a b h it g stand = subst (λ (x : Happenings). StandAfter (places b.hub) (x ++ g)) (sym it.5)
      (subst (λ (x : Happenings). StandAfter (places b.hub) x) (sym (append_assoc it.2 it.1 g))
      (plays_stand inputs it.0 b it.2 it.4 (it.1 ++ g) (it.3.stands g stand)))

  plays_answer : (inputs : List Input) (a b : Scene S) (h : Happenings) → PlaysInputs D inputs a h b → (g : Happenings) → StandAfter (places a.hub) g
      → AnswerWhatWaited g → AnswerWhatWaited (h ++ g)
  plays_answer [] a b h it g stand before = subst (λ (x : Happenings). AnswerWhatWaited (x ++ g)) (sym it.0) before
  plays_answer (j ∷ inputs) a b h it g stand before = subst (λ (x : Happenings). AnswerWhatWaited (x ++ g)) (sym it.5)
      (subst (λ (x : Happenings). AnswerWhatWaited x) (sym (append_assoc it.2 it.1 g))
      (plays_answer inputs it.0 b it.2 it.4 (it.1 ++ g) (it.3.stands g stand) (it.3.answer g stand before)))

  plays_bounded : (inputs : List Input) (a b : Scene S) (h : Happenings) → PlaysInputs D inputs a h b → KeepsBounds a.hub b.hub
  plays_bounded [] a b h it = subst (λ (x : Scene S). KeepsBounds a.hub x.hub) (sym it.1) (record { bounds = refl; within = λ w. w })
  plays_bounded (j ∷ inputs) a b h it =
      let first : KeepsBounds a.hub it.0.hub = it.3.bounded in
      let later : KeepsBounds it.0.hub b.hub = plays_bounded inputs it.0 b it.2 it.4 in
      record { bounds = later.bounds ∙ first.bounds; within = λ w. later.within (first.within w) }

  pub kept_promises : (inputs : List Input) (old new : Scene S) (h : Happenings) → PlaysInputs D inputs old h new → KeepsPromises D inputs old new
  kept_promises inputs old new h it = record {
    happenings = h;
    plays = it;
    leads = plays_lead inputs old new h it;
    answer = plays_answer inputs old new h it;
    stands = plays_stand inputs old new h it;
    promised = λ before stand c taken. promised (places new.hub) (h ++ before) (plays_stand inputs old new h it before stand) c taken;
    bounded = plays_bounded inputs old new h it;
  }

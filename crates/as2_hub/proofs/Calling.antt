-- Calls of the desk, one after the other, and the round that they are.
-- The plan: `calls_then` puts calls behind calls; `answered` reads off the places in a round that its calls answer what waits; and
-- `round_settled` puts a round together, kept or lost.
use Rattle.std.proofs.Common.{◌≡◌, ℕ, ◌==◌, Bool, true, false, List, [], ◌∷◌, ◌++◌, if◌then◌else◌, Option, Some, None, IsTrue, refl, sym, ap, subst, ◌∙◌, append_assoc, append-nil, MatchBool}
use Rattle.std.specs.Prelude.{slice_get}
use Rattle.as2_hub.specs.Calls.{AnswersInOrder, DeskCall, calls_at}
use Rattle.as2_hub.specs.Conduct.{Conduct, Chain, KeepsUntilSettled, Round}
use Rattle.as2_hub.specs.Happenings.{Happenings, Keeps, Loses, is_open_after, bytes_from, calls_of}
use Rattle.as2_hub.specs.Talks.{HoldsRest, Pends, before_calls}
use Rattle.as2_hub.specs.Places.{ChangesOnlyIfKept, PlaceStands, StandAmid, StandAfter, places}
use Rattle.as2_hub.specs.Rounds.{AnswersWhatWaits, AsksPlaces, LeavesOthers, MakesCalls, Scene, SettlesRound}
use Rattle.as2_hub.specs.declared.talk.Talk.{Talk}
use Rattle.as2_hub.proofs.Reading.{in_order, in_order_with}
use Rattle.as2_hub.proofs.Standing.{lost}
use Rattle.as2_hub.proofs.Waiting.{left_all, left_silent}

-- no calls of two lists are none of either
pub calls_at_append : (c : ℕ) (later earlier : List DeskCall) → calls_at c (later ++ earlier) ≡ calls_at c later ++ calls_at c earlier
calls_at_append c [] earlier = refl
calls_at_append c (e ∷ later) earlier = go (e.place == c) (calls_at_append c later earlier)
  where
    go : (b : Bool) → calls_at c (later ++ earlier) ≡ calls_at c later ++ calls_at c earlier
        → (if b then e ∷ calls_at c (later ++ earlier) else calls_at c (later ++ earlier))
        ≡ (if b then e ∷ calls_at c later else calls_at c later) ++ calls_at c earlier
    go true is = ap (λ (l : List DeskCall). e ∷ l) is
    go false is = is

pub neither : {X : Type 0} (xs ys : List X) → xs ++ ys ≡ [] → (xs ≡ []) × (ys ≡ [])
neither [] ys none = (refl, none)
neither {X} (x ∷ xs) ys none = absurd (some x (xs ++ ys) none)
  where
    some : (x : X) (l : List X) → x ∷ l ≡ [] → ⊥
    some x l is = cc

module _ {S : Type 0} (D : Conduct S) where
  -- ---- calls

  pub chain_then : (a b c : S) (one two : List DeskCall) → Chain D a one b → Chain D b two c → Chain D a (two ++ one) c
  chain_then a b c one [] first second = subst (λ (x : S). Chain D a one x) (sym second) first
  chain_then a b c one (e ∷ two) first second = (second.0, chain_then a b second.0 one two first second.1, second.2)

  pub goes_then : (a b c : S) → KeepsUntilSettled D a b → KeepsUntilSettled D b c → KeepsUntilSettled D a c
  goes_then a b c one two = record {
    may_lose = two.may_lose ∙ one.may_lose;
    keeps = λ may. two.keeps (one.may_lose ∙ may) ∙ one.keeps may;
  }

  abbrev pub calls_none : (desk : S) (talks : List (Option Talk)) → MakesCalls D desk desk talks talks
  calls_none desk talks = record {
    calls = [];
    chain = refl;
    goes_on = λ h round it. it;
    others = λ c none. refl;
    back = λ may c. refl;
    on = record { may_lose = refl; keeps = λ may. refl };
  }

  abbrev pub calls_then : (a b c : S) (x y z : List (Option Talk)) → MakesCalls D a b x y → MakesCalls D b c y z → MakesCalls D a c x z
  calls_then a b c x y z one two = record {
    calls = two.calls ++ one.calls;
    chain = chain_then a b c one.calls two.calls one.chain two.chain;
    goes_on = λ h round it. subst (λ (es : List DeskCall). StandAmid z h es) (sym (append_assoc two.calls one.calls round))
        (two.goes_on h (one.calls ++ round) (one.goes_on h round it));
    others = λ k none.
        let both = neither (calls_at k two.calls) (calls_at k one.calls) (sym (calls_at_append k two.calls one.calls) ∙ none) in
        two.others k both.0 ∙ one.others k both.1;
    back = λ may k. two.back (one.on.may_lose ∙ may) k ∙ one.back may k;
    on = goes_then a b c one.on two.on;
  }

  -- ---- rounds

  -- the calls of a round answer what waits
  answered : (talks : List (Option Talk)) (h : Happenings) (round : List DeskCall) → StandAmid talks h round → AnswersWhatWaits h round
  unfolding StandAmid
  answered talks h round it c = go (slice_get talks c) (it c)
    where
      pending : (t : Talk) (l : List DeskCall) → HoldsRest (before_calls l t) (bytes_from c h) (calls_of c h) → Pends l t
          → AnswersInOrder (bytes_from c h) (l ++ calls_of c h)
      pending t [] rest p = in_order t (bytes_from c h) (calls_of c h) rest
      pending t (e ∷ []) rest p = in_order_with (before_calls (e ∷ []) t) e (bytes_from c h) (calls_of c h) refl p.last rest
      pending t (e ∷ f ∷ more) rest p = absurd p

      go : (o : Option (Option Talk)) → PlaceStands c h round o
          → MatchBool (is_open_after c h) (AnswersInOrder (bytes_from c h) (calls_at c round ++ calls_of c h)) (calls_at c round ≡ [])
      go None is = subst (λ (b : Bool). MatchBool b (AnswersInOrder (bytes_from c h) (calls_at c round ++ calls_of c h)) (calls_at c round ≡ []))
          (sym is.0) is.1
      go (Some None) is = subst
          (λ (b : Bool). MatchBool b (AnswersInOrder (bytes_from c h) (calls_at c round ++ calls_of c h)) (calls_at c round ≡ [])) (sym is.0) is.1
      go (Some (Some t)) is = subst
          (λ (b : Bool). MatchBool b (AnswersInOrder (bytes_from c h) (calls_at c round ++ calls_of c h)) (calls_at c round ≡ [])) (sym is.is_open)
          (pending t (calls_at c round) is.rest is.pends)

  amid : (old mid : Scene S) (named : List ℕ) (it : AsksPlaces D named old mid) (h : Happenings) → StandAfter (places old.hub) h
      → StandAmid (places mid.hub) h it.made.calls
  amid old mid named it h stand =
      subst (λ (x : List DeskCall). StandAmid (places mid.hub) h x) (append-nil it.made.calls) (it.made.goes_on h [] stand)

  -- the round is kept
  pub round_kept : (old mid new : Scene S) (named : List ℕ) → AsksPlaces D named old mid → D.settles mid.desk new.desk → D.at_rest new.desk
      → ((h : Happenings) (round : List DeskCall) → StandAmid (places mid.hub) h round → StandAfter (places new.hub) (Keeps round ∷ h))
      → ((c : ℕ) → ChangesOnlyIfKept true (slice_get (places mid.hub) c) (slice_get (places new.hub) c)) → SettlesRound D named old new true
  round_kept old mid new named it settled rests on waits = record {
    calls = it.made.calls;
    turns = it.turns;
    round = record { called = mid.desk; chain = it.made.chain; ended = settled; rests = rests };
    answer = λ h stand. answered (places mid.hub) h it.made.calls (amid old mid named it h stand);
    stands = λ h stand. on h it.made.calls (amid old mid named it h stand);
    others = λ h stand. left_silent h it.made.calls (places old.hub) (places mid.hub) (places new.hub) stand (amid old mid named it h stand)
        it.made.others waits;
  }

  -- .. or lost
  pub round_lost : (old mid new : Scene S) (named : List ℕ) → AsksPlaces D named old mid → D.may_lose mid.desk ≡ true → D.at_rest new.desk
      → D.kept new.desk ≡ D.kept mid.desk → ((c : ℕ) → ChangesOnlyIfKept false (slice_get (places mid.hub) c) (slice_get (places new.hub) c))
      → SettlesRound D named old new false
  round_lost old mid new named it may rests keeps waits = record {
    calls = it.made.calls;
    turns = it.turns;
    round = record { called = mid.desk; chain = it.made.chain; ended = (might, keeps ∙ it.made.on.keeps might); rests = rests };
    answer = λ h stand. answered (places mid.hub) h it.made.calls (amid old mid named it h stand);
    stands = λ h stand. subst (λ (l : List (Option Talk)). StandAfter l (Loses it.made.calls ∷ h)) (sym (left h stand))
        (lost (places old.hub) h it.made.calls stand);
    others = left;
  }
    where
      might : D.may_lose old.desk ≡ true
      might = sym it.made.on.may_lose ∙ may

      left : (h : Happenings) → StandAfter (places old.hub) h → LeavesOthers false it.made.calls (places old.hub) (places new.hub)
      left h stand = left_all h it.made.calls (places old.hub) (places mid.hub) (places new.hub) stand (it.made.back might) waits

  pub round_settled : (old mid new : Scene S) (named : List ℕ) (verdict : Bool) → AsksPlaces D named old mid → D.at_rest new.desk
      → (IsTrue verdict → D.settles mid.desk new.desk) → (verdict ≡ false → D.may_lose mid.desk ≡ true)
      → (verdict ≡ false → D.kept new.desk ≡ D.kept mid.desk)
      → (IsTrue verdict → (h : Happenings) (round : List DeskCall) → StandAmid (places mid.hub) h round → StandAfter (places new.hub) (Keeps round ∷ h))
      → ((c : ℕ) → ChangesOnlyIfKept verdict (slice_get (places mid.hub) c) (slice_get (places new.hub) c)) → SettlesRound D named old new verdict
  round_settled old mid new named true it rests settled may keeps on waits = round_kept old mid new named it (settled refl) rests (on refl) waits
  round_settled old mid new named false it rests settled may keeps on waits = round_lost old mid new named it (may refl) rests (keeps refl) waits

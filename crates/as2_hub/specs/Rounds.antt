-- Rounds: which calls of the desk are made, and what becomes of them.
use Rattle.std.specs.Prelude.{◌≡◌, ℕ, Bool, true, false, List, [], ◌∷◌, ◌++◌, Option, slice_get, MatchBool, ⊤}
use Rattle.as2_hub.specs.Calls.{DeskCall, AnswersInOrder, calls_at}
use Rattle.as2_hub.specs.Conduct.{Conduct, Chain, KeepsUntilSettled, Round}
use Rattle.as2_hub.specs.Happenings.{Happenings, Opens, Comes, Keeps, Loses, Goes, Closes, is_open_after, bytes_from, calls_of}
use Rattle.as2_hub.specs.Places.{DiffersByReplies, StandAmid, StandAfter, ended_round, places}
use Rattle.as2_hub.specs.Turns.{AsksAt, called_places, places_asked}
use Rattle.as2_hub.specs.declared.hub.Hub.{Hub}
use Rattle.as2_hub.specs.declared.talk.Talk.{Talk}

-- the desk, and what is kept of the connections
pub record Scene (S : Type 0) : Type 0 where
  pub desk : S
  pub hub : Hub

abbrev pub scene : {S : Type 0} → S → Hub → Scene S
scene desk hub = record { desk = desk; hub = hub }

-- These calls were made, one after the other, and a round with them goes on as one with these in front. The places without a call are as
-- they were. Where a round may be lost, what the desk keeps is as it was, and so are the other places but for the replies that are held.
pub record MakesCalls {S : Type 0} (D : Conduct S) (old new : S) (talks next : List (Option Talk)) : Type 0 where
  pub calls : List DeskCall
  pub chain : Chain D old calls new
  pub goes_on : (h : Happenings) (round : List DeskCall) → StandAmid talks h round → StandAmid next h (calls ++ round)
  pub others : (c : ℕ) → calls_at c calls ≡ [] → slice_get next c ≡ slice_get talks c
  pub back : D.may_lose old ≡ true → DiffersByReplies talks next
  pub on : KeepsUntilSettled D old new

-- that place was asked
pub record AsksPlace {S : Type 0} (D : Conduct S) (at : ℕ) (old new : Scene S) (is_called : Bool) : Type 0 where
  pub made : MakesCalls D old.desk new.desk (places old.hub) (places new.hub)
  pub turn : AsksAt at (places old.hub) (places new.hub) made.calls is_called

-- those of the named places that a round asks were asked
pub record AsksPlaces {S : Type 0} (D : Conduct S) (named : List ℕ) (old new : Scene S) : Type 0 where
  pub made : MakesCalls D old.desk new.desk (places old.hub) (places new.hub)
  pub turns : called_places made.calls ≡ places_asked old.hub named

-- The calls of a round answer what the connections begin with that are open, behind those that were answered before; and no other calls
-- are made.
abbrev pub AnswersWhatWaits : Happenings → List DeskCall → Type 0
AnswersWhatWaits h round = (c : ℕ) → MatchBool (is_open_after c h) (AnswersInOrder (bytes_from c h) (calls_at c round ++ calls_of c h)) (calls_at c round ≡ [])

-- .. as do those of each round, whether it was kept or lost
abbrev pub AnswerWhatWaited : Happenings → Type 0
AnswerWhatWaited [] = ⊤
AnswerWhatWaited (Keeps round ∷ h) = AnswersWhatWaits h round × AnswerWhatWaited h
AnswerWhatWaited (Loses round ∷ h) = AnswersWhatWaits h round × AnswerWhatWaited h
AnswerWhatWaited (Opens c ∷ h) = AnswerWhatWaited h
AnswerWhatWaited (Comes c piece ∷ h) = AnswerWhatWaited h
AnswerWhatWaited (Goes c piece ∷ h) = AnswerWhatWaited h
AnswerWhatWaited (Closes c ∷ h) = AnswerWhatWaited h

-- a round of these calls left as they were the places without a call; and where it is lost, all places
abbrev pub LeavesOthers : Bool → List DeskCall → List (Option Talk) → List (Option Talk) → Type 0
LeavesOthers true calls old new = (c : ℕ) → calls_at c calls ≡ [] → slice_get new c ≡ slice_get old c
LeavesOthers false calls old new = new ≡ old

-- A round over these places, with this verdict: the calls are those of the places that it asks; each reply of a kept round may go, and of
-- a lost one all waits on.
pub record SettlesRound {S : Type 0} (D : Conduct S) (named : List ℕ) (old new : Scene S) (verdict : Bool) : Type 0 where
  pub calls : List DeskCall
  pub turns : called_places calls ≡ places_asked old.hub named
  pub round : Round D verdict old.desk calls new.desk
  pub answer : (h : Happenings) → StandAfter (places old.hub) h → AnswersWhatWaits h calls
  pub stands : (h : Happenings) → StandAfter (places old.hub) h → StandAfter (places new.hub) (ended_round verdict calls h)
  pub others : (h : Happenings) → StandAfter (places old.hub) h → LeavesOthers verdict calls (places old.hub) (places new.hub)

-- The connections at their places, after what happened.
use Rattle.std.specs.Prelude.{◌≡◌, ℕ, ◌-◌, ◌&&◌, Bool, true, false, min, drop, is_some, List, [], ◌∷◌, ◌++◌, Option, Some, None, sum_by, slice_get, slice_set}
use Rattle.as2_hub.specs.Calls.{DeskCall, calls_at, replies_of}
use Rattle.as2_hub.specs.Happenings.{Happenings, Keeps, Loses, is_open_after, bytes_from, calls_of, written_to}
use Rattle.as2_hub.specs.Talks.{HoldsRest, IsFresh, Pends, before_calls, unanswered_of, talk_room, is_ready, is_done}
use Rattle.as2_hub.specs.declared.hub.Hub.{Hub}
use Rattle.as2_hub.specs.declared.talk.Talk.{Talk}

-- the connection at each place, if there is one
abbrev pub places : Hub → List (Option Talk)
places hub = hub.talks.items

-- somebody has the place
abbrev pub is_occupied : Option (Option Talk) → Bool
is_occupied None = false
is_occupied (Some None) = false
is_occupied (Some (Some t)) = true

-- there is such a place, and nobody has it
abbrev pub is_vacant : Option (Option Talk) → Bool
is_vacant None = false
is_vacant (Some None) = true
is_vacant (Some (Some t)) = false

-- what is to be written to whoever has it
abbrev pub output_at : Option (Option Talk) → List ℕ
output_at None = []
output_at (Some None) = []
output_at (Some (Some t)) = t.output.items

-- how many bytes of whoever has it aren't answered
abbrev pub place_unanswered : Option Talk → ℕ
place_unanswered None = 0
place_unanswered (Some t) = unanswered_of t

-- how many bytes more may be read of all
abbrev pub room_left : Hub → ℕ
room_left hub = hub.bounds.bytes_of_all - sum_by place_unanswered (places hub)

-- how many bytes may be read next of whoever has it
abbrev pub room_in : Hub → Option (Option Talk) → ℕ
room_in hub None = 0
room_in hub (Some None) = 0
room_in hub (Some (Some t)) = min (talk_room hub.bounds.bytes_of_one t) (room_left hub)

-- a request of whoever has it waits whose reply may be made
abbrev pub is_ready_in : Option (Option Talk) → Bool
is_ready_in None = false
is_ready_in (Some None) = false
is_ready_in (Some (Some t)) = is_ready t

-- more is read of whoever has it
abbrev pub is_reading_in : Option (Option Talk) → Bool
is_reading_in None = false
is_reading_in (Some None) = false
is_reading_in (Some (Some t)) = is_some t.parser

-- nothing more is read of whoever has it, and nothing is to be written
abbrev pub is_done_in : Option (Option Talk) → Bool
is_done_in None = false
is_done_in (Some None) = false
is_done_in (Some (Some t)) = is_done t

-- whoever has it holds a reply, until the round has ended
abbrev pub holds_reply_in : Option (Option Talk) → Bool
holds_reply_in None = false
holds_reply_in (Some None) = false
holds_reply_in (Some (Some t)) = is_some t.reply

-- whoever has it, without that reply
abbrev pub without_reply : Option (Option Talk) → Option (Option Talk)
without_reply None = None
without_reply (Some None) = Some None
without_reply (Some (Some t)) = Some (Some (record t { reply = None }))

-- at each place somebody may hold another reply, and nothing else is changed
abbrev pub DiffersByReplies : List (Option Talk) → List (Option Talk) → Type 0
DiffersByReplies old new = (c : ℕ) → without_reply (slice_get new c) ≡ without_reply (slice_get old c)

-- The round has ended, with this verdict. Where it is lost, or no reply was held at this place, the place holds none and is else as it
-- was.
abbrev pub ChangesOnlyIfKept : Bool → Option (Option Talk) → Option (Option Talk) → Type 0
ChangesOnlyIfKept is_kept old new = (is_kept && holds_reply_in old) ≡ false → new ≡ without_reply old

-- This is so within a round of these calls. What is kept of the connection at that place is the rest of its input, with what is asked,
-- and the rest of the replies. No more than one of the calls was made for it.
pub record TalkStands (c : ℕ) (h : Happenings) (round : List DeskCall) (t : Talk) : Type 0 where
  pub is_open : is_open_after c h ≡ true
  pub rest : HoldsRest (before_calls (calls_at c round) t) (bytes_from c h) (calls_of c h)
  pub written : replies_of (calls_of c h) ≡ written_to c h ++ t.output.items
  pub pends : Pends (calls_at c round) t

-- nobody is at that place, and no call was made for it
abbrev pub IsVacantAfter : ℕ → Happenings → List DeskCall → Type 0
IsVacantAfter c h round = (is_open_after c h ≡ false) × (calls_at c round ≡ [])

abbrev pub PlaceStands : ℕ → Happenings → List DeskCall → Option (Option Talk) → Type 0
PlaceStands c h round None = IsVacantAfter c h round
PlaceStands c h round (Some None) = IsVacantAfter c h round
PlaceStands c h round (Some (Some t)) = TalkStands c h round t

-- each connection stands so within a round, and nobody else has a place
unfoldable pub StandAmid : List (Option Talk) → Happenings → List DeskCall → Type 0
StandAmid talks h round = (c : ℕ) → PlaceStands c h round (slice_get talks c)

-- each connection stands so between two rounds
abbrev pub StandAfter : List (Option Talk) → Happenings → Type 0
StandAfter talks h = StandAmid talks h []

-- somebody new has that place, and nothing else changed
abbrev pub OpensTalk : ℕ → List (Option Talk) → List (Option Talk) → Type 0
OpensTalk at old new = (t : Talk) × IsFresh t × (new ≡ slice_set old at (Some t))

-- that place has somebody, and nothing else changed
abbrev pub SetsTalk : ℕ → List (Option Talk) → List (Option Talk) → Type 0
SetsTalk at old new = (t : Talk) × (new ≡ slice_set old at (Some t))

-- so many bytes less are to be written at that place, and nothing else changed
abbrev pub SetsOutput : ℕ → ℕ → List (Option Talk) → List (Option Talk) → Type 0
SetsOutput at count old new = (t next : Talk) × (slice_get old at ≡ Some (Some t)) × (new ≡ slice_set old at (Some next))
    × (next ≡ record t { output = next.output }) × (next.output.items ≡ drop count t.output.items)

-- a round is kept, or lost
abbrev pub ended_round : Bool → List DeskCall → Happenings → Happenings
ended_round true round h = Keeps round ∷ h
ended_round false round h = Loses round ∷ h

-- Which places a round asks.
use Rattle.std.specs.Prelude.{◌≡◌, ℕ, ◌&&◌, not, ◌==◌, Bool, true, false, List, [], ◌∷◌, ◌++◌, take, filter, Option, slice_get}
use Rattle.as2_hub.specs.Calls.{DeskCall}
use Rattle.as2_hub.specs.Places.{is_ready_in, places}
use Rattle.as2_hub.specs.declared.hub.Hub.{Hub}
use Rattle.as2_hub.specs.declared.talk.Talk.{Talk}

-- that place is ready: a request waits there whose reply may be made
abbrev pub is_ready_at : List (Option Talk) → ℕ → Bool
is_ready_at talks c = is_ready_in (slice_get talks c)

-- these places without that one
abbrev pub without_place : ℕ → List ℕ → List ℕ
without_place c named = filter (λ d. not (d == c)) named

-- these places, each where it is named first
abbrev pub each_once : List ℕ → List ℕ
each_once [] = []
each_once (c ∷ named) = c ∷ without_place c (each_once named)

-- The places that a round asks. They are those of the named ones that are ready, each once, in the order in which they are named. They
-- are so many at most as may be answered in one round.
abbrev pub places_asked : Hub → List ℕ → List ℕ
places_asked hub named = take hub.bounds.requests (each_once (filter (is_ready_at (places hub)) named))

-- the places of these calls, that of the first call first
abbrev pub called_places : List DeskCall → List ℕ
called_places [] = []
called_places (e ∷ earlier) = called_places earlier ++ e.place ∷ []

-- a call was made for that place, which was ready and isn't now; elsewhere what is ready is as before
abbrev pub CallsAt : ℕ → List (Option Talk) → List (Option Talk) → List DeskCall → Type 0
CallsAt at old new calls = (called_places calls ≡ at ∷ []) × (is_ready_at old at ≡ true) × ((c : ℕ) → is_ready_at new c ≡ (is_ready_at old c && not (c == at)))

-- that place was asked: where it was ready a call was made; where it wasn't, nothing changed
abbrev pub AsksAt : ℕ → List (Option Talk) → List (Option Talk) → List DeskCall → Bool → Type 0
AsksAt at old new calls true = CallsAt at old new calls
AsksAt at old new calls false = (is_ready_at old at ≡ false) × (calls ≡ []) × (new ≡ old)

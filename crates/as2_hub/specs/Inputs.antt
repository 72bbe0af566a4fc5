-- What happens by an input.
use Rattle.std.specs.Prelude.{◌≡◌, ℕ, not, ◌||◌, Bool, true, false, List, [], ◌∷◌, length, leb, take, Option, Some, None, slice_get, slice_set, ⊤}
use Rattle.as2_hub.specs.Calls.{DeskCall}
use Rattle.as2_hub.specs.Happenings.{Happenings, Opens, Comes, Keeps, Loses, Goes, Closes}
use Rattle.as2_hub.specs.Places.{OpensTalk, SetsOutput, SetsTalk, ended_round, is_reading_in, is_vacant, output_at, places, room_in}
use Rattle.as2_hub.specs.Rounds.{LeavesOthers}
use Rattle.as2_hub.specs.Turns.{called_places, places_asked}
use Rattle.as2_hub.specs.declared.hub.Hub.{Hub}
use Rattle.as2_hub.specs.declared.input.Input.{Input}
use Rattle.as2_hub.specs.declared.input.Input.TheVariants as input
use Rattle.as2_hub.specs.declared.talk.Talk.{Talk}

-- ---- what is taken

-- there is room for all of a piece, or more isn't read there
abbrev pub piece_fits : Hub → ℕ → List ℕ → Bool
piece_fits hub at piece = not (is_reading_in (slice_get (places hub) at)) || leb (length piece) (room_in hub (slice_get (places hub) at))

-- there is room for the bytes that come by that input, if some do
abbrev pub fits_in : Hub → Input → Bool
fits_in hub (input.Opens at) = true
fits_in hub (input.Comes at piece) = piece_fits hub at piece.items
fits_in hub (input.Turns named) = true
fits_in hub (input.Goes at most) = true
fits_in hub (input.Closes at) = true

-- the next input, if there is one, has bytes for which there is no room
abbrev pub StopsBefore : Hub → Option Input → Type 0
StopsBefore hub None = ⊤
StopsBefore hub (Some i) = fits_in hub i ≡ false

-- ---- what happens

-- where a place is vacant, a connection is opened there
abbrev pub opens_if : ℕ → Bool → Happenings
opens_if at true = Opens at ∷ []
opens_if at false = []

-- bytes come where more is read; and no bytes are nothing
abbrev pub comes_if : Bool → ℕ → List ℕ → Happenings
comes_if true at (b ∷ piece) = Comes at (b ∷ piece) ∷ []
comes_if true at [] = []
comes_if false at piece = []

abbrev pub goes_to : ℕ → List ℕ → Happenings
goes_to at [] = []
goes_to at (b ∷ piece) = Goes at (b ∷ piece) ∷ []

-- a round is kept or lost, of the places that it asks
abbrev pub TurnsOver : Hub → List ℕ → Happenings → Type 0
TurnsOver hub named more = (verdict : Bool) × (round : List DeskCall) × (called_places round ≡ places_asked hub named) × (more ≡ ended_round verdict round [])

-- By that input this happens. All of a piece comes, where more is read. A round is kept or lost. No more goes than is to be written.
abbrev pub HappensBy : Hub → Input → Happenings → Type 0
HappensBy hub (input.Opens at) more = more ≡ opens_if at (is_vacant (slice_get (places hub) at))
HappensBy hub (input.Comes at piece) more = more ≡ comes_if (is_reading_in (slice_get (places hub) at)) at piece.items
HappensBy hub (input.Turns named) more = TurnsOver hub named.items more
HappensBy hub (input.Goes at most) more = more ≡ goes_to at (take most (output_at (slice_get (places hub) at)))
HappensBy hub (input.Closes at) more = more ≡ Closes at ∷ []

-- What happened last left all places as they were but the one where it happened. A round that is kept left all but those of its calls.
-- One that is lost left all.
abbrev pub ChangesPlaces : Happenings → List (Option Talk) → List (Option Talk) → Type 0
ChangesPlaces [] old new = new ≡ old
ChangesPlaces (Opens c ∷ more) old new = OpensTalk c old new
ChangesPlaces (Comes c piece ∷ more) old new = SetsTalk c old new
ChangesPlaces (Keeps round ∷ more) old new = LeavesOthers true round old new
ChangesPlaces (Loses round ∷ more) old new = LeavesOthers false round old new
ChangesPlaces (Goes c piece ∷ more) old new = SetsOutput c (length piece) old new
ChangesPlaces (Closes c ∷ more) old new = new ≡ slice_set old c None

-- What is promised of many connections over one desk.
use Rattle.std.specs.Prelude.{◌≡◌, ℕ, true, false, List, [], ◌∷◌, ◌++◌, slice_get}
use Rattle.as2_hub.specs.Bounded.{KeepsBounds}
use Rattle.as2_hub.specs.Calls.{AnswersInOrder, replies_of}
use Rattle.as2_hub.specs.Conduct.{Conduct, Round}
use Rattle.as2_hub.specs.Happenings.{Happenings, Opens, Comes, Keeps, Loses, Goes, Closes, is_open_after, bytes_from, calls_of, written_to}
use Rattle.as2_hub.specs.Inputs.{ChangesPlaces, HappensBy, fits_in}
use Rattle.as2_hub.specs.Places.{StandAfter, output_at, places}
use Rattle.as2_hub.specs.Rounds.{AnswerWhatWaited, Scene}
use Rattle.as2_hub.specs.declared.input.Input.{Input}

-- What happened leads the desk from the first state to the last. The rounds that are kept do so one after the other. One that is lost,
-- as it might be from its begin, leaves what the desk keeps as it was.
abbrev pub Leads : {S : Type 0} → Conduct S → S → Happenings → S → Type 0
Leads D old [] new = new ≡ old
Leads {S} D old (Keeps round ∷ h) new = (mid : S) × Leads D old h mid × Round D true mid round new
Leads {S} D old (Loses round ∷ h) new = (mid : S) × Leads D old h mid × Round D false mid round new
Leads D old (Opens c ∷ h) new = Leads D old h new
Leads D old (Comes c piece ∷ h) new = Leads D old h new
Leads D old (Goes c piece ∷ h) new = Leads D old h new
Leads D old (Closes c ∷ h) new = Leads D old h new

-- ---- the inputs

-- by that input this happened more, whatever happened before
pub record Takes {S : Type 0} (D : Conduct S) (i : Input) (old : Scene S) (more : Happenings) (new : Scene S) : Type 0 where
  pub fits : fits_in old.hub i ≡ true
  pub by_input : HappensBy old.hub i more
  pub leads : Leads D old.desk more new.desk
  pub answer : (h : Happenings) → StandAfter (places old.hub) h → AnswerWhatWaited h → AnswerWhatWaited (more ++ h)
  pub stands : (h : Happenings) → StandAfter (places old.hub) h → StandAfter (places new.hub) (more ++ h)
  pub changes : (h : Happenings) → StandAfter (places old.hub) h → ChangesPlaces more (places old.hub) (places new.hub)
  pub bounded : KeepsBounds old.hub new.hub

-- by these inputs, one after the other, this happened
abbrev pub PlaysInputs : {S : Type 0} → Conduct S → List Input → Scene S → Happenings → Scene S → Type 0
PlaysInputs D [] old h new = (h ≡ []) × (new ≡ old)
PlaysInputs {S} D (i ∷ inputs) old h new = (mid : Scene S) × (first later : Happenings) × Takes D i old first mid
    × PlaysInputs D inputs mid later new × (h ≡ later ++ first)

-- ---- what is promised

-- What is promised of a connection. The calls of kept rounds answer, one by one, what its bytes begin with. What was written to it, and
-- then what is to be written, are their replies.
pub record Promise (c : ℕ) (h : Happenings) (unwritten : List ℕ) : Type 0 where
  pub answered : AnswersInOrder (bytes_from c h) (calls_of c h)
  pub written : replies_of (calls_of c h) ≡ written_to c h ++ unwritten

-- By these inputs something happened that leads the desk so. Whatever happened before, the rounds answer what waited and nothing else. Each open
-- connection has what is promised then, and what is kept of it is the rest. The bounds are as they were. Bytes that were within them are within them
-- still.
pub record KeepsPromises {S : Type 0} (D : Conduct S) (inputs : List Input) (old new : Scene S) : Type 0 where
  pub happenings : Happenings
  pub plays : PlaysInputs D inputs old happenings new
  pub leads : Leads D old.desk happenings new.desk
  pub answer : (h : Happenings) → StandAfter (places old.hub) h → AnswerWhatWaited h → AnswerWhatWaited (happenings ++ h)
  pub stands : (h : Happenings) → StandAfter (places old.hub) h → StandAfter (places new.hub) (happenings ++ h)
  pub promised : (h : Happenings) → StandAfter (places old.hub) h → (c : ℕ) → is_open_after c (happenings ++ h) ≡ true
      → Promise c (happenings ++ h) (output_at (slice_get (places new.hub) c))
  pub bounded : KeepsBounds old.hub new.hub

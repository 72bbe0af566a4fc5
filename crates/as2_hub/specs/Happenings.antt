-- What happened at the connections, the newest first.
use Rattle.std.specs.Prelude.{ℕ, ◌==◌, Bool, true, false, List, [], ◌∷◌, ◌++◌, if◌then◌else◌}
use Rattle.as2_hub.specs.Calls.{DeskCall, calls_at}

-- what happens; a connection is called by its place, and a place is given again once it is closed
pub data Happening : Type 0 where
  Opens : (c : ℕ) → Happening
  Comes : (c : ℕ) (piece : List ℕ) → Happening
  -- a round with these calls is kept, or lost
  Keeps : (round : List DeskCall) → Happening
  Loses : (round : List DeskCall) → Happening
  Goes : (c : ℕ) (piece : List ℕ) → Happening
  Closes : (c : ℕ) → Happening

abbrev pub Happenings : Type 0
Happenings = List Happening

-- somebody has the place
abbrev pub is_open_after : ℕ → Happenings → Bool
is_open_after c [] = false
is_open_after c (Opens d ∷ h) = if d == c then true else is_open_after c h
is_open_after c (Comes d piece ∷ h) = is_open_after c h
is_open_after c (Keeps round ∷ h) = is_open_after c h
is_open_after c (Loses round ∷ h) = is_open_after c h
is_open_after c (Goes d piece ∷ h) = is_open_after c h
is_open_after c (Closes d ∷ h) = if d == c then false else is_open_after c h

-- the bytes that were taken from the connection at that place since it was opened
abbrev pub bytes_from : ℕ → Happenings → List ℕ
bytes_from c [] = []
bytes_from c (Opens d ∷ h) = if d == c then [] else bytes_from c h
bytes_from c (Comes d piece ∷ h) = if d == c then bytes_from c h ++ piece else bytes_from c h
bytes_from c (Keeps round ∷ h) = bytes_from c h
bytes_from c (Loses round ∷ h) = bytes_from c h
bytes_from c (Goes d piece ∷ h) = bytes_from c h
bytes_from c (Closes d ∷ h) = bytes_from c h

-- the calls for it in rounds that were kept
abbrev pub calls_of : ℕ → Happenings → List DeskCall
calls_of c [] = []
calls_of c (Opens d ∷ h) = if d == c then [] else calls_of c h
calls_of c (Comes d piece ∷ h) = calls_of c h
calls_of c (Keeps round ∷ h) = calls_at c round ++ calls_of c h
calls_of c (Loses round ∷ h) = calls_of c h
calls_of c (Goes d piece ∷ h) = calls_of c h
calls_of c (Closes d ∷ h) = calls_of c h

-- the bytes that were written to it
abbrev pub written_to : ℕ → Happenings → List ℕ
written_to c [] = []
written_to c (Opens d ∷ h) = if d == c then [] else written_to c h
written_to c (Comes d piece ∷ h) = written_to c h
written_to c (Keeps round ∷ h) = written_to c h
written_to c (Loses round ∷ h) = written_to c h
written_to c (Goes d piece ∷ h) = if d == c then written_to c h ++ piece else written_to c h
written_to c (Closes d ∷ h) = written_to c h

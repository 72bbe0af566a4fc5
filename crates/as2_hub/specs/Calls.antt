-- What the bytes of a connection begin with, call after call of the desk.
use Rattle.std.specs.Prelude.{◌≡◌, ◌⊎◌, ℕ, ◌==◌, Bool, true, false, List, [], ◌∷◌, ◌++◌, if◌then◌else◌, ⊤}
use Rattle.as2_messages.specs.Requests.{BeginsRequest, BeginsNoRequest}
use Rattle.as2_hub.specs.declared.beginning.Beginning.{Beginning}
use Rattle.as2_hub.specs.declared.beginning.Beginning.TheVariants as beginning

-- A call of the desk: what the bytes of the connection at a place begin with, the reply to it, and whether the connection stays open.
-- In lists of calls the newest is the first.
pub record DeskCall : Type 0 where
  pub place : ℕ
  pub asked : Beginning
  pub reply : List ℕ
  pub stays : Bool

-- the calls for the connection at that place
abbrev pub calls_at : ℕ → List DeskCall → List DeskCall
calls_at c [] = []
calls_at c (e ∷ earlier) = if e.place == c then e ∷ calls_at c earlier else calls_at c earlier

-- their replies, one after the other
abbrev pub replies_of : List DeskCall → List ℕ
replies_of [] = []
replies_of (e ∷ earlier) = replies_of earlier ++ e.reply

-- behind the last request of a connection it doesn't stay open
abbrev pub MayStay : Beginning → Bool → Type 0
MayStay (beginning.Request r) true = r.last ≡ false
MayStay (beginning.Request r) false = ⊤
MayStay (beginning.NoRequest refused) stays = ⊤

-- the text begins with that request, behind which the connection stays open, and then comes the rest
abbrev pub GoesOnBehind : List ℕ → Beginning → Bool → List ℕ → Type 0
GoesOnBehind text (beginning.Request r) true rest = (r.last ≡ false) × BeginsRequest text r rest
GoesOnBehind text (beginning.Request r) false rest = ⊥
GoesOnBehind text (beginning.NoRequest refused) stays rest = ⊥

-- the text begins with that request, behind which the connection ends, or with no request
abbrev pub EndsBehind : List ℕ → Beginning → Bool → Type 0
EndsBehind text (beginning.Request r) true = ⊥
EndsBehind text (beginning.Request r) false = (rest : List ℕ) × BeginsRequest text r rest
EndsBehind text (beginning.NoRequest refused) stays = BeginsNoRequest text refused

-- the text begins with the requests of these calls, behind each of which the connection stays open, and then comes the rest
abbrev pub ReadsTo : List ℕ → List DeskCall → List ℕ → Type 0
ReadsTo text [] rest = rest ≡ text
ReadsTo text (e ∷ earlier) rest = (mid : List ℕ) × ReadsTo text earlier mid × GoesOnBehind mid e.asked e.stays rest

-- the text begins with the requests of these calls, and behind the newest the connection ends
abbrev pub ReadsToEnd : List ℕ → List DeskCall → Type 0
ReadsToEnd text [] = ⊥
ReadsToEnd text (e ∷ earlier) = (mid : List ℕ) × ReadsTo text earlier mid × EndsBehind mid e.asked e.stays

-- these calls answer, one by one, what the text begins with
abbrev pub AnswersInOrder : List ℕ → List DeskCall → Type 0
AnswersInOrder text calls = ((rest : List ℕ) × ReadsTo text calls rest) ⊎ ReadsToEnd text calls

-- How a desk answers.
use Rattle.std.specs.Prelude.{◌≡◌, ℕ, Bool, true, false, List, [], ◌∷◌}
use Rattle.as2_hub.specs.Calls.{DeskCall}
use Rattle.as2_hub.specs.declared.beginning.Beginning.{Beginning}

-- how a desk with these states answers
pub record Conduct (S : Type 0) : Type 1 where
  -- what it keeps, whatever becomes of the rest
  pub Kept : Type 0
  pub kept : S → Kept
  -- from the first state, those bytes answer what a connection begins with, which stays open or doesn't, and the second state is left
  pub answers : S → Beginning → List ℕ → Bool → S → Type 0
  -- between two rounds: no call was made that isn't settled
  pub at_rest : S → Type 0
  -- from the first state, the round ends and is kept, and the second state is left
  pub settles : S → S → Type 0
  -- the round that is under way may be lost
  pub may_lose : S → Bool

-- within a round: where it may be lost it still may be, and the second state keeps what the first does
pub record KeepsUntilSettled {S : Type 0} (D : Conduct S) (old new : S) : Type 0 where
  pub may_lose : D.may_lose new ≡ D.may_lose old
  pub keeps : D.may_lose old ≡ true → D.kept new ≡ D.kept old

-- from the first state these calls, one after the other, lead to the last
abbrev pub Chain : {S : Type 0} → Conduct S → S → List DeskCall → S → Type 0
Chain D old [] new = new ≡ old
Chain {S} D old (e ∷ round) new = (mid : S) × Chain D old round mid × D.answers mid e.asked e.reply e.stays new

-- Behind the calls, which led from the first state to the second, the round ended with this verdict. It is kept, or it is lost, as it might
-- be from its begin. Where it is lost, the last state keeps what the first does.
abbrev pub EndsRound : {S : Type 0} → Conduct S → Bool → S → S → S → Type 0
EndsRound D true old called new = D.settles called new
EndsRound D false old called new = (D.may_lose old ≡ true) × (D.kept new ≡ D.kept old)

-- a round of these calls, and then this verdict
pub record Round {S : Type 0} (D : Conduct S) (verdict : Bool) (old : S) (round : List DeskCall) (new : S) : Type 0 where
  pub called : S
  pub chain : Chain D old round called
  pub ended : EndsRound D verdict old called new
  pub rests : D.at_rest new

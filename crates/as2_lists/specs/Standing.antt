-- Lists in memory, as records.
use Rattle.std.specs.Prelude.{◌≡◌, true, false}
use Rattle.as2_exchange.specs.State.{AllDigests, State, state_digests}
use Rattle.as2_records.specs.Standing.{Medium, Standing, IsCounted}

-- they lie in memory, of which a stop of the computer leaves nothing that an open could find
abbrev pub memory : Medium
memory = record {
  Remains = ⊥;
  keeps = λ left s. ⊥;
  keeps_counted = λ left s kept. absurd kept;
  keeps_one = λ left s t kept also. absurd kept;
  is_lasting = false;
}

-- lists of a state stand for it and for no other, and it is counted
pub record StandsFor (s t : State) : Type 0 where
  pub same : t ≡ s
  pub knows : state_digests t ≡ AllDigests
  pub counted : IsCounted t

-- lists of a state, as records. Memory gives back what was put into it, so they are always clean, and they never fail: no fault
-- shuts them. Since a stop leaves nothing, what the calls say of it holds for want of anything left: memory is no lasting medium
abbrev pub lists_standing : State → Standing memory
lists_standing s = record {
  IsClean = Unit {0};
  is_open = true;
  faults = 0;
  IsShielded = Unit {0};
  Rests = StandsFor s;
  knows = λ t rests. rests.knows;
  may_leave = λ left. ⊥;
  counted = λ opened t rests. rests.counted;
}

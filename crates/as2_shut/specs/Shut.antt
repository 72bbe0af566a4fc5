-- Records that can't be reached, as they show themselves.
use Rattle.std.specs.Prelude.{false}
use Rattle.as2_records.specs.Standing.{Medium, Standing}

-- they lie on nothing, of which a stop of the computer leaves nothing
abbrev pub nothing : Medium
nothing = record {
  Remains = ⊥;
  keeps = λ left s. ⊥;
  keeps_counted = λ left s kept. absurd kept;
  keeps_one = λ left s t one other. absurd one;
  is_lasting = false;
}

-- they are shut, and stand for no state
abbrev pub unreachable : Standing nothing
unreachable = record {
  IsClean = ⊥;
  is_open = false;
  faults = 0;
  IsShielded = ⊥;
  Rests = λ s. ⊥;
  knows = λ s rests. absurd rests;
  may_leave = λ left. ⊥;
  counted = λ is_open s rests. absurd rests;
}

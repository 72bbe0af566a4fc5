use Rattle.std.proofs.Common.{◌≤◌, take, drop}
use Rattle.as2_names.proofs.Trims.{Stays}
use Rattle.as2_names.proofs.trim.without_back.Given as goal

abbrev pub invariant-loop-i : goal.invariant-loop-i
invariant-loop-i l = record {
  stays : Stays l.text (take l.end l.text) (take l.i l.text) (drop l.i l.text);
  seen : l.end ≤ l.i;
}

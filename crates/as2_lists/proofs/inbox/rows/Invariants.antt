use Rattle.std.proofs.Common.{◌≡◌, map, take}
use Rattle.as2_records.specs.Summaries.{in_summary}
use Rattle.as2_lists.proofs.inbox.rows.Given as goal

abbrev pub invariant-loop-entry : goal.invariant-loop-entry
invariant-loop-entry l = l.rows.items ≡ map in_summary (take l.entry-index l.entries)

use Rattle.std.proofs.Common.{◌≡◌, map, filter, take}
use Rattle.as2_exchange.specs.Progress.{is_in}
use Rattle.as2_records.specs.Summaries.{out_summary}
use Rattle.as2_lists.proofs.outbox.rows.Given as goal

abbrev pub invariant-loop-document : goal.invariant-loop-document
invariant-loop-document l = l.rows.items ≡ map out_summary (filter (is_in l.wanted) (take l.document-index l.documents))

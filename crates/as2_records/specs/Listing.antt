-- Documents of a state, without their contents.
use Rattle.std.specs.Prelude.{ℕ, List, map, filter, Option}
use Rattle.as2_mdn.specs.declared.detail.DetailClass.{DetailClass}
use Rattle.as2_exchange.specs.State.{State, is_settled}
use Rattle.as2_exchange.specs.Progress.{is_in}
use Rattle.as2_records.specs.Summaries.{out_summary}
use Rattle.as2_records.specs.declared.summaries.OutRow.{OutRow}

-- the documents of this state, or all, each as its row has it
abbrev pub listed_rows : Option DetailClass → State → List OutRow
listed_rows wanted s = map out_summary (filter (is_in wanted) s.outbox)

-- the numbers of those that a receipt has settled
abbrev pub settled_numbers : State → List ℕ
settled_numbers s = map (λ d. d.number) (filter is_settled s.outbox)

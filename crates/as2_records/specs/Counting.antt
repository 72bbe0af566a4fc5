-- The five counts of what is outstanding.
use Rattle.std.specs.Prelude.{Some, count_by}
use Rattle.as2_mdn.specs.declared.detail.DetailClass.TheVariants.{R, E}
use Rattle.as2_exchange.specs.OwedReceipts.{is_pending}
use Rattle.as2_exchange.specs.State.{State}
use Rattle.as2_exchange.specs.Progress.{is_awaited, is_in, is_new}
use Rattle.as2_records.specs.declared.counts.Counts.{Counts}

-- the counts of a state
abbrev pub counts_of : State → Counts
counts_of s = record {
  not_sent = count_by is_new s.outbox;
  in_retry = count_by (is_in (Some R)) s.outbox;
  awaited = count_by is_awaited s.outbox;
  in_error = count_by (is_in (Some E)) s.outbox;
  to_send = count_by (λ e. is_pending e.receipt_stage) s.inbox;
}

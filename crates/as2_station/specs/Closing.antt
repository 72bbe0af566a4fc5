-- How a try of a document ends, and what that makes of the document.
use Rattle.std.specs.Prelude.{◌≡◌, ℕ, ◌+◌, false, Some, None, if◌then◌else◌, ⊤}
use Rattle.as2_exchange.specs.Agreement.{Partner, Asked, NoReceipt, Sync, Async}
use Rattle.as2_exchange.specs.Documents.{settled_document, settled_as}
use Rattle.as2_exchange.specs.Invariants.{is_by_receipt}
use Rattle.as2_exchange.specs.Posts.{ReceivedReceipt}
use Rattle.as2_exchange.specs.Readings.{verdict}
use Rattle.as2_exchange.specs.Tries.{is_last}
use Rattle.as2_exchange.specs.declared.answer.Answer.{Answer}
use Rattle.as2_exchange.specs.declared.answer.Answer.TheVariants.{Delivered, Settled, TryFailed}
use Rattle.as2_exchange.specs.declared.attempt.Attempt.TheVariants.{Idle}
use Rattle.as2_exchange.specs.declared.outbox.OutEntry.{OutEntry}
use Rattle.as2_mdn.specs.declared.detail.Detail.TheVariants.{Awaiting, NoReceiptAsked, Retry, TriesUsed}
use Rattle.as2_records.specs.declared.progress.Progress.{Progress}
use Rattle.as2_station.specs.declared.closing.End.{End}
use Rattle.as2_station.specs.declared.closing.End.TheVariants as ending

-- how far it has come once its try has failed
abbrev pub progress_after_failure : Partner → ℕ → OutEntry → Progress
progress_after_failure p m d =
    if is_last d.attempt
    then record { tries = d.tries; attempt = Idle; due = None; detail = TriesUsed }
    else record { tries = d.tries; attempt = Idle; due = Some (m + p.retry_seconds); detail = Retry }

-- how a try ends by an answer of success that brought no receipt for the document
abbrev pub without_receipt : Asked → Partner → ℕ → OutEntry → End
without_receipt Async p m d = ending.Delivered (record { tries = d.tries; attempt = Idle; due = Some (m + p.overdue_seconds); detail = Awaiting })
without_receipt NoReceipt p m d = ending.Delivered (record { tries = d.tries; attempt = Idle; due = None; detail = NoReceiptAsked })
without_receipt Sync p m d = ending.Failed (progress_after_failure p m d)

-- where no receipt came, the document gets no detail that a receipt alone gives
abbrev pub LeavesUnsettled : End → Type 0
LeavesUnsettled (ending.ByReceipt detail evidence) = ⊤
LeavesUnsettled (ending.Delivered progress) = is_by_receipt progress.detail ≡ false
LeavesUnsettled (ending.Failed progress) = is_by_receipt progress.detail ≡ false

-- the document once it has come so far
abbrev pub further : Progress → OutEntry → OutEntry
further p d = record d { tries = p.tries; attempt = p.attempt; due = p.due; detail = p.detail }

-- what is answered, and what the end makes of the document
abbrev pub ended_document : End → OutEntry → Answer × OutEntry
ended_document (ending.ByReceipt detail evidence) d = (Settled detail, settled_as detail evidence d)
ended_document (ending.Delivered progress) d = (Delivered, further progress d)
ended_document (ending.Failed progress) d = (TryFailed, further progress d)

-- the receipt for it settles the document
abbrev pub settled_by : ℕ → OutEntry → ReceivedReceipt → Answer × OutEntry
settled_by m d r = (Settled (verdict r.known r.receipt d.content), settled_document m r d)

-- The codes that stand in the tables for what is one of a few: from 1, in the order of the lists of the profile.
use Rattle.std.specs.Prelude.{ℕ}
use Rattle.as2_mdn.specs.declared.outcome.Outcome.{Outcome}
use Rattle.as2_mdn.specs.declared.outcome.Outcome.TheVariants as outcome
use Rattle.as2_mdn.specs.declared.detail.Detail.{Detail}
use Rattle.as2_mdn.specs.declared.detail.Detail.TheVariants as detail
use Rattle.as2_exchange.specs.declared.inbox.ReceiptDelivery.{ReceiptDelivery}
use Rattle.as2_exchange.specs.declared.inbox.ReceiptDelivery.TheVariants as how
use Rattle.as2_exchange.specs.declared.inbox.ReceiptStage.{ReceiptStage}
use Rattle.as2_exchange.specs.declared.inbox.ReceiptStage.TheVariants as receipt_stage
use Rattle.as2_exchange.specs.declared.attempt.Attempt.{Attempt}
use Rattle.as2_exchange.specs.declared.attempt.Attempt.TheVariants as attempt

-- what became of a received document
abbrev pub outcome_code : Outcome → ℕ
outcome_code outcome.DecryptionFailed = 1
outcome_code outcome.DecompressionFailed = 2
outcome_code outcome.AuthenticationFailed = 3
outcome_code outcome.UnsupportedFormat = 4
outcome_code outcome.UnsupportedMicAlgorithms = 5
outcome_code outcome.Processed = 6

-- how a receipt was asked for
abbrev pub how_code : ReceiptDelivery → ℕ
how_code how.NoReceipt = 1
how_code how.Sync = 2
how_code (how.Async url) = 3

-- how the receipt for a posted document stands
abbrev pub receipt_stage_code : ReceiptStage → ℕ
receipt_stage_code receipt_stage.Unasked = 1
receipt_stage_code receipt_stage.Pending = 2
receipt_stage_code receipt_stage.Sent = 3

-- whether a try is open
abbrev pub attempt_code : Attempt → ℕ
attempt_code attempt.Idle = 1
attempt_code attempt.Running = 2
attempt_code attempt.Last = 3
attempt_code attempt.Used = 4

-- how a document that is sent stands
abbrev pub detail_code : Detail → ℕ
detail_code detail.New = 1
detail_code detail.Sending = 2
detail_code detail.Awaiting = 3
detail_code detail.Retry = 4
detail_code detail.Processed = 5
detail_code detail.NoReceiptAsked = 6
detail_code detail.Warning = 7
detail_code detail.NoMic = 8
detail_code detail.UnknownMic = 9
detail_code detail.NotProcessed = 10
detail_code detail.ErrorModifier = 11
detail_code detail.MicDiffers = 12
detail_code detail.TriesUsed = 13
detail_code detail.Overdue = 14

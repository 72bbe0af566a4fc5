-- The details of a document that was sent: the state of each, and its name.
use Rattle.std.specs.Prelude.{ℕ, List, codes}
use Rattle.as2_mdn.specs.declared.detail.DetailClass.{DetailClass}
use Rattle.as2_mdn.specs.declared.detail.DetailClass.TheVariants.{P, R, S, W, E}
use Rattle.as2_mdn.specs.declared.detail.Detail.{Detail}
use Rattle.as2_mdn.specs.declared.detail.Detail.TheVariants.{New, Sending, Awaiting, Retry, Processed, NoReceiptAsked, Warning, NoMic, UnknownMic, NotProcessed, ErrorModifier, MicDiffers, TriesUsed, Overdue}

-- pending P, retry R, success S, warning W or error E
abbrev pub class_of : Detail → DetailClass
class_of New = P
class_of Sending = R
class_of Awaiting = P
class_of Retry = R
class_of Processed = S
class_of NoReceiptAsked = W
class_of Warning = W
class_of NoMic = W
class_of UnknownMic = W
class_of NotProcessed = E
class_of ErrorModifier = E
class_of MicDiffers = E
class_of TriesUsed = E
class_of Overdue = E

-- the name that is written
abbrev pub name_of : Detail → List ℕ
name_of New = codes "new"
name_of Sending = codes "sending"
name_of Awaiting = codes "awaiting"
name_of Retry = codes "retry"
name_of Processed = codes "processed"
name_of NoReceiptAsked = codes "no-receipt-asked"
name_of Warning = codes "warning"
name_of NoMic = codes "no-mic"
name_of UnknownMic = codes "unknown-mic"
name_of NotProcessed = codes "not-processed"
name_of ErrorModifier = codes "error-modifier"
name_of MicDiffers = codes "mic-differs"
name_of TriesUsed = codes "tries-used"
name_of Overdue = codes "overdue"

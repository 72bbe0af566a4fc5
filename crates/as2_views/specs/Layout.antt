-- The pieces of lines: places, marks and spellings.
use Rattle.std.specs.Prelude.{ℕ, ◌-◌, Bool, true, false, ◌++◌, length, replicate, codes, decimal, Option, Some, None}
use Rattle.as2_names.specs.Ascii.{space}
use Rattle.as2_names.specs.Names.{name_spelling}
use Rattle.as2_mdn.specs.declared.detail.DetailClass.{DetailClass}
use Rattle.as2_mdn.specs.declared.detail.DetailClass.TheVariants.{P, R, S, W, E}
use Rattle.as2_exchange.specs.Agreement.{Text}
use Rattle.as2_exchange.specs.declared.inbox.ReceiptStage.{ReceiptStage}
use Rattle.as2_exchange.specs.declared.inbox.ReceiptStage.TheVariants.{Unasked, Pending, Sent}
use Rattle.as2_exchange.specs.declared.outbox.Evidence.{Evidence}

-- the text in so many places, at their right or left end
abbrev pub right_in : ℕ → Text → Text
right_in places text = replicate (places - length text) space ++ text

abbrev pub left_in : ℕ → Text → Text
left_in places text = text ++ replicate (places - length text) space

abbrev pub state_text : DetailClass → Text
state_text P = codes "P"
state_text R = codes "R"
state_text S = codes "S"
state_text W = codes "W"
state_text E = codes "E"

-- whether a receipt is kept
abbrev pub kept_mark : Bool → Text
kept_mark true = codes "R"
kept_mark false = codes "-"

-- processed, or in error
abbrev pub processed_mark : Bool → Text
processed_mark true = codes "S"
processed_mark false = codes "E"

-- no receipt asked, pending or sent
abbrev pub receipt_stage_mark : ReceiptStage → Text
receipt_stage_mark Unasked = codes "-"
receipt_stage_mark Pending = codes "P"
receipt_stage_mark Sent = codes "S"

-- both names as they are spelled
abbrev pub from_to : Text → Text → Text
from_to from to = name_spelling from ++ codes " -> " ++ name_spelling to

abbrev pub count_line : Text → ℕ → Text
count_line words n = words ++ codes " " ++ decimal n ++ codes "\n"

abbrev pub named_line : Text → Text → Text
named_line name value = name ++ codes ": " ++ value ++ codes "\n"

abbrev pub due_text : Option ℕ → Text
due_text None = codes "-"
due_text (Some due) = decimal due

abbrev pub evidence_text : Option Evidence → Text
evidence_text None = codes "-"
evidence_text (Some receipt) = codes "R at " ++ decimal receipt.moment ++ codes ", " ++ decimal (length receipt.body) ++ codes " bytes"

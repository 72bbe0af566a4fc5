-- What is written of a try: one line, once its outcome is taken.
use Rattle.std.specs.Prelude.{[], ◌∷◌, ◌++◌, codes, decimal, Option, Some, None}
use Rattle.as2_mdn.specs.Details.{class_of, name_of}
use Rattle.as2_exchange.specs.Agreement.{Text}
use Rattle.as2_exchange.specs.declared.event.Event.{Event}
use Rattle.as2_exchange.specs.declared.event.Event.TheVariants.{Outcome, OutcomeReceipt}
use Rattle.as2_exchange.specs.declared.answer.Answer.{Answer}
use Rattle.as2_exchange.specs.declared.answer.Answer.TheVariants.{Settled, Delivered, TryFailed, AlreadySettled}
use Rattle.as2_exchange.specs.Run.{Trace, AnEvent, AMigration, Answered, Failed}
use Rattle.as2_views.specs.Layout.{state_text}
use Rattle.as2_exchange.specs.declared.next.Next.{Next}
use Rattle.as2_exchange.specs.declared.next.Next.TheVariants.{Receipt, Document}
use Rattle.as2_station.specs.declared.said.Became.{Became}
use Rattle.as2_station.specs.declared.said.Became.TheVariants as became

-- what became of a try, as an outcome is answered; any other answer says of none
abbrev pub became_by : Answer → Option Became
became_by (Settled detail) = Some (became.Settled detail)
became_by Delivered = Some became.Delivered
became_by TryFailed = Some became.TryFailed
became_by AlreadySettled = Some became.AlreadySettled
became_by other = None

-- in words; a receipt that settles a document says how it stands now
abbrev pub words : Became → Text
words (became.Settled detail) = codes "settled " ++ state_text (class_of detail) ++ codes " " ++ name_of detail
words became.Delivered = codes "delivered"
words became.TryFailed = codes "try failed"
words became.AlreadySettled = codes "already settled"

-- what was tried
abbrev pub subject : Next → Text
subject (Receipt n) = codes "receipt " ++ decimal n
subject (Document n) = codes "document " ++ decimal n

abbrev pub turn_line : Next → Became → Text
turn_line what b = subject what ++ codes ": " ++ words b ++ codes "\n"

-- nothing, where nothing became of it
abbrev pub line_if : Next → Option Became → Text
line_if what None = []
line_if what (Some b) = turn_line what b

-- the line of an event with its answer: an outcome has one that wasn't refused
abbrev pub line_of : Event → Answer → Text
line_of (Outcome n got m) a = line_if (Document n) (became_by a)
line_of (OutcomeReceipt n got m) a = line_if (Receipt n) (became_by a)
line_of other a = []

-- the lines of a trace, in order; a fault has none, nor has a migration
abbrev pub trace_lines : Trace → Text
trace_lines [] = []
trace_lines (AnEvent e (Answered a) ∷ more) = line_of e a ++ trace_lines more
trace_lines (AnEvent e (Failed fault) ∷ more) = trace_lines more
trace_lines (AMigration n ∷ more) = trace_lines more

-- How a fault of the store ends a command.
use Rattle.std.specs.Prelude.{◌⊎◌, ◌++◌, List, ℕ}
use Rattle.as2_desk.specs.Connections.{listening_line}
use Rattle.as2_desk.specs.Endings.{Ends, EndsRefused}
use Rattle.as2_desk.specs.Observed.{Input}
use Rattle.as2_desk.specs.Refusals.{error_line}
use Rattle.as2_desk.specs.Statuses.{status_failed}
use Rattle.as2_desk.specs.Written.{WriterSeen}
use Rattle.as2_desk.specs.declared.refusal.CommandFault.TheVariants.{Store}
use Rattle.as2_desk.specs.declared.status.Ran.{Ran}
use Rattle.as2_host.specs.declared.stores.OpenFault.{OpenFault}

-- it is told behind the line that says where is listened
abbrev pub FailsBehind : WriterSeen → Ran → Type 0
FailsBehind errors ran = (fault : OpenFault) × (address : List ℕ) × Ends status_failed (listening_line address ++ error_line (Store fault)) errors ran

-- A store has a fault: that is told, by what serves (Serving) perhaps behind where it listens. Nothing is read, and nothing is written but the lines of
-- what was sent (Sending) or served before.
abbrev pub StopsAtFault : (Sending Serving : Type 0) → Input → WriterSeen → WriterSeen → Ran → Type 0
StopsAtFault Sending Serving input output errors ran =
    input.Untouched × (output.Untouched ⊎ (Sending ⊎ Serving)) × (((fault : OpenFault) × EndsRefused (Store fault) errors ran) ⊎ (Serving × FailsBehind errors ran))

-- How a command ends: the exit status, and what is said on standard error.
use Rattle.std.specs.Prelude.{◌≡◌, ℕ, List}
use Rattle.as2_desk.specs.Refusals.{error_line, refusal_status}
use Rattle.as2_desk.specs.Written.{WritesIf, WriterSeen}
use Rattle.as2_desk.specs.declared.refusal.CommandFault.{CommandFault}
use Rattle.as2_desk.specs.declared.refusal.CommandFault.TheVariants.{Store}
use Rattle.as2_desk.specs.declared.status.Ran.{Ran}
use Rattle.as2_host.specs.declared.stores.OpenFault.{OpenFault}

-- the exit status is that one, and the text is said on standard error, or a write there failed behind a part of it
pub record Ends (status : ℕ) (text : List ℕ) (errors : WriterSeen) (ran : Ran) : Type 0 where
  pub ended : ran.status ≡ status
  pub said : WritesIf ran.told errors text

-- that is refused: status and line say so
abbrev pub EndsRefused : CommandFault → WriterSeen → Ran → Type 0
EndsRefused refusal errors ran = Ends (refusal_status refusal) (error_line refusal) errors ran

-- a store couldn't be opened or migrated, for a fault that it has (Has), and that is told
pub record Fails (Has : OpenFault → Type 0) (errors : WriterSeen) (ran : Ran) : Type 0 where
  pub fault : OpenFault
  pub cause : Has fault
  pub told : EndsRefused (Store fault) errors ran

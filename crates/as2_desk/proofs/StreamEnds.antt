-- What is said of the end of a stream.
use Rattle.std.proofs.Common.{◌≡◌, refl, arith}
use Rattle.as2_desk.specs.Refusals.{end_line, error_line}
use Rattle.as2_desk.specs.Endings.{Ends}
use Rattle.as2_desk.specs.Statuses.{status_done, status_failed, status_refused, exit_status}
use Rattle.as2_http.specs.declared.stream.Served.{Served}
use Rattle.as2_http.specs.declared.stream.Served.TheVariants.{Closed, Truncated, BadFraming, ReadFault, WriteFault, Memory, TooLong}
use Rattle.as2_desk.specs.declared.refusal.CommandFault.TheVariants.{Stream}
use Rattle.as2_desk.specs.Written.{WriterSeen}
use Rattle.as2_desk.specs.declared.status.Ran.{Ran}

-- an end that isn't in good order is told as a refusal
pub told_end : (end : Served) (errors : WriterSeen) (ran : Ran) → (end ≡ Closed → ⊥)
    → Ends status_refused (error_line (Stream end)) errors ran → Ends (exit_status end) (end_line end) errors ran
told_end Closed errors ran other e = absurd (other refl)
told_end Truncated errors ran other e = e
told_end BadFraming errors ran other e = e
told_end ReadFault errors ran other e = e
told_end WriteFault errors ran other e = e
told_end Memory errors ran other e = e
told_end TooLong errors ran other e = e

done_is_not_failed : status_done ≡ status_failed → ⊥
done_is_not_failed is = omega arith

refused_is_not_failed : status_refused ≡ status_failed → ⊥
refused_is_not_failed is = omega arith

-- no end of a stream is a fault of the store
pub no_end_failed : (end : Served) → exit_status end ≡ status_failed → ⊥
no_end_failed Closed is = done_is_not_failed is
no_end_failed Truncated is = refused_is_not_failed is
no_end_failed BadFraming is = refused_is_not_failed is
no_end_failed ReadFault is = refused_is_not_failed is
no_end_failed WriteFault is = refused_is_not_failed is
no_end_failed Memory is = refused_is_not_failed is
no_end_failed TooLong is = refused_is_not_failed is

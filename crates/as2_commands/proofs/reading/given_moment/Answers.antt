use Rattle.std.proofs.Common.{Result, Ok, Err, IfErr}
use Rattle.as2_commands.proofs.Numbers.{no_moment}
use Rattle.as2_commands.proofs.reading.given_moment.Goals as goal

held : {A E Q : Type 0} (r : Result A E) → Q → IfErr r (λ _. Q)
held (Ok x) q = tt
held (Err e) q = q

pub returns-in_err-seconds-clause-none : goal.returns-in_err-seconds-clause-none
returns-in_err-seconds-clause-none c =
    held c.from_residual.result (no_moment _ c.in_err-seconds.ensures.none c.in_err-seconds.ensures.some)

use Rattle.std.proofs.Common.{Ok, Err, subst}
use Rattle.std.specs.Str.Parse.{ParsesUnsigned, ExplainsUnsignedError, HasUnsignedDigitsIfOk}
use Rattle.clap.proofs.WalkLemmas.{one_text-rows}
use Rattle.clap.specs.Words.{found_of, one_text}
use Rattle.as2_commands.specs.Options.{TellsOption}
use Rattle.as2_commands.proofs.Numbers.{SaysNone, number_told}
use Rattle.as2_commands.proofs.reading.number.Goals as goal

pub returns-in-Ok-clause-said : goal.returns-in-Ok-clause-said
returns-in-Ok-clause-said c =
    let f = found_of c.args.found.now in let id = c.args.option.now in
    subst (λ o. TellsOption o c.in-Ok.number) (one_text-rows f id)
    (number_told _ (λ t r. ParsesUnsigned 64 10 t r × ExplainsUnsignedError 10 t r × HasUnsignedDigitsIfOk t r) (one_text f id) (Ok c.in-Ok.number)
    (λ u x g. g.0) c.in-Ok.ensures.none c.in-Ok.ensures.value)

pub returns-in-Err-clause-none : goal.returns-in-Err-clause-none
returns-in-Err-clause-none c =
    let f = found_of c.args.found.now in let id = c.args.option.now in
    (subst SaysNone (one_text-rows f id)
    (number_told _ (λ t r. ParsesUnsigned 64 10 t r × ExplainsUnsignedError 10 t r × HasUnsignedDigitsIfOk t r) (one_text f id)
    (Err c.in-Err.field-0) (λ u x g. g.0) c.in-Err.ensures.none c.in-Err.ensures.value)).none

pub returns-in-Err-clause-no_seconds : goal.returns-in-Err-clause-no_seconds
returns-in-Err-clause-no_seconds c =
    let f = found_of c.args.found.now in let id = c.args.option.now in
    (subst SaysNone (one_text-rows f id)
    (number_told _ (λ t r. ParsesUnsigned 64 10 t r × ExplainsUnsignedError 10 t r × HasUnsignedDigitsIfOk t r) (one_text f id)
    (Err c.in-Err.field-0) (λ u x g. g.0) c.in-Err.ensures.none c.in-Err.ensures.value)).no_seconds

pub returns-in-Err-clause-some : goal.returns-in-Err-clause-some
returns-in-Err-clause-some c =
    let f = found_of c.args.found.now in let id = c.args.option.now in
    (subst SaysNone (one_text-rows f id)
    (number_told _ (λ t r. ParsesUnsigned 64 10 t r × ExplainsUnsignedError 10 t r × HasUnsignedDigitsIfOk t r) (one_text f id)
    (Err c.in-Err.field-0) (λ u x g. g.0) c.in-Err.ensures.none c.in-Err.ensures.value)).some

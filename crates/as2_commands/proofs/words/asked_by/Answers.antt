use Rattle.std.proofs.Common.{List, Option, sym, subst}
use Rattle.clap.specs.Walk.{Row, Text, texts}
use Rattle.clap.specs.Words.{subcommand_rows_of}
use Rattle.as2_commands.specs.CommandLine.{option_values}
use Rattle.as2_commands.specs.Options.{Give}
use Rattle.as2_commands.proofs.words.asked_by.Goals as goal

-- what the words give is what was found
pub returns-clause-none : goal.returns-clause-none
returns-clause-none c = λ known path store task gives.
    let found = c.in_ok-found.ensures.found in
    let named = subst (λ (o : Option (Text × List Row)). Give (option_values (texts c.args.words.now)) o c.args.clock path store task)
    (sym found.2) gives.given in
    c.in-Err.ensures.none path store task
    (subst (λ (v : List Row). Give v (subcommand_rows_of c.in_ok-found.found) c.args.clock path store task) (sym found.1) named)

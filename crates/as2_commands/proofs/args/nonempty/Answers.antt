use Rattle.std.proofs.Common.{◌∙◌, ◌≡◌, ap, Option, Some}
use Rattle.clap.specs.Words.{rule_of}
use Rattle.clap.specs.declared.builder.value_parser.ValueParser.{ValueParser}
use Rattle.clap.specs.declared.builder.value_parser.ValueParser.TheVariants.{NonEmptyString}
use Rattle.as2_commands.proofs.args.nonempty.Goals as goal

pub returns-clause-rule : goal.returns-clause-rule
returns-clause-rule c =
    let given = c.value_parser.ensures.given in
    let parser : c.value_parser.result.value_parser ≡ Some NonEmptyString = given.1 ∙ ap Some given.2 in
    ap rule_of c.value_parser.ensures.others
    ∙ ap (λ (p : Option ValueParser). record (rule_of c.args.arg) { parser = p }) parser

use Rattle.std.proofs.Common.{◌∙◌, ◌≡◌, ap, Option, Some, arith}
use Rattle.std.proofs.lemmas.Int.{to_z_pos}
use Rattle.std.specs.Int.{w64}
use Rattle.clap.specs.Words.{rule_of}
use Rattle.clap.specs.declared.builder.value_parser.ValueParser.{ValueParser}
use Rattle.clap.specs.declared.builder.value_parser.ValueParser.TheVariants.{Unsigned}
use Rattle.as2_commands.proofs.Ranges.{narrowed}
use Rattle.as2_commands.proofs.args.numbered.Goals as goal

pub returns-clause-rule : goal.returns-clause-rule
returns-clause-rule c =
    let made : c.range.result ≡ Unsigned c.args.low c.args.high =
    narrowed c.range.result c.new.result.start c.new.result.end c.args.low c.args.high
    (c.new.ensures.start ∙ to_z_pos w64 c.args.low (omega (arith, c.requires.order, c.requires.fits)))
    (c.new.ensures.end ∙ to_z_pos w64 c.args.high c.requires.fits) c.requires.order c.requires.fits
    (rw c.value_parser.ensures at c.range.ensures) in
    let given = c.value_parser-2.ensures.given in
    let parser : c.value_parser-2.result.value_parser ≡ Some (Unsigned c.args.low c.args.high) = given.1 ∙ ap Some (given.2 ∙ made) in
    ap rule_of c.value_parser-2.ensures.others
    ∙ ap (λ (p : Option ValueParser). record (rule_of c.args.arg) { parser = p }) parser

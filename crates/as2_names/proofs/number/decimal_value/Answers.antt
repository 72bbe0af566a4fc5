use Rattle.std.proofs.Common.{rules}
use Rattle.as2_names.proofs.Numbers.{number_text, none_parsed}
use Rattle.as2_names.proofs.Printable.{read_ok}
use Rattle.as2_names.proofs.number.decimal_value.Goals as goal

pub unwrap-requires : goal.unwrap-requires
unwrap-requires c = read_ok c.args.text.now c.from_utf8.result _ _ (number_text c.args.text.now (search rules)) c.from_utf8.ensures.cases

pub returns-in-Err : goal.returns-in-Err
returns-in-Err c = none_parsed c.args.text.now c.unwrap.result.now c.parse.result c.in-Err.field-0
    (search rules) c.parse.ensures.value.0 c.in-Err.is (search rules)

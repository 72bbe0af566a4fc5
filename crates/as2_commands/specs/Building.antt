-- A command line that is put together: a command gets one option more, the program one command more.
use Rattle.std.specs.Prelude.{◌≡◌, ◌++◌, ◌∷◌, [], false}
use Rattle.clap.specs.Words.{Rule, Shape, shape_of}
use Rattle.clap.specs.declared.builder.command.Command.{Command}
use Rattle.clap.specs.declared.builder.command.Command.TheViews.{out-Command as fields_of}

-- a command's shape, and that none of its options is one of its commands' too
pub record Looks (s : Shape) (c : Command) : Type 0 where
  pub shape : shape_of c ≡ s
  pub local : (fields_of c).has_globals ≡ false

abbrev pub and_rule : Shape → Rule → Shape
and_rule s r = record s { rules = s.rules ++ r ∷ [] }

-- A command gets one option more.
use Rattle.std.proofs.Common.{◌≡◌, ◌∙◌, ◌||◌, Bool, false, ap, ap₂}
use Rattle.clap.specs.Words.{AddsArg, Rule, Shape, rule_of}
use Rattle.clap.specs.Simple.{App}
use Rattle.clap.specs.declared.builder.arg.Arg.{Arg}
use Rattle.clap.specs.declared.builder.command.Command.{Command}
use Rattle.as2_commands.specs.Building.{Looks, and_rule}

pub one_more : {old new : Command} {a : Arg} {s : Shape} {r : Rule} → AddsArg old a new → Looks s old → rule_of a ≡ r → a.global ≡ false
    → Looks (and_rule s r) new
one_more adds looks is free = record {
  shape = ap (λ (a : App). a.top) (adds.shape free) ∙ ap₂ and_rule looks.shape is;
  local = adds.globals ∙ ap₂ (λ (g h : Bool). g || h) looks.local free;
}

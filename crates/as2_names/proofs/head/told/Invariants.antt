use Rattle.std.proofs.Common.{◌≡◌, ◌++◌, drop}
use Rattle.std.specs.Prelude.{option_map, option_to_list, IfSome}
use Rattle.std.specs.Str.{str_to_ascii_lowercase}
use Rattle.as2_names.specs.Blanks.{without_blanks}
use Rattle.as2_names.specs.Heads.{values}
use Rattle.as2_names.proofs.head.told.Given as goal

abbrev pub invariant-loop-field : goal.invariant-loop-field
invariant-loop-field l = record {
  met : values (str_to_ascii_lowercase l.name) l.fields ≡ option_to_list (option_map (λ v. v.now) l.found)
      ++ values (str_to_ascii_lowercase l.name) (drop l.field-index l.fields);
  bare : IfSome l.found (λ v. without_blanks v.now ≡ v.now);
}

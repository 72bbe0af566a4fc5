use Rattle.std.proofs.Common.{◌≡◌, drop}
use Rattle.std.specs.List.{list_any}
use Rattle.std.specs.Str.{str_to_ascii_lowercase}
use Rattle.as2_names.specs.Heads.{values}
use Rattle.as2_names.specs.Options.{lists}
use Rattle.as2_names.proofs.head.any_lists.Given as goal

abbrev pub invariant-loop-field : goal.invariant-loop-field
invariant-loop-field l =
    list_any (lists l.option) (values (str_to_ascii_lowercase l.name) l.fields) ≡ list_any (lists l.option)
    (values (str_to_ascii_lowercase l.name) (drop l.field-index l.fields))

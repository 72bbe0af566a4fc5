use Rattle.std.proofs.Common.{◌≡◌, ◌++◌}
use Rattle.std.specs.Prelude.{option_map, option_to_list}
use Rattle.as2_parts.specs.Fields.{fields, fields_named, field_text}
use Rattle.as2_parts.proofs.fields.find_once.Given as goal

abbrev pub invariant-loop-field : goal.invariant-loop-field
invariant-loop-field l = record {
  can : (goal.iterator-loop-field).can_next l.field-iterator;
  finite : (goal.iterator-loop-field).is_finite l.field-iterator;
  met : fields_named l.name (fields l.text) ≡ option_to_list (option_map field_text l.found) ++ fields_named l.name l.field-iterator;
}

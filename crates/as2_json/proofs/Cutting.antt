-- A line is cut at its end, and so lines are read one after the other.
use Rattle.std.proofs.Common.{List, ℕ, [], ◌∷◌, ◌++◌, append_assoc, refl}
use Rattle.std.specs.List.{AllByRecursion}
use Rattle.std.proofs.lemmas.List.Elements.{All-from_recursion}
use Rattle.as2_names.specs.Ascii.{line_feed}
use Rattle.as2_names.specs.Cuts.{IsCutAt}
use Rattle.serde_json.specs.Data.{Data}
use Rattle.serde_json.specs.Written.{compact_text}
use Rattle.as2_json.specs.Lines.{BeginsObject, ReadsAs, ReadsBack, object_line, object_lines}
use Rattle.as2_json.proofs.Clean.{IsOther, value_clean}

pub cut : (d : Data) (rest : List ℕ) → IsCutAt line_feed (object_line d ++ rest) (compact_text d) rest
unfolding object_line
cut d rest = record {
  whole = append_assoc (compact_text d) (line_feed ∷ []) rest;
  first = All-from_recursion IsOther (compact_text d) (value_clean d);
}

begins : (d : Data) (rest : List ℕ) → ReadsBack d → BeginsObject d (object_line d ++ rest) rest
begins d rest h = record { object = compact_text d; cut = cut d rest; found = h }

pub all_read : (ds : List Data) → AllByRecursion ReadsBack ds → ReadsAs ds (object_lines ds)
all_read [] h = refl
all_read (d ∷ ds) h = (object_lines ds, begins d (object_lines ds) h.0, all_read ds h.1)

-- Lines of JSON (RFC 8259): a value without a blank, and a line feed behind it.
use Rattle.std.specs.Prelude.{◌≡◌, ◌++◌, List, [], ◌∷◌, codes, Some, IsUtf8}
use Rattle.std.specs.List.{flat_map}
use Rattle.serde_json.specs.Data.{Data}
use Rattle.serde_json.specs.Read.{read}
use Rattle.serde_json.specs.Written.{compact_text}
use Rattle.as2_names.specs.Ascii.{line_feed}
use Rattle.as2_names.specs.Cuts.{IsCutAt}
use Rattle.as2_exchange.specs.Agreement.{Text}

-- the text of the value as the kit writes it, and a line feed
unfoldable pub object_line : Data → Text
object_line d = compact_text d ++ codes "\n"

-- a line for each value
abbrev pub object_lines : List Data → Text
object_lines ds = flat_map object_line ds

-- ---- reading

-- the text is one for the kit's reader, which finds the value in it
pub record IsTextOf (d : Data) (text : Text) : Type 0 where
  pub utf8 : IsUtf8 text
  pub same : read text ≡ Some d

-- the value's text is one of it
abbrev pub ReadsBack : Data → Type 0
ReadsBack d = IsTextOf d (compact_text d)

-- up to its first line feed the text is one of the value, and that is behind it
pub record BeginsObject (d : Data) (text rest : Text) : Type 0 where
  pub object : Text
  pub cut : IsCutAt line_feed text object rest
  pub found : IsTextOf d object

-- who cuts the text at its line feeds, and reads each part, finds these values and nothing else
abbrev pub ReadsAs : List Data → Text → Type 0
ReadsAs [] text = text ≡ []
ReadsAs (d ∷ ds) text = (rest : Text) × BeginsObject d text rest × ReadsAs ds rest

-- The text of a value without fractions is read back as the value.
use Rattle.std.proofs.Common.{◌≡◌, ◌≤◌, List, [], ◌++◌, Option, Some, option_and_then, sym, ap, ◌∙◌, append-nil}
use Rattle.json.specs.Token.{Token}
use Rattle.json.specs.Json as json
use Rattle.json.specs.Lex.{tokens}
use Rattle.json.specs.Tree.{json_tokens, depth, HasNumbers}
use Rattle.json.proofs.Printed.Tokens.{tokens-print}
use Rattle.json.proofs.Printed.Trees.{value-json_tokens, ArePrintable-json_tokens}
use Rattle.serde_json.specs.Data.{Data}
use Rattle.serde_json.specs.Read.{of_json, max_depth}
use Rattle.serde_json.specs.Written.{outline, compact_text}
use Rattle.serde_json.proofs.Texts.{print-outline}
use Rattle.as2_json.specs.Lines.{ReadsBack}
use Rattle.as2_json.proofs.Encoded.{HasTexts, IsUtf8-compact_text}

-- the value's JSON is one of the value, its numbers are numerals, its texts are UTF-8, and it nests as deep as a reader goes
pub record IsWritten (d : Data) : Type 0 where
  pub known : of_json (outline d) ≡ Some d
  pub numerals : HasNumbers (outline d)
  pub texts : HasTexts d
  pub shallow : depth (outline d) ≤ max_depth

abbrev only : Option (json.Json × List Token) → Option Data
only found = option_and_then of_json (option_and_then (λ p. json.if_last p.0 p.1) found)

pub back : (d : Data) → IsWritten d → ReadsBack d
back d w =
    let found : tokens (compact_text d) ≡ json_tokens (outline d) ++ [] =
    ap tokens (sym (print-outline d)) ∙ tokens-print _ (ArePrintable-json_tokens (outline d) w.numerals) ∙ sym (append-nil _) in
    record {
      utf8 = IsUtf8-compact_text d w.texts;
      same = ap (λ ts. only (json.value max_depth ts)) found ∙ ap only (value-json_tokens (outline d) max_depth [] w.shallow) ∙ w.known;
    }

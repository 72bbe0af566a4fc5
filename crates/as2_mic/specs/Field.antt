-- The value of a `Received-content-MIC` field (RFC 4130, section 7.4.3), and its comparison with a content.
use Rattle.std.specs.Prelude.{◌≡◌, ◌≢◌, ℕ, List, [], Option, Some, None, if◌then◌else◌}
use Rattle.std.specs.Str.{bytes_eq}
use Rattle.as2_mic.specs.declared.alg.Alg.{Alg}
use Rattle.as2_mic.specs.declared.field.Compared.{Compared}
use Rattle.as2_mic.specs.declared.field.Compared.TheVariants.{UnknownAlg, Same, Differs}
use Rattle.as2_mic.specs.Algs.{Digests, alg_named}
use Rattle.as2_names.specs.Ascii.{comma}
use Rattle.as2_names.specs.Cuts.{IsCutAt}
use Rattle.as2_mic.specs.Mic.{mic}
use Rattle.as2_names.specs.Trim.{trimmed_text}

-- a field: the text of the MIC and the name of the digest
abbrev pub given_mic : List ℕ × List ℕ → List ℕ
given_mic field = field.0

abbrev pub given_digest : List ℕ × List ℕ → List ℕ
given_digest field = field.1

-- The value has the field: what stands before its first comma and what stands behind it, without blanks and line
-- ends at their ends, and neither empty.
pub record IsMicField (value : List ℕ) (field : List ℕ × List ℕ) : Type 0 where
  pub before : List ℕ
  pub behind : List ℕ
  pub cut : IsCutAt comma value before behind
  pub mic : given_mic field ≡ trimmed_text before
  pub digest : given_digest field ≡ trimmed_text behind
  pub has_mic : given_mic field ≢ []
  pub has_digest : given_digest field ≢ []

-- what a text is to the MIC that it should be: the same byte for byte, or another
abbrev pub compared_to : List ℕ → List ℕ → Compared
compared_to text wanted = if bytes_eq text wanted then Same else Differs

-- what a text is to the MIC of a content under a digest, where that is known
abbrev pub compared_under : Option Alg → List ℕ → List ℕ → Compared
compared_under (Some alg) text content = compared_to text (mic alg content)
compared_under None text content = UnknownAlg

-- what comes of comparing a content with a field, where these digests are known
abbrev pub comparison : Digests → List ℕ × List ℕ → List ℕ → Compared
comparison known field content = compared_under (alg_named known (given_digest field)) (given_mic field) content

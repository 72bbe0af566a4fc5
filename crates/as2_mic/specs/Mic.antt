-- The MIC of a content (RFC 4130, section 7.3.1): the base64 text (RFC 4648, section 4) of the digest of the content
-- alone.
use Rattle.std.specs.Prelude.{ℕ, ◌<◌, ◌≤◌, nat_lt, nat_le, ◌&&◌, List, length, Option, Some, None, if◌then◌else◌}
use Rattle.sha1.specs.Sha1.{sha1}
use Rattle.sha2.specs.Sha256.{sha256}
use Rattle.md5.specs.Md5.{md5}
use Rattle.base64.specs.Engines.{standard}
use Rattle.base64.specs.GeneralPurpose.{encode_of}
use Rattle.as2_mic.specs.declared.alg.Alg.{Alg}
use Rattle.as2_mic.specs.declared.alg.Alg.TheVariants.{Md5, Sha1, Sha256}

abbrev pub digest : Alg → List ℕ → List ℕ
digest Md5 content = md5 content
digest Sha1 content = sha1 content
digest Sha256 content = sha256 content

-- the base64 text, with padding
abbrev pub base64_text : List ℕ → List ℕ
base64_text bytes = encode_of standard bytes

abbrev pub mic : Alg → List ℕ → List ℕ
mic alg content = base64_text (digest alg content)

-- what is kept as the text of a MIC: 1 to 44 bytes
pub record IsMicText (text : List ℕ) : Type 0 where
  pub some : 0 < length text
  pub short : length text ≤ 44

-- the text that the bytes are, where there are 1 to 44
abbrev pub mic_text : List ℕ → Option (List ℕ)
mic_text bytes = if nat_lt 0 (length bytes) && nat_le (length bytes) 44 then Some bytes else None

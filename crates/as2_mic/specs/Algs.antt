-- The digests of MICs and their names (RFC 4130, section 7.3.1; the names of RFC 3851 and RFC 5751 are read alike).
use Rattle.std.specs.Prelude.{ℕ, ◌||◌, ◌&&◌, Bool, true, false, List, [], ◌∷◌, Option, Some, None, if◌then◌else◌, codes}
use Rattle.std.specs.List.{slice_split}
use Rattle.as2_mic.specs.declared.alg.Alg.{Alg}
use Rattle.as2_mic.specs.declared.alg.Alg.TheVariants.{Md5, Sha1, Sha256}
use Rattle.as2_names.specs.Options.{is_comma, is_word}
use Rattle.as2_names.specs.Blanks.{without_blanks}

-- which digests are known: MD5 and SHA-1 alone, or SHA-256 as well
pub data Digests : Type 0 where
  EarlyDigests : Digests
  AllDigests : Digests

abbrev pub knows_sha256 : Digests → Bool
knows_sha256 EarlyDigests = false
knows_sha256 AllDigests = true

-- the digest that a name names, where it is known
abbrev pub alg_named : Digests → List ℕ → Option Alg
alg_named known name =
    if is_word name (codes "sha1") || is_word name (codes "sha-1") then Some Sha1
    else if is_word name (codes "md5") then Some Md5
    else if knows_sha256 known && (is_word name (codes "sha-256") || is_word name (codes "sha256")) then Some Sha256
    else None

-- earlier stores didn't know it
abbrev pub is_late : Alg → Bool
is_late Sha256 = true
is_late other = false

-- the name that is written
abbrev pub alg_name : Alg → List ℕ
alg_name Md5 = codes "md5"
alg_name Sha1 = codes "sha1"
alg_name Sha256 = codes "sha-256"

-- the digest of this name, or else of the names behind it
abbrev pub or_else : Option Alg → Option Alg → Option Alg
or_else (Some alg) later = Some alg
or_else None later = later

-- the first digest that is known
abbrev pub first_known : Digests → List (List ℕ) → Option Alg
first_known known [] = None
first_known known (name ∷ names) = or_else (alg_named known (without_blanks name)) (first_known known names)

-- the first known name of a list, which is cut at its commas
abbrev pub first_known_of : Digests → List ℕ → Option Alg
first_known_of known list = first_known known (slice_split is_comma list)

-- The domain that the station writes into its identifiers and reports.
use Rattle.std.specs.Prelude.{ℕ, ◌<◌, ◌≤◌, Bool, ◌&&◌, ◌||◌, ◌==◌, nat_lt, nat_le, List, length, if◌then◌else◌, IsTrue, Option, Some, None}
use Rattle.std.specs.Char.{is_ascii_alphanumeric}
use Rattle.std.specs.List.{list_all}
use Rattle.as2_names.specs.Ascii.{hyphen, dot}

-- a letter, a digit, `-` or `.`
abbrev pub is_domain_byte : ℕ → Bool
is_domain_byte b = is_ascii_alphanumeric b || b == hyphen || b == dot

-- a domain
pub record IsDomain (text : List ℕ) : Type 0 where
  pub some : 0 < length text
  pub short : length text ≤ 253
  pub made : IsTrue (list_all is_domain_byte text)

-- the same as a test
abbrev pub is_domain : List ℕ → Bool
is_domain text = nat_lt 0 (length text) && nat_le (length text) 253 && list_all is_domain_byte text

-- the domain that the bytes are, if they are one
abbrev pub domain_of : List ℕ → Option (List ℕ)
domain_of text = if is_domain text then Some text else None

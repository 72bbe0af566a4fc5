-- Addresses of the `http` scheme (RFC 3986, section 3; RFC 9110, section 4.2.1), without user, query of their own or
-- fragment: `http://`, a host, perhaps a port, and perhaps a target.
use Rattle.std.specs.Prelude.{◌≡◌, ℕ, ◌≤◌, ◌⊎◌, Bool, true, false, ◌&&◌, ◌||◌, not, ◌==◌, nat_lt, nat_le, List, [], ◌∷◌, ◌++◌, length, codes, drop, take, if◌then◌else◌, IsTrue, Option, Some, None}
use Rattle.std.specs.List.{list_all}
use Rattle.std.specs.Str.{str_eq_ignore_ascii_case}
use Rattle.std.specs.Str.Parse.{digits_value}
use Rattle.as2_names.specs.Ascii.{space, slash, colon, number_sign, digit_zero, tilde}
use Rattle.as2_names.specs.Cuts.{cut_at}
use Rattle.as2_names.specs.Domains.{is_domain}
use Rattle.as2_names.specs.Numbers.{is_number}

-- an address: its authority as spelled, and its target
abbrev pub authority_of : List ℕ × List ℕ → List ℕ
authority_of url = url.0

abbrev pub address_target : List ℕ × List ℕ → List ℕ
address_target url = url.1

-- 1 to 253 letters, digits, `-` and `.`
abbrev pub is_host : List ℕ → Bool
is_host text = is_domain text

abbrev pub begins_with_zero : List ℕ → Bool
begins_with_zero [] = false
begins_with_zero (b ∷ rest) = b == digit_zero

-- 1 to 65535 in digits, the first of them not zero
abbrev pub is_port : List ℕ → Bool
is_port text = is_number text && not (begins_with_zero text) && nat_le (digits_value 10 text) 65535

-- a host, or a host, `:` and a port
pub record HasPort (authority : List ℕ) : Type 0 where
  pub host : List ℕ
  pub port : List ℕ
  pub whole : authority ≡ host ++ colon ∷ port
  pub is_host : IsTrue (is_host host)
  pub is_port : IsTrue (is_port port)

abbrev pub IsAuthority : List ℕ → Type 0
IsAuthority authority = IsTrue (is_host authority) ⊎ HasPort authority

-- printable, no space, and not `#`
abbrev pub is_target_byte : ℕ → Bool
is_target_byte b = nat_lt space b && nat_le b tilde && not (b == number_sign)

-- `/` and further bytes
abbrev pub is_target : List ℕ → Bool
is_target [] = false
is_target (b ∷ rest) = b == slash && list_all is_target_byte rest

-- what stands behind the authority, and the target that it says: nothing says `/`
abbrev pub SaysTarget : List ℕ → List ℕ → Type 0
SaysTarget behind target = ((behind ≡ []) × (target ≡ slash ∷ [])) ⊎ ((behind ≡ target) × IsTrue (is_target target))

-- The text is the address.
pub record IsUrl (text : List ℕ) (url : List ℕ × List ℕ) : Type 0 where
  pub scheme : List ℕ
  pub behind : List ℕ
  pub whole : text ≡ scheme ++ authority_of url ++ behind
  pub http : IsTrue (str_eq_ignore_ascii_case scheme (codes "http://"))
  pub authority : IsAuthority (authority_of url)
  pub target : SaysTarget behind (address_target url)
  pub short : length text ≤ 1024

-- ---- the address that a text is, if it is one

-- what stands before the first slash, and what begins with it
abbrev pub before_slash : List ℕ → List ℕ
before_slash [] = []
before_slash (b ∷ rest) = if b == slash then [] else b ∷ before_slash rest

abbrev pub from_slash : List ℕ → List ℕ
from_slash [] = []
from_slash (b ∷ rest) = if b == slash then b ∷ rest else from_slash rest

-- the two of an authority with a port are a host and a port
abbrev pub are_host_and_port : Option (List ℕ × List ℕ) → Bool
are_host_and_port None = false
are_host_and_port (Some cut) = is_host cut.0 && is_port cut.1

abbrev pub is_authority : List ℕ → Bool
is_authority text = is_host text || are_host_and_port (cut_at colon text)

-- nothing, or a target
abbrev pub may_follow : List ℕ → Bool
may_follow [] = true
may_follow (b ∷ rest) = is_target (b ∷ rest)

-- the target that it says
abbrev pub target_in : List ℕ → List ℕ
target_in [] = slash ∷ []
target_in (b ∷ rest) = b ∷ rest

-- the address behind `http://`
abbrev pub address_in : List ℕ → Option (List ℕ × List ℕ)
address_in text =
    if is_authority (before_slash text) && may_follow (from_slash text)
    then Some (before_slash text, target_in (from_slash text))
    else None

abbrev pub is_http : List ℕ → Bool
is_http text = str_eq_ignore_ascii_case (take 7 text) (codes "http://")

abbrev pub url_of : List ℕ → Option (List ℕ × List ℕ)
url_of text = if nat_le (length text) 1024 && is_http text then address_in (drop 7 text) else None

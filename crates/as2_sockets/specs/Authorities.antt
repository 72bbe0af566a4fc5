-- Where an authority says that a link is opened to (RFC 9110, section 4.2.1).
use Rattle.std.specs.Prelude.{◌≡◌, ℕ, ◌==◌, ◌<◌, ◌^◌, Bool, List, length}
use Rattle.std.specs.List.{before_first, after_first, position_or_len}
use Rattle.std.specs.Str.Parse.{IsNumeral, digits_value, without_leading_plus}

-- `:`
abbrev pub is_port_mark : ℕ → Bool
is_port_mark b = b == 58

-- digits of a number below 2^16, which may have a plus before them
abbrev pub IsPort : List ℕ → Type 0
IsPort digits = IsNumeral 10 (without_leading_plus digits) × (digits_value 10 (without_leading_plus digits) < 2 ^ 16)

-- a colon stands in it
abbrev pub HasColon : List ℕ → Type 0
HasColon authority = position_or_len is_port_mark authority < length authority

-- the host, and behind the first colon the port in digits
pub record SpellsPort (authority host : List ℕ) (port : ℕ) : Type 0 where
  pub has_colon : HasColon authority
  pub host_before : host ≡ before_first is_port_mark authority
  pub is_port : IsPort (after_first is_port_mark authority)
  pub value : port ≡ digits_value 10 (without_leading_plus (after_first is_port_mark authority))

-- no colon: the host alone, and port 80
pub record SpellsNoPort (authority host : List ℕ) (port : ℕ) : Type 0 where
  pub no_colon : position_or_len is_port_mark authority ≡ length authority
  pub whole : host ≡ authority
  pub default : port ≡ 80

-- behind the first colon stands no port
pub record SpellsNeither (authority : List ℕ) : Type 0 where
  pub has_colon : HasColon authority
  pub other : ¬ IsPort (after_first is_port_mark authority)

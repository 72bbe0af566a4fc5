-- The bytes of tokens and values (RFC 2045, section 5.1).
use Rattle.std.specs.Prelude.{ℕ, Bool, ◌&&◌, ◌||◌, not, ◌==◌, nat_lt, nat_le, List, length, codes}
use Rattle.std.specs.List.{list_all, list_any}
use Rattle.as2_names.specs.Ascii.{space, quote, semicolon, tilde, line_feed, carriage_return}

-- tspecials: the marks that may stand in quotes only
abbrev pub is_special : ℕ → Bool
is_special b = list_any (λ c. c == b) (codes "()<>@,;:\\\"/[]?=")

-- a byte of a token: visible, and no mark
abbrev pub is_token_byte : ℕ → Bool
is_token_byte b = nat_lt space b && nat_le b tilde && not (is_special b)

abbrev pub is_token : List ℕ → Bool
is_token text = not (length text == 0) && list_all is_token_byte text

-- CR or LF, of which neither stands in a value
abbrev pub is_line_byte : ℕ → Bool
is_line_byte b = b == carriage_return || b == line_feed

-- a byte of a value that stands without quotes
abbrev pub is_bare_byte : ℕ → Bool
is_bare_byte b = not (b == semicolon) && not (b == quote) && not (is_line_byte b)

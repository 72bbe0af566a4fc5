-- Texts that others chose, as they are shown: each byte that prints, and of the others the number.
use Rattle.std.specs.Prelude.{ℕ, ◌+◌, ◌/◌, ◌%◌, Bool, ◌&&◌, ◌==◌, not, nat_le, nat_lt, List, [], ◌∷◌, if◌then◌else◌}
use Rattle.std.specs.List.{flat_map}
use Rattle.as2_names.specs.Ascii.{backslash, quote, space, tilde}

-- the hexadecimal digit of a number below 16
abbrev pub digit : ℕ → ℕ
digit n = if nat_lt n 10 then 48 + n else 87 + n

-- it prints, and is neither a quote nor a backslash
abbrev pub is_shown : ℕ → Bool
is_shown b = nat_le space b && (nat_le b tilde && (not (b == quote) && not (b == backslash)))

-- itself, or `\x` and its number in two digits
abbrev pub escaped_byte : ℕ → List ℕ
escaped_byte b = if is_shown b then b ∷ [] else backslash ∷ 120 ∷ digit (b / 16) ∷ digit (b % 16) ∷ []

abbrev pub escaped_text : List ℕ → List ℕ
escaped_text text = flat_map escaped_byte text

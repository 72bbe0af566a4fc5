-- The bytes of a MIC's text, which is base64 (RFC 4648, section 4).
use Rattle.std.specs.Prelude.{ℕ, Bool, ◌||◌, ◌==◌, List, IsTrue}
use Rattle.std.specs.Char.{is_ascii_alphanumeric}
use Rattle.std.specs.List.{list_all}
use Rattle.as2_names.specs.Ascii.{slash, equals_sign}

-- b'+'
abbrev pub plus : ℕ
plus = 43

-- a letter, a digit, `+`, `/`, or `=`, which only fills up
abbrev pub is_mic_byte : ℕ → Bool
is_mic_byte b = is_ascii_alphanumeric b || b == plus || b == slash || b == equals_sign

-- a text of such bytes
abbrev pub IsOfMicBytes : List ℕ → Type 0
IsOfMicBytes text = IsTrue (list_all is_mic_byte text)

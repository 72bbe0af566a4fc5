-- Where the head of a message lies in a text (RFC 9112, section 2.1): behind CR and LF bytes, up to its first empty line.
use Rattle.std.specs.Prelude.{◌≡◌, ℕ, ◌-◌, List, [], ◌∷◌, ◌++◌, length, take, if◌then◌else◌, Option, Some, None}
use Rattle.std.specs.List.{list_any}
use Rattle.as2_media.specs.Bytes.{is_line_byte}
use Rattle.as2_parts.specs.Lines.{lines, is_empty_line}
use Rattle.as2_parts.specs.Parts.{part_in}

-- the text without the CR and LF bytes at its front (RFC 9112, section 2.2)
abbrev pub unblank : List ℕ → List ℕ
unblank [] = []
unblank (b ∷ text) = if is_line_byte b then unblank text else b ∷ text

-- the length of the text up to the end of its first empty line, if it has one
abbrev pub up_to_empty_line : List ℕ → Option ℕ
up_to_empty_line text = if list_any is_empty_line (lines text) then Some (length text - length (part_in text).1) else None

-- the bytes in which a head has to end, the skipped CR and LF among them
abbrev pub head_limit : ℕ
head_limit = 16384

-- the first 16,384 bytes, without the CR and LF at the front
abbrev pub window : List ℕ → List ℕ
window text = unblank (take head_limit text)

-- behind CR and LF bytes stand the bytes of a head, up to the first empty line, and then what follows
abbrev pub HasHeadText : List ℕ → List ℕ → List ℕ → Type 0
HasHeadText text head after = (up_to_empty_line (window text) ≡ Some (length head)) × (unblank text ≡ head ++ after)

-- no head ends in the first 16,384 bytes
abbrev pub HasNoHeadText : List ℕ → Type 0
HasNoHeadText text = up_to_empty_line (window text) ≡ None

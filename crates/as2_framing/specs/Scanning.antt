-- The first empty line of a text that comes in pieces (RFC 9112, section 2.1).
use Rattle.std.specs.Prelude.{ℕ, ◌+◌, ◌<◌, ◌≤◌, Bool, true, false, ◌&&◌, List, [], ◌∷◌, if◌then◌else◌, ◌==◌, ⊤}
use Rattle.as2_names.specs.Ascii.{line_feed, carriage_return}
use Rattle.as2_framing.specs.declared.scan.LineSoFar.{LineSoFar}
use Rattle.as2_framing.specs.declared.scan.LineSoFar.TheVariants.{Nothing, Return, Text}
use Rattle.as2_framing.specs.declared.scan.Scanned.{Scanned}
use Rattle.as2_framing.specs.declared.scan.Scanned.TheVariants.{Ended, Open}

-- what stands of the line with a CR more
abbrev pub with_return : LineSoFar → LineSoFar
with_return Nothing = Return
with_return Return = Text
with_return Text = Text

-- what stands of the line with this byte more
abbrev pub with_byte : LineSoFar → ℕ → LineSoFar
with_byte line b = if b == line_feed then Nothing else if b == carriage_return then with_return line else Text

-- LF makes it an empty line
abbrev pub may_end : LineSoFar → Bool
may_end Nothing = true
may_end Return = true
may_end Text = false

-- how many bytes are missing of an empty line at least
abbrev pub missing_of : LineSoFar → ℕ
missing_of Nothing = 1
missing_of Return = 1
missing_of Text = 2

-- what stands of the line that the text ends in, where that stood before it
abbrev pub line_in : LineSoFar → List ℕ → LineSoFar
line_in line [] = line
line_in line (b ∷ text) = line_in (with_byte line b) text

-- how many bytes there are up to the end of the first empty line, n of them before these; or what stands of the last line
abbrev pub scan_from : ℕ → LineSoFar → List ℕ → Scanned
scan_from n line [] = Open line
scan_from n line (b ∷ text) = if b == line_feed && may_end line then Ended (n + 1) else scan_from (n + 1) (with_byte line b) text

-- an end lies within so many bytes
abbrev pub EndsWithin : ℕ → Scanned → Type 0
EndsWithin n (Ended k) = (0 < k) × (k ≤ n)
EndsWithin n (Open line) = ⊤

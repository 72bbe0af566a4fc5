-- How replies with status 503 are counted, as their lines are noted piece by piece.
use Rattle.std.specs.Prelude.{ℕ, ◌+◌, ◌-◌, ◌^◌, min, List, ◌&&◌, Bool, bytes_eq, codes, if◌then◌else◌}

-- the word at the end of a reply's line that tells status 503
abbrev pub is_busy_word : List ℕ → Bool
is_busy_word word = bytes_eq word (codes "503")

-- how many replies had it, behind this piece of a line: the last word tells the status
abbrev pub busy_behind : ℕ → Bool → List ℕ → ℕ
busy_behind count was_busy piece = if was_busy && bytes_eq piece (codes "\n") then min (count + 1) (2 ^ 64 - 1) else count

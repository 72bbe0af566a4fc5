-- Moments.
use Rattle.std.specs.Prelude.{ℕ, nat_le, if◌then◌else◌, Option, Some, None}

-- the seconds from 1970 to the last one of the year 9999
abbrev pub last_moment : ℕ
last_moment = 253402300799

-- the moment that is so many seconds after the start of 1970, up to the last
abbrev pub moment_of : ℕ → Option ℕ
moment_of seconds = if nat_le seconds last_moment then Some seconds else None

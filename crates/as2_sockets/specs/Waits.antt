-- How long a wait may last, in nanoseconds.
use Rattle.std.specs.Prelude.{ℕ, zero, suc, ◌-◌, ◌*◌, min, Option, Some, None}

-- so many seconds
abbrev pub nanoseconds : ℕ → ℕ
nanoseconds seconds = seconds * 1_000_000_000

-- a wait of some length, or none
abbrev pub some_wait : ℕ → Option ℕ
some_wait zero = None
some_wait (suc length) = Some (suc length)

-- the next wait, so long after the connection began: one wait's limit, or what is left of the whole where that is less
abbrev pub wait_left : (limit whole elapsed : ℕ) → Option ℕ
wait_left limit whole elapsed = some_wait (min limit (whole - elapsed))

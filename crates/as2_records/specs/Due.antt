-- What is due behind what was looked at.
use Rattle.std.specs.Prelude.{ℕ, nat_lt, Bool, true, List, filter, Option, Some, None}

-- the number is behind that one, where one is given
abbrev pub is_behind : Option ℕ → ℕ → Bool
is_behind None k = true
is_behind (Some n) k = nat_lt n k

-- those of the numbers that are
abbrev pub numbers_behind : Option ℕ → List ℕ → List ℕ
numbers_behind None ks = ks
numbers_behind (Some n) ks = filter (nat_lt n) ks

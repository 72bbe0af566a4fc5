-- What is due, and the rows that show a number.
use Rattle.std.specs.Prelude.{ℕ, ◌+◌, ◌==◌, ◌&&◌, nat_lt, if◌then◌else◌, List, [], ◌∷◌, map, filter, Option, Some, None}
use Rattle.sqlite.specs.Order.{Row}
use Rattle.as2_exchange.specs.State.{State, end_of_numbers}
use Rattle.as2_exchange.specs.Tries.{is_due}
use Rattle.as2_rows.specs.Rows.{whole}
use Rattle.as2_rows.specs.Waiting.{WaitingRow}
use Rattle.as2_store.specs.Stands.{all_waiting}

-- what waits so, and is due at this moment
abbrev pub due_waiting : ℕ → ℕ → State → List WaitingRow
due_waiting kind m s = filter (λ w. w.kind == kind && is_due m w.due) (all_waiting s)

-- its numbers
abbrev pub due_numbers : ℕ → ℕ → State → List ℕ
due_numbers kind m s = map (λ w. w.number) (due_waiting kind m s)

-- the least number that is behind that one, where one is given
abbrev pub least_behind : Option ℕ → ℕ
least_behind None = 0
least_behind (Some n) = if nat_lt n end_of_numbers then n + 1 else end_of_numbers

-- the row that shows a number
abbrev pub number_row : ℕ → Row
number_row n = whole n ∷ []

-- the rows of a query that shows a number, or finds none
abbrev pub number_rows : Option ℕ → List Row
number_rows None = []
number_rows (Some n) = number_row n ∷ []

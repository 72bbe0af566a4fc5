-- Room for contents: how much of it one takes, and when there is none.
use Rattle.std.specs.Prelude.{◌+◌, ◌-◌, ◌*◌, ◌/◌, ◌^◌, ℕ, min, nat_lt, Option, Some, None, if◌then◌else◌}

-- The bytes of a store's files that a content of so many bytes is reckoned to take: itself, and a thirty-second of it for what each page
-- has of its own. Then the rest of its last page, which is as long as itself at most, and its rows.
abbrev pub reckoned_size : ℕ → ℕ
reckoned_size length = length + length / 32 + min length 2304 + 512

-- the room that such a content leaves, where there is room for it
abbrev pub room_behind : ℕ → ℕ → Option ℕ
room_behind room length = if nat_lt room (reckoned_size length) then None else Some (room - reckoned_size length)

-- the room that files have which take so many bytes, and may take so many MiB
abbrev pub room_of : ℕ → ℕ → ℕ
room_of limit size = min (limit * 1048576) (2 ^ 64 - 1) - size

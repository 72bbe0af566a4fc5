-- How much is held of all connections.
use Rattle.std.specs.Prelude.{◌≡◌, ℕ, ◌≤◌, List, length, Option, Some, None, sum_by, slice_get}
use Rattle.as2_hub.specs.Places.{place_unanswered, places}
use Rattle.as2_hub.specs.declared.hub.Hub.{Hub}
use Rattle.as2_hub.specs.declared.talk.Talk.{Talk}

-- how many bytes of whoever has the place aren't answered
abbrev pub unanswered_in : Option (Option Talk) → ℕ
unanswered_in None = 0
unanswered_in (Some o) = place_unanswered o

-- as many places as there may be connections; and of one, and of all, no more bytes that aren't answered than the bounds say
pub record IsWithinBounds (hub : Hub) : Type 0 where
  pub connections : length (places hub) ≡ hub.bounds.connections
  pub of_one : (c : ℕ) → unanswered_in (slice_get (places hub) c) ≤ hub.bounds.bytes_of_one
  pub of_all : sum_by place_unanswered (places hub) ≤ hub.bounds.bytes_of_all

-- the same places, and at none of them more that isn't answered than before
pub record HoldsNoMore (old new : List (Option Talk)) : Type 0 where
  pub same_places : length new ≡ length old
  pub unread : (c : ℕ) → unanswered_in (slice_get new c) ≤ unanswered_in (slice_get old c)

-- the bounds are as they were, and what was within them is
pub record KeepsBounds (old new : Hub) : Type 0 where
  pub bounds : new.bounds ≡ old.bounds
  pub within : IsWithinBounds old → IsWithinBounds new

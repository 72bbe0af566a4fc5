-- What the migration of a store comes to.
use Rattle.as2_exchange.specs.Run.{migrated_state}
use Rattle.as2_exchange.specs.State.{State, Version, FirstVersion, LaterVersion}

-- a state once its store is migrated, by its version: one of the first knows all digests from then on
abbrev pub moved_from : Version → State → State
moved_from FirstVersion s = migrated_state s
moved_from (LaterVersion origin) s = s

abbrev pub migrated_if_first : State → State
migrated_if_first s = moved_from s.version s

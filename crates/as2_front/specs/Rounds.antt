-- A desk that passes into a round of its records, and out of it.
use Rattle.std.specs.Prelude.{◌≡◌}
use Rattle.as2_records.specs.Rounds.{IsLost, PassesOn}
use Rattle.as2_records.specs.Standing.{Medium, Standing}
use Rattle.as2_front.specs.declared.desk.StationDesk.{StationDesk}

-- all that a desk has beside its station is as it was
pub record IsSameBeside {K L : Type 0} (old : StationDesk K) (new : StationDesk L) : Type 0 where
  pub alloc : new.alloc ≡ old.alloc
  pub agreements : new.agreements ≡ old.agreements
  pub moment : new.moment ≡ old.moment
  pub log : new.log ≡ old.log

module _ {M N : Medium} {K L : Type 0} (shows : K → Standing M) (shows_new : L → Standing N) where
  -- Another desk has taken its place, with a station over other records. What those stood for these stand for.
  pub record PassesDesk (old : StationDesk K) (new : StationDesk L) : Type 0 where
    pub beside : IsSameBeside old new
    pub station : PassesOn (shows old.station) (shows_new new.station)

module _ {M : Medium} {K : Type 0} (shows : K → Standing M) where
  -- a desk in a round that couldn't be committed
  pub record LosesDesk (old new : StationDesk K) : Type 0 where
    pub beside : IsSameBeside old new
    pub station : IsLost (shows old.station) (shows new.station)

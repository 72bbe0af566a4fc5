-- What files hold of a store of an earlier version.
use Rattle.std.specs.Prelude.{Option, Some, None, ⊤}
use Rattle.sqlite_wal.specs.Recovery.{Image}
use Rattle.as2_exchange.specs.State.{State}
use Rattle.as2_store.specs.Tables.{Layout, VersionOne, VersionTwo, VersionThree}
use Rattle.as2_storage.specs.Files.{HoldsAs}

-- it is before the one that is read
abbrev pub IsEarlier : Layout → Type 0
IsEarlier VersionOne = ⊤
IsEarlier (VersionTwo way) = ⊤
IsEarlier (VersionThree way) = ⊥

-- the log and the file hold tables of an earlier version, which stand for this state
abbrev pub HoldsEarlier : Image → State → Type 0
HoldsEarlier image s = (layout : Layout) × IsEarlier layout × HoldsAs layout image s

-- the same of files until they are closed; nothing that was closed is of an earlier version
abbrev pub KeepsEarlier : {E : Type 0} → Image → Option E → State → Type 0
KeepsEarlier image None s = HoldsEarlier image s
KeepsEarlier image (Some end) s = ⊥

-- The command `migrate`: what it says, and what the store is then.
use Rattle.std.specs.Prelude.{◌⊎◌, ℕ, List, ◌++◌, Option, Some, None, Ok, codes, decimal}
use Rattle.as2_host.specs.declared.stores.Entries.{Entries}
use Rattle.as2_host.specs.declared.stores.Migration.{Migration}
use Rattle.as2_desk.specs.Endings.{Fails}
use Rattle.as2_desk.specs.Observed.{StoresSeen}
use Rattle.as2_desk.specs.Questions.{Prints}
use Rattle.as2_desk.specs.Written.{WriterSeen}
use Rattle.as2_desk.specs.declared.status.Ran.{Ran}

-- the version that the store has
abbrev pub version_line : List ℕ
version_line = codes "version 3\n"

-- how many entries there were or are, where they were counted
abbrev pub entries_hint : List ℕ → Option Entries → List ℕ
entries_hint when None = codes "hint: entries " ++ (when ++ codes ": not counted\n")
entries_hint when (Some counted) =
    codes "hint: entries " ++ (when ++ (codes ": inbox " ++ (decimal counted.inbox ++ (codes ", outbox " ++ (decimal counted.outbox ++ codes "\n")))))

-- .. before the migration, and after it
abbrev pub counts_hint : Migration → List ℕ
counts_hint it = entries_hint (codes "before") it.before ++ entries_hint (codes "after") it.after

-- What was kept under the path of an earlier version, if anything was, is kept there by the version that is read, and that version is said.
-- Or all is as it was, and why is told. No store is opened for a command.
abbrev pub DoesMigration : StoresSeen → WriterSeen → WriterSeen → Ran → Type 0
DoesMigration stored output errors ran =
    stored.Unopened × ((stored.Moved × Prints (Ok version_line) output errors ran)
    ⊎ (stored.Kept × stored.KeptEarlier × output.Untouched × Fails stored.Stays errors ran))

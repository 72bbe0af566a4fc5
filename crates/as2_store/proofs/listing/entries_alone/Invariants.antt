use Rattle.std.proofs.Common.{◌≡◌, [], false, map, Some}
use Rattle.sqlite.specs.Held.{state}
use Rattle.sqlite.specs.State.{HasCleanDisk, Survives}
use Rattle.as2_exchange.specs.State.{State}
use Rattle.as2_rows.specs.Rows.{in_shown}
use Rattle.as2_records.specs.Summaries.{in_summary}
use Rattle.as2_store.specs.Calls.{CommitsTables}
use Rattle.as2_store.specs.Stands.{Rests}
use Rattle.as2_store.proofs.ListedRows.{HasListed}
use Rattle.as2_store.proofs.Statements.{in_all_text}
use Rattle.as2_store.proofs.listing.entries_alone.Given as goal

-- The connection is the one that was lent; no transaction is open; a crash leaves what it would have left before; and what is listed so far.
abbrev pub invariant-rows : goal.invariant-rows
invariant-rows g l =
    let old = state g.S.Store l.fn.conn in
    let now = state g.S.Store l.rows.conn.now in
    (l.rows.conn.ghost_name ≡ l.initial.rows.conn.ghost_name) × (l.rows.conn.now.in_transaction ≡ false) × Survives old now (CommitsTables Some old)
    × (HasCleanDisk now → (s : State) → Rests old s → HasListed g.S.Store in_all_text [] in_shown (map in_summary) l.fn.conn l.rows.conn.now l.entries.items)

use Rattle.std.proofs.Common.{◌≡◌, ◌+◌, ◌<◌, ℕ, List, map, take}
use Rattle.std.specs.List.{AllByRecursion}
use Rattle.sqlite.specs.Held.{state}
use Rattle.sqlite.specs.State.{HasCleanDisk}
use Rattle.as2_exchange.specs.State.{end_of_numbers}
use Rattle.as2_exchange.specs.declared.outbox.OutEntry.{OutEntry}
use Rattle.as2_store.specs.Calls.{IsInside}
use Rattle.as2_store.specs.Due.{number_row}
use Rattle.as2_store.specs.Tables.{Way}
use Rattle.as2_store.specs.Expiring.{HoldsDocuments, RewritesDocuments, passed_documents}
use Rattle.as2_store.proofs.expiring.pass_each.Given as goal

-- the documents whose numbers the rows before this one show have passed
abbrev pub invariant-rows : goal.invariant-rows
invariant-rows g l =
    let old = state g.S.Store l.fn.tx.conn.now in
    let now = state g.S.Store l.tx.conn.now in
    (l.tx.conn.ghost_name ≡ l.fn.tx.conn.ghost_name)
    × (l.tx.at ≡ l.fn.tx.at)
    × IsInside (l.fn.tx.at + 1) old now
    × (HasCleanDisk now → (way : Way) (ns : List ℕ) (ds : List OutEntry) → AllByRecursion (λ n. n < end_of_numbers) ns → l.rows ≡ map number_row ns
    → HoldsDocuments way old.now ds → RewritesDocuments way old now (passed_documents l.detail (take l.row-index ns) ds))

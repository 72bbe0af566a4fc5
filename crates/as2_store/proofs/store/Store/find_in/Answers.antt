use Rattle.std.proofs.Common.{◌∙◌, ap}
use Rattle.sqlite.specs.Held.{state}
use Rattle.as2_exchange.specs.State.{has_key}
use Rattle.as2_exchange.specs.declared.inbox.InEntry.{InEntry}
use Rattle.as2_store.proofs.ReadsBy.{mapped, read_of, read_then}
use Rattle.as2_store.proofs.store.Store.find_in.Goals as goal

pub returns-clause-found : goal.returns-clause-found
returns-clause-found g c =
    read_of _ _ _ _ _ (ap (state g.S.Store) c.self.view_is)
    (read_then _ _ _ _ _ _ c.in_ok-rows.rows c.shown_entry.result
    (λ s found r shown told. told (λ (e : InEntry). has_key c.args.sender.now c.args.receiver.now c.args.id_value.now e.posted)
    (c.deref.ensures.value ∙ (rw (c.bytes.ensures.bytes, c.bytes-2.ensures.bytes, c.as_bytes.ensures.value) at shown)))
    (mapped _ _ _ _ _ _ _ c.map_err.ensures.cases c.in_ok-rows.was c.rows_by_key.ensures.rows) c.shown_entry.ensures.found)

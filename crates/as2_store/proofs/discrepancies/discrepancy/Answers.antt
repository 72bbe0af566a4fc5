use Rattle.std.proofs.Common.{◌≡◌, ◌∙◌, map, Option, None}
use Rattle.sqlite.specs.Held.{state}
use Rattle.as2_exchange.specs.State.{State}
use Rattle.as2_records.specs.Finding.{AreNext}
use Rattle.as2_records.specs.Listing.{listed_rows}
use Rattle.as2_records.specs.Summaries.{in_summary}
use Rattle.as2_records.specs.declared.discrepancy.Discrepancy.{Discrepancy}
use Rattle.as2_store.proofs.ComparedRows.{AreBelow, are_below, none_first}
use Rattle.as2_store.proofs.ReadsBy.{read_bad, read_if, read_then, reads_standing}
use Rattle.as2_store.proofs.discrepancies.discrepancy.Goals as goal

pub returns-in_err-received-clause-none : goal.returns-in_err-received-clause-none
returns-in_err-received-clause-none g c =
    read_then _ _ _ _ _ _ _ _ (λ s found rests known more. more) c.in_ok-next.ensures.numbers
    (read_bad _ (λ s found. found ≡ None) _ _ _ c.from_residual-in_err-received.result
    c.from_residual-in_err-received.ensures.0 c.in_err-received.ensures.entries)

pub returns-in_err-sent-clause-none : goal.returns-in_err-sent-clause-none
returns-in_err-sent-clause-none g c =
    read_then _ _ _ _ _ _ _ _ (λ s found rests known more. more) c.in_ok-next.ensures.numbers
    (read_then _ _ _ _ _ _ _ _ (λ s found rests known more. more) c.in_ok-received.ensures.entries
    (read_bad _ (λ s found. found ≡ None) _ _ _ c.from_residual-in_err-sent.result c.from_residual-in_err-sent.ensures.0 c.in_err-sent.ensures.documents))

pub returns-in_err-kept-clause-none : goal.returns-in_err-kept-clause-none
returns-in_err-kept-clause-none g c =
    read_then _ _ _ _ _ _ _ _ (λ s found rests known more. more) c.in_ok-next.ensures.numbers
    (read_then _ _ _ _ _ _ _ _ (λ s found rests known more. more) c.in_ok-received.ensures.entries
    (read_then _ _ _ _ _ _ _ _ (λ s found rests known more. more) c.in_ok-sent.ensures.documents
    (read_bad _ (λ s found. found ≡ None) _ _ _ c.from_residual-in_err-kept.result c.from_residual-in_err-kept.ensures.0 c.in_err-kept.ensures.kept)))

pub returns-clause-none : goal.returns-clause-none
returns-clause-none g c =
    let received = c.in_ok-received.received.items in
    let sent = c.in_ok-sent.sent.items in
    let counted : State → Option Discrepancy → Type 0 = λ s found. AreBelow s → found ≡ None in
    let of_next : State → Option Discrepancy → Type 0 = λ s found. AreNext c.in_ok-next.next s → counted s found in
    let of_received : State → Option Discrepancy → Type 0 = λ s found. received ≡ map in_summary s.inbox → of_next s found in
    let of_sent : State → Option Discrepancy → Type 0 = λ s found. sent ≡ listed_rows None s → of_received s found in
    reads_standing counted (λ s found. found ≡ None) _ _ c.first.result (λ s found here told. told (are_below (state g.S.Store c.args.conn.now) s here))
    (read_then _ of_next counted _ _ _ _ _ (λ s found rests next told. told next) c.in_ok-next.ensures.numbers
    (read_then _ of_received of_next _ _ _ _ _ (λ s found rests ins told. told ins) c.in_ok-received.ensures.entries
    (read_then _ of_sent of_received _ _ _ _ _ (λ s found rests outs told. told outs) c.in_ok-sent.ensures.documents
    (read_if _ of_sent _ _ c.in_ok-kept.kept c.first.result _ c.first.ensures.first
    (λ s found it rows outs ins next below. none_first _ _ _ _ found s it below next (c.as_slice.ensures.value ∙ ins) (c.as_slice-2.ensures.value ∙ outs)
    (c.as_slice-3.ensures.value ∙ rows)) c.in_ok-kept.ensures.kept))))

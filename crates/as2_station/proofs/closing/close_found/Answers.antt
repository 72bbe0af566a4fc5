use Rattle.std.proofs.Common.{◌∙◌, Some, sym, ap}
use Rattle.as2_exchange.specs.Documents.{closed_document}
use Rattle.as2_exchange.specs.State.{AllDigests}
use Rattle.as2_station.specs.Closing.{ended_document}
use Rattle.as2_station.proofs.Acting.{acts_alike, leaves}
use Rattle.as2_station.proofs.Closed.{closes, leaves_unsettled, no_open_try, not_agreed, settled_before}
use Rattle.as2_station.proofs.Doing.{as_machine, over_open}
use Rattle.as2_station.proofs.closing.close_found.Goals as goal

pub returns-in-Err : goal.returns-in-Err
returns-in-Err g c = record {
  taken =
      let d = c.args.entry.now in
      over_open _ _ _ _ _ _ c.requires.open
      (λ clean s stands found. ap Some
      (leaves s d stands found _ _
      (not_agreed c.args.terms.now.agreements.now AllDigests c.args.answer c.args.terms.now.moment d c.in-Err.reason c.in-Err.ensures.refused)));
}

pub returns-then-is_some : goal.returns-then-is_some
returns-then-is_some g c = record {
  taken =
      let d = c.args.entry.now in
      over_open _ _ _ _ _ _ c.requires.open
      (λ clean s stands found. ap Some
      (leaves s d stands found _ _
      (settled_before c.args.terms.now.agreements.now AllDigests c.args.answer c.args.terms.now.moment d c.in-Ok.partner.now c.in-Ok.ensures.agreed
      (sym c.if-is_some.ensures))));
}

pub returns-then-is_idle : goal.returns-then-is_idle
returns-then-is_idle g c = record {
  taken =
      let d = c.args.entry.now in
      over_open _ _ _ _ _ _ c.requires.open
      (λ clean s stands found. ap Some
      (leaves s d stands found _ _
      (no_open_try c.args.terms.now.agreements.now AllDigests c.args.answer c.args.terms.now.moment d c.in-Ok.partner.now c.in-Ok.ensures.agreed
      (sym c.if-is_some.ensures) (sym c.if-is_idle.ensures))));
}

pub end_try-requires-clause-unsettled : goal.end_try-requires-clause-unsettled
end_try-requires-clause-unsettled g c =
    leaves_unsettled c.in-Ok.partner.now c.args.terms.now.moment c.args.entry.now c.args.answer _ c.in_ok-end.end c.in_ok-end.ensures

pub returns : goal.returns
returns g c = record {
  taken =
      let d = c.args.entry.now in
      let same = c.in_ok-end.ensures
      ∙ sym (closes c.args.terms.now.agreements.now AllDigests c.args.answer c.args.terms.now.moment d c.in-Ok.partner.now c.in-Ok.ensures.agreed
      (sym c.if-is_some.ensures) (sym c.if-is_idle.ensures)) in
      as_machine _ _ _ _ _ _ _ _ _ c.requires.open
      (λ s stands found. (
        found,
        ap Some (acts_alike s d stands found (ended_document c.in_ok-end.end)
            (closed_document c.args.terms.now.agreements.now AllDigests c.args.answer c.args.terms.now.moment) same),
      )) c.end_try.ensures.taken;
}

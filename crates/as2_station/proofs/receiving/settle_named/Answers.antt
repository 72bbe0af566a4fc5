use Rattle.std.proofs.Common.{◌≡◌, inr, refl, sym}
use Rattle.as2_exchange.specs.Readings.{verdict}
use Rattle.as2_exchange.specs.Documents.{settle, settled_document}
use Rattle.as2_exchange.specs.Lines.{http}
use Rattle.as2_exchange.specs.State.{AllDigests}
use Rattle.as2_exchange.proofs.Standing.{verdict_range}
use Rattle.as2_posts.specs.Openings.{receipt_by}
use Rattle.as2_exchange.specs.declared.answer.HttpBody.TheVariants.{Nothing}
use Rattle.as2_exchange.specs.Documents.{settled_as}
use Rattle.as2_station.proofs.Doing.{over_open, never_full, passed_on, written, unwritten}
use Rattle.as2_station.proofs.Reaching.{settles}
use Rattle.as2_station.proofs.receiving.settle_named.Goals as goal

pub returns-then-not-is_for : goal.returns-then-not-is_for
unfolding settle
returns-then-not-is_for g c = record {
  taken = λ A.
      rw c.answer.ensures (over_open _ _ _ _ _ _ c.requires.open (λ clean s stands named. rw (named, sym (c.if-not-is_for.ensures c.args.body)) refl));
}

pub returns-then-is_some : goal.returns-then-is_some
unfolding settle
returns-then-is_some g c = record {
  taken = λ A.
      rw c.taken.ensures (over_open _ _ _ _ _ _ c.requires.open
      (λ clean s stands named. rw (named, sym (c.if-not-is_for.ensures c.args.body), sym c.if-is_some.ensures) refl));
}

pub returns-in_err-settle : goal.returns-in_err-settle
unfolding verdict
returns-in_err-settle g c = record {
  taken = λ A.
      let d = c.args.document.now in
      let r = receipt_by AllDigests c.args.named.now.opened.now c.args.named.now.receipt.now c.args.body in
      let now = settled_as c.verdict_pieces-detail.result c.in_ok-evidence.evidence in
      let same : now d ≡ settled_document c.args.terms.now.moment r d =
      rw (c.verdict_pieces-detail.ensures, c.in_ok-evidence.ensures c.args.named.now.receipt.now) refl in
      passed_on _ _ _ _ _ _ _ _ c.from_residual-in_err-settle.ensures.0 c.from_residual-in_err-settle.ensures.1
      (unwritten _ _ _ _ _ _ _ _ (http 200 Nothing)
      (λ s t stands named is counter.
      settles s t c.args.terms.now.moment r d _ _ stands named (sym (c.if-not-is_for.ensures c.args.body)) (sym c.if-is_some.ensures)
      (rw c.verdict_pieces-detail.ensures (verdict_range AllDigests c.args.named.now.receipt.now d.content)) same is)
      (inr c.in_err-settle.ensures.fault)
      (λ s named full. never_full _ c.in_err-settle.ensures.fault full)
      c.in_err-settle.ensures.settled);
}

pub returns : goal.returns
unfolding verdict
returns g c = record {
  taken = λ A.
      let d = c.args.document.now in
      let r = receipt_by AllDigests c.args.named.now.opened.now c.args.named.now.receipt.now c.args.body in
      let now = settled_as c.verdict_pieces-detail.result c.in_ok-evidence.evidence in
      let same : now d ≡ settled_document c.args.terms.now.moment r d =
      rw (c.verdict_pieces-detail.ensures, c.in_ok-evidence.ensures c.args.named.now.receipt.now) refl in
      rw c.taken-2.ensures (written _ _ _ _ _ _ _ _ _
      (λ s t stands named is counter.
      settles s t c.args.terms.now.moment r d _ _ stands named (sym (c.if-not-is_for.ensures c.args.body)) (sym c.if-is_some.ensures)
      (rw c.verdict_pieces-detail.ensures (verdict_range AllDigests c.args.named.now.receipt.now d.content)) same is)
      c.in_ok-settle.ensures.settled);
}

use Rattle.std.proofs.Common.{◌≡◌, false, refl, sym}
use Rattle.std.proofs.Math.Bool.{and-false}
use Rattle.std.specs.Prelude.{◌&&◌, is_none}
use Rattle.toml.specs.View.{table_view}
use Rattle.as2_agreement.specs.Agreements.{wants_return}
use Rattle.as2_agreement.proofs.Found.{made_are, partners_refused, err_given}
use Rattle.as2_agreement.proofs.agreements.read_document.Goals as goal
use Rattle.as2_agreement.proofs.agreements.read_document.Goals.{else-wants_return-via-then-wants_return+else-is_none, else-wants_return-via-else-wants_return}

pub returns-in_err-partners : goal.returns-in_err-partners
returns-in_err-partners c =
    err_given _ _ c.in_err-partners.field-0.0 _ c.from_residual-in_err-partners.ensures.0 c.from_residual-in_err-partners.ensures.1
    (partners_refused (table_view c.args.document.now) _ _ c.in_ok-organizations.organizations.items c.in_err-partners.field-0.0
    (sym c.in_ok-domain.ensures) c.in_ok-return_url.ensures c.in_ok-organizations.ensures (rw (← c.deref.ensures.value) c.in_err-partners.ensures))

pub invariant_of-result : goal.invariant_of-result
invariant_of-result c =
    let returns : (wants_return c.in_ok-partners.partners.items && is_none c.in_ok-return_url.return_url) ≡ false =
    elim c.else-wants_return.branch [
      | else-wants_return-via-then-wants_return+else-is_none w ↦ rw (w.is_none.ensures, w.if-is_none.false)
          (and-false (wants_return c.in_ok-partners.partners.items))
      | else-wants_return-via-else-wants_return w ↦ rw (← c.deref-2.ensures.value, ← w.if-wants_return.ensures) refl
    ] in
    (made_are (table_view c.args.document.now) _ (record {
      domain_read = sym c.in_ok-domain.ensures;
      return_url_read = c.in_ok-return_url.ensures;
      organizations_read = c.in_ok-organizations.ensures;
      partners_read = rw (← c.deref.ensures.value) c.in_ok-partners.ensures;
      returns = returns;
    })).1

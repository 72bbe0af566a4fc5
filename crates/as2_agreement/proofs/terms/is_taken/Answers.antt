use Rattle.std.proofs.Common.{refl}
use Rattle.as2_agreement.proofs.Items.{taken_by}
use Rattle.as2_agreement.proofs.terms.is_taken.Goals as goal

pub returns-then-is_organization : goal.returns-then-is_organization
returns-then-is_organization c =
    rw (taken_by c.args.name.now c.args.organizations.now c.args.partners.now, ← c.is_organization.ensures, c.if-is_organization.true) refl

pub returns-else-is_organization : goal.returns-else-is_organization
returns-else-is_organization c =
    rw (taken_by c.args.name.now c.args.organizations.now c.args.partners.now, ← c.is_organization.ensures, c.if-is_organization.false) c.is_partner.ensures

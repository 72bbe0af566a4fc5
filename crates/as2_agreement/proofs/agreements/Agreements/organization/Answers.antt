use Rattle.std.proofs.Common.{◌≡◌, List, map, sym, ap, subst, ◌∙◌}
use Rattle.std.specs.List.{Contains}
use Rattle.as2_agreement.specs.Agreements.{AgreedValues}
use Rattle.as2_agreement.specs.declared.partner.Organization.{Organization as OneOrganization}
use Rattle.as2_agreement.proofs.Finding.{only_member, some_named}
use Rattle.as2_agreement.proofs.Found.{distinct_front}
use Rattle.as2_agreement.proofs.Members.{organization_name, partner_name}
use Rattle.as2_agreement.proofs.agreements.Agreements.organization.Goals as goal

pub returns-clause-found : goal.returns-clause-found
returns-clause-found c =
    some_named organization_name c.self.inside.organizations.items c.args.name.now c.organization_named.result
    (rw (← c.deref.ensures.value) c.organization_named.ensures)

pub returns-clause-only : goal.returns-clause-only
returns-clause-only c o member same =
    let of_model : c.args.self.now.organizations ≡ c.self.inside.organizations.items = sym (ap (λ (a : AgreedValues). a.organizations) c.self.view_is) in
    let apart = distinct_front (map organization_name c.self.inside.organizations.items)
    (map partner_name c.self.inside.partners.items) c.self.invariant.distinct in
    rw (← c.deref.ensures.value) c.organization_named.ensures
    ∙ only_member organization_name c.self.inside.organizations.items c.args.name.now o apart
    (subst (λ (l : List OneOrganization). Contains l o) of_model member) same

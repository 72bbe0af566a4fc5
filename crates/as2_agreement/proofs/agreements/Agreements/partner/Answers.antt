use Rattle.std.proofs.Common.{◌≡◌, List, map, sym, ap, subst, ◌∙◌}
use Rattle.std.specs.List.{Contains}
use Rattle.as2_agreement.specs.Agreements.{AgreedValues}
use Rattle.as2_agreement.specs.declared.partner.Partner.{Partner as OnePartner}
use Rattle.as2_agreement.specs.Partners.{IsPartner}
use Rattle.as2_agreement.proofs.Finding.{only_member, some_has, distinct_back}
use Rattle.as2_agreement.proofs.Members.{organization_name, partner_name}
use Rattle.as2_agreement.proofs.agreements.Agreements.partner.Goals as goal

pub returns-clause-found : goal.returns-clause-found
returns-clause-found c =
    some_has partner_name IsPartner c.self.inside.partners.items c.args.name.now c.partner_named.result c.self.invariant.partners
    (rw (← c.deref.ensures.value) c.partner_named.ensures)

pub returns-clause-only : goal.returns-clause-only
returns-clause-only c p member same =
    let of_model : c.args.self.now.partners ≡ c.self.inside.partners.items = sym (ap (λ (a : AgreedValues). a.partners) c.self.view_is) in
    let apart = distinct_back (map organization_name c.self.inside.organizations.items)
    (map partner_name c.self.inside.partners.items) c.self.invariant.distinct in
    rw (← c.deref.ensures.value) c.partner_named.ensures
    ∙ only_member partner_name c.self.inside.partners.items c.args.name.now p apart (subst (λ (l : List OnePartner). Contains l p) of_model member) same

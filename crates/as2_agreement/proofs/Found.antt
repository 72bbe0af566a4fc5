-- What is read is agreed, and what is agreed is read.
use Rattle.std.proofs.Common.{◌≡◌, ℕ, ◌≤◌, Bool, true, false, List, [], ◌∷◌, ◌++◌, map, length, Option, Some, None, Ok, Err, refl, sym, ap, subst, ◌∙◌, arith, inl, inr}
use Rattle.std.specs.Prelude.{nat_le, ◌&&◌, ◌⊎◌, is_none, IfOk, IfSome, IsErr, IsErrAnd, IsSome, IsTrue}
use Rattle.std.specs.List.{AllByRecursion, IsDistinct}
use Rattle.std.specs.Str.{bytes_eq}
use Rattle.std.proofs.lemmas.Bool.{false≢true}
use Rattle.std.proofs.lemmas.Bool.Decides.{nat_tests}
use Rattle.std.proofs.lemmas.List.{append-nil}
use Rattle.toml.specs.Data.{Data, string, array, Items, no_items, item, Members, as_str, as_array}
use Rattle.toml.specs.Parse.{parse_document}
use Rattle.as2_names.specs.Domains.{IsDomain, domain_of}
use Rattle.as2_agreement.specs.declared.fault.AgreementFault.{AgreementFault}
use Rattle.as2_agreement.specs.declared.fault.AgreementFault.TheVariants as fault
use Rattle.as2_agreement.specs.declared.key.Key.{Key}
use Rattle.as2_agreement.specs.declared.key.Key.TheVariants as key
use Rattle.as2_agreement.specs.declared.partner.Organization.{Organization}
use Rattle.as2_agreement.specs.declared.partner.Partner.{Partner}
use Rattle.as2_agreement.specs.Agreements.{AgreedValues, AreAgreements, IsAgreement, SaysAgreements, SaysReturnUrl, SayEach, HasEntriesAt, names, wants_return, organizations_limit, partners_limit}
use Rattle.as2_agreement.specs.Partners.{SaysOrganization, SaysPartner, IsPartner}
use Rattle.as2_agreement.specs.Values.{value_at, HasText, IsAddress}
use Rattle.as2_agreement.specs.Reading.{OrFirstFault, ◌>>=◌, present, of_kind, text, agreed_address, items_len, few, entries, each, domain, return_url_in, organization, organizations, partner, partners, agreements, document_in, agreements_reading, OrMemory, GivesOrMemory}
use Rattle.as2_agreement.proofs.Each.{each_read, each_again}
use Rattle.as2_agreement.proofs.Keyed.{bound, guarded, not_faulty, present_ok, of_kind_ok, as_array_ok, str_ok, text_ok, domain_of_ok, domain_of_again, address_ok, address_in_again}
use Rattle.as2_agreement.proofs.Members.{organization_name, partner_name, IsOrganization, organization_reads, organization_again, partner_reads, partner_again}

-- ---- arrays

entries_ok : (k : Key) (most : ℕ) (document : Members) (es : Items) → entries k most document ≡ Ok es → (value_at k document ≡ Some (array es))
    × (items_len es ≤ most)
entries_ok k most document es e =
    let (all, read, fits) = bound (present k (value_at k document) >>= (λ d. of_kind k (as_array d))) (few most) es e in
    let (d, here, kind) = bound (present k (value_at k document)) (λ d. of_kind k (as_array d)) all read in
    let g = guarded (nat_le (items_len all) most) _ all es fits in
    let short : items_len all ≤ most = grind (arith, nat_tests) in
    (present_ok k (value_at k document) d here ∙ ap Some (as_array_ok d all (of_kind_ok k (as_array d) all kind) ∙ ap array g.1), rw (← g.1) short)

entries_again : (k : Key) (most : ℕ) (document : Members) (es : Items) → value_at k document ≡ Some (array es) → items_len es ≤ most
    → entries k most document ≡ Ok es
entries_again k most document es h short =
    let fits : nat_le (items_len es) most ≡ true = grind (arith, nat_tests) in
    rw (h, fits) refl

-- each entry says one
said_len : {X : Type 0} (Says : Members → X → Type 0) (es : Items) (xs : List X) → SayEach Says es xs → items_len es ≡ length xs
said_len Says no_items [] s = refl
said_len Says no_items (x ∷ others) s = absurd s
said_len Says (item d es) [] s = absurd s
said_len Says (item d es) (x ∷ others) s = omega (arith, said_len Says es others s.1)

nothing_distinct : IsDistinct bytes_eq []
unfolding IsDistinct
nothing_distinct = tt

-- what is read of the organizations, and what reads them
pub record AreOrganizations (document : Members) (os : List Organization) : Type 0 where
  pub says : HasEntriesAt SaysOrganization document key.Organization os
  pub good : AllByRecursion IsOrganization os
  pub few : length os ≤ organizations_limit
  pub distinct : IsDistinct bytes_eq (map organization_name os)

pub organizations_ok : (document : Members) (os : List Organization) → organizations document ≡ Ok os → AreOrganizations document os
organizations_ok document os e =
    let (es, at, read) = bound (entries key.Organization organizations_limit document) (each organization []) os e in
    let h = entries_ok key.Organization organizations_limit document es at in
    let r = each_read organization SaysOrganization IsOrganization organization_name [] organization_reads [] es os read nothing_distinct in
    let same : os ≡ r.new = r.whole in
    let len : length os ≡ items_len es = ap length same ∙ r.len in
    record {
      says = (es, h.0, subst (SayEach SaysOrganization es) (sym same) r.says);
      good = subst (AllByRecursion IsOrganization) (sym same) r.good;
      few = omega (arith, len, h.1);
      distinct = r.distinct;
    }

pub organizations_again : (document : Members) (os : List Organization) → AreOrganizations document os → organizations document ≡ Ok os
organizations_again document os a =
    let es : Items = a.says.0 in
    let len = said_len SaysOrganization es os a.says.2 in
    let at = entries_again key.Organization organizations_limit document es a.says.1 (omega (arith, len, a.few)) in
    rw at (each_again organization SaysOrganization IsOrganization organization_name [] organization_again [] es os a.says.2 a.good a.distinct)

-- the same of the partners
pub record ArePartners (document : Members) (os : List Organization) (ps : List Partner) : Type 0 where
  pub says : HasEntriesAt SaysPartner document key.Partner ps
  pub good : AllByRecursion IsPartner ps
  pub few : length ps ≤ partners_limit
  pub distinct : IsDistinct bytes_eq (names os ps)

pub partners_ok : (document : Members) (os : List Organization) (ps : List Partner) → IsDistinct bytes_eq (map organization_name os)
    → partners os document ≡ Ok ps
    → ArePartners document os ps
partners_ok document os ps d e =
    let (es, at, read) = bound (entries key.Partner partners_limit document) (each (partner os) []) ps e in
    let h = entries_ok key.Partner partners_limit document es at in
    let alone = subst (IsDistinct bytes_eq) (sym (append-nil (map organization_name os))) d in
    let r = each_read (partner os) SaysPartner IsPartner partner_name (map organization_name os) (partner_reads os) [] es ps read alone in
    let same : ps ≡ r.new = r.whole in
    let len : length ps ≡ items_len es = ap length same ∙ r.len in
    record {
      says = (es, h.0, subst (SayEach SaysPartner es) (sym same) r.says);
      good = subst (AllByRecursion IsPartner) (sym same) r.good;
      few = omega (arith, len, h.1);
      distinct = r.distinct;
    }

pub partners_again : (document : Members) (os : List Organization) (ps : List Partner) → ArePartners document os ps → partners os document ≡ Ok ps
partners_again document os ps a =
    let es : Items = a.says.0 in
    let len = said_len SaysPartner es ps a.says.2 in
    let at = entries_again key.Partner partners_limit document es a.says.1 (omega (arith, len, a.few)) in
    rw at (each_again (partner os) SaysPartner IsPartner partner_name (map organization_name os) (partner_again os) [] es ps a.says.2 a.good a.distinct)

all_front : (x : List ℕ) (front back : List (List ℕ)) → AllByRecursion (λ z. bytes_eq x z ≡ false) (front ++ back)
    → AllByRecursion (λ z. bytes_eq x z ≡ false) front
all_front x [] back h = tt
all_front x (y ∷ front) back h = (h.0, all_front x front back h.1)

pub distinct_front : (front back : List (List ℕ)) → IsDistinct bytes_eq (front ++ back) → IsDistinct bytes_eq front
unfolding IsDistinct
distinct_front [] back d = tt
distinct_front (x ∷ front) back d = (all_front x front back d.0, distinct_front front back d.1)

-- ---- the other keys

pub domain_ok : (document : Members) (d : List ℕ) → domain document ≡ Ok d → HasText document key.Domain d × IsDomain d
domain_ok document d e =
    let (t, at, kind) = bound (text key.Domain document) (λ t. of_kind key.Domain (domain_of t)) d e in
    let h = domain_of_ok t d (of_kind_ok key.Domain (domain_of t) d kind) in
    (text_ok key.Domain document t at ∙ ap (λ (x : List ℕ). Some (string x)) h.0, h.1)

pub domain_again : (document : Members) (d : List ℕ) → HasText document key.Domain d → IsDomain d → domain document ≡ Ok d
domain_again document d h is = rw (h, domain_of_again d is) refl

-- what the address for receipts is, where there is one
abbrev pub SaysAt : Option Data → Option (List ℕ) → Type 0
SaysAt v None = v ≡ None
SaysAt v (Some url) = v ≡ Some (string url)

pub return_url_ok : (v : Option Data) (r : Option (List ℕ)) → return_url_in v ≡ Ok r → SaysAt v r × IfSome r IsAddress
return_url_ok None r e =
    let same : None ≡ r = cc in
    rw (← same) (refl, tt)
return_url_ok (Some d) r e =
    let (u, read, end) = bound (of_kind key.ReturnUrl (as_str d) >>= agreed_address key.ReturnUrl) (λ url. Ok (Some url)) r e in
    let (t, kind, fits) = bound (of_kind key.ReturnUrl (as_str d)) (agreed_address key.ReturnUrl) u read in
    let a = address_ok key.ReturnUrl t u fits in
    let same : Some u ≡ r = cc in
    rw (← same) (ap Some (str_ok key.ReturnUrl d t kind ∙ ap string a.0), a.1)

pub return_url_again : (v : Option Data) (r : Option (List ℕ)) → SaysAt v r → IfSome r IsAddress → return_url_in v ≡ Ok r
return_url_again v None s i = rw s refl
return_url_again v (Some url) s i = rw (s, address_in_again key.ReturnUrl url i) refl

said_at : (document : Members) (r : Option (List ℕ)) → SaysAt (value_at key.ReturnUrl document) r → SaysReturnUrl document r
said_at document None s = s
said_at document (Some url) s = s

at_said : (document : Members) (r : Option (List ℕ)) → SaysReturnUrl document r → SaysAt (value_at key.ReturnUrl document) r
at_said document None s = s
at_said document (Some url) s = s

-- ---- a document

returned : (t : Bool) (r : Option (List ℕ)) → (t && is_none r) ≡ false → IsTrue t → IsSome r
returned true None e h = absurd cc
returned true (Some url) e h = refl
returned false r e h = absurd cc

unreturned : (t : Bool) (r : Option (List ℕ)) → (IsTrue t → IsSome r) → (t && is_none r) ≡ false
unreturned false r h = refl
unreturned true None h = absurd (false≢true (h refl))
unreturned true (Some url) h = refl

-- the values that were read, one after the other
pub record AreMade (document : Members) (a : AgreedValues) : Type 0 where
  pub domain_read : domain document ≡ Ok a.domain
  pub return_url_read : return_url_in (value_at key.ReturnUrl document) ≡ Ok a.return_url
  pub organizations_read : organizations document ≡ Ok a.organizations
  pub partners_read : partners a.organizations document ≡ Ok a.partners
  pub returns : (wants_return a.partners && is_none a.return_url) ≡ false

pub made_are : (document : Members) (a : AgreedValues) → AreMade document a → SaysAgreements document a × AreAgreements a
made_are document a m =
    let d = domain_ok document a.domain m.domain_read in
    let r = return_url_ok (value_at key.ReturnUrl document) a.return_url m.return_url_read in
    let os = organizations_ok document a.organizations m.organizations_read in
    let ps = partners_ok document a.organizations a.partners os.distinct m.partners_read in (
      record { domain = d.0; return_url = said_at document a.return_url r.0; organizations = os.says; partners = ps.says },
      record {
        domain = d.1;
        return_url = r.1;
        few_organizations = os.few;
        few_partners = ps.few;
        organizations = os.good;
        partners = ps.good;
        distinct = ps.distinct;
        returns = returned (wants_return a.partners) a.return_url m.returns;
      },
    )

pub agreements_made : (document : Members) (a : AgreedValues) → agreements document ≡ Ok a → AreMade document a
agreements_made document a e =
    let (d, domain_read, e1) = bound (domain document) _ a e in
    let (r, return_url_read, e2) = bound (return_url_in (value_at key.ReturnUrl document)) _ a e1 in
    let (os, organizations_read, e3) = bound (organizations document) _ a e2 in
    let (ps, partners_read, e4) = bound (partners os document) _ a e3 in
    let g = not_faulty (wants_return ps && is_none r) _ (record { domain = d; return_url = r; organizations = os; partners = ps }) a e4 in
    subst (AreMade document) g.1
    (record {
      domain_read = domain_read;
      return_url_read = return_url_read;
      organizations_read = organizations_read;
      partners_read = partners_read;
      returns = g.0;
    })

-- a fault of the partners is the one of the document
pub partners_refused : (document : Members) (d : List ℕ) (r : Option (List ℕ)) (os : List Organization) (f : AgreementFault)
    → domain document ≡ Ok d → return_url_in (value_at key.ReturnUrl document) ≡ Ok r → organizations document ≡ Ok os
    → (partners os document ≡ Err f) ⊎ (f ≡ fault.Memory) → (agreements document ≡ Err f) ⊎ (f ≡ fault.Memory)
partners_refused document d r os f at_domain at_url at_organizations (inl e) = inl (rw (at_domain, at_url, at_organizations, e) refl)
partners_refused document d r os f at_domain at_url at_organizations (inr memory) = inr memory

pub err_given : {A B : Type 0} (view : A → B) (r : OrFirstFault A) (f : AgreementFault) (answer : OrFirstFault B) → IsErr r → IsErrAnd r (λ e. e ≡ f)
    → (answer ≡ Err f) ⊎ (f ≡ fault.Memory) → GivesOrMemory view r answer
err_given view (Ok a) f answer is given h = absurd cc
err_given view (Err e) f answer is given h = rw given h

pub agreements_again : (document : Members) (a : AgreedValues) → SaysAgreements document a → AreAgreements a → agreements document ≡ Ok a
agreements_again document a s is =
    let alone = distinct_front (map organization_name a.organizations) (map partner_name a.partners) is.distinct in
    rw (
      domain_again document a.domain s.domain is.domain,
      return_url_again (value_at key.ReturnUrl document) a.return_url (at_said document a.return_url s.return_url) is.return_url,
      organizations_again document a.organizations (record { says = s.organizations; good = is.organizations; few = is.few_organizations; distinct = alone }),
      partners_again document a.organizations a.partners (record { says = s.partners; good = is.partners; few = is.few_partners; distinct = is.distinct }),
      unreturned (wants_return a.partners) a.return_url is.returns,
    ) refl

-- ---- a text

document_ok : (o : Option Members) (document : Members) → document_in o ≡ Ok document → o ≡ Some document
document_ok None document e = absurd cc
document_ok (Some x) document e = cc

pub reading_found : (t : List ℕ) (a : AgreedValues) → agreements_reading t ≡ Ok a → IsAgreement t a
reading_found t a e =
    let (document, at, read) = bound (document_in (parse_document t)) agreements a e in
    let m = made_are document a (agreements_made document a read) in
    record { document = document; parsed = document_ok (parse_document t) document at; says = m.0; are = m.1 }

pub reading_again : (t : List ℕ) (a : AgreedValues) → IsAgreement t a → agreements_reading t ≡ Ok a
reading_again t a g = rw g.parsed (agreements_again g.document a g.says g.are)

-- ---- answers

-- what a document gives, its text gives
pub given_by : (t : List ℕ) (document : Members) (r : OrFirstFault AgreedValues) → parse_document t ≡ Some document
    → GivesOrMemory (λ a. a) r (agreements document) → OrMemory r (agreements_reading t)
given_by t document (Ok a) parsed g = inl (sym (rw parsed g))
given_by t document (Err f) parsed (inl e) = inl (sym (rw parsed e))
given_by t document (Err f) parsed (inr memory) = inr (ap Err memory)

pub found_by : (t : List ℕ) (r : OrFirstFault AgreedValues) → OrMemory r (agreements_reading t) → IfOk r (IsAgreement t)
found_by t (Err f) o = tt
found_by t (Ok a) (inl same) = reading_found t a (sym same)
found_by t (Ok a) (inr other) = absurd cc

pub only_by : (t : List ℕ) (r : OrFirstFault AgreedValues) → OrMemory r (agreements_reading t) → (a : AgreedValues) → IsAgreement t a → (r ≡ Ok a)
    ⊎ (r ≡ Err fault.Memory)
only_by t r (inl same) a g = inl (same ∙ reading_again t a g)
only_by t r (inr memory) a g = inr memory

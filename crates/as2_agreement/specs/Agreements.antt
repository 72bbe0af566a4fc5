-- Agreements: which a TOML text has.
use Rattle.std.specs.Prelude.{◌≡◌, ℕ, ◌≤◌, ◌++◌, Bool, List, [], ◌∷◌, map, length, IsSome, IfSome, IsTrue, ⊤, Option, Some, None}
use Rattle.std.specs.List.{AllByRecursion, IsDistinct, find, list_any}
use Rattle.std.specs.Str.{bytes_eq}
use Rattle.toml.specs.Data.{array, table, Items, no_items, item, Members}
use Rattle.toml.specs.Parse.{parse_document}
use Rattle.as2_names.specs.Domains.{IsDomain}
use Rattle.as2_names.specs.Names.{IsName}
use Rattle.as2_agreement.specs.declared.key.Key.{Key}
use Rattle.as2_agreement.specs.declared.key.Key.TheVariants as key
use Rattle.as2_agreement.specs.declared.partner.Organization.{Organization}
use Rattle.as2_agreement.specs.declared.partner.Partner.{Partner}
use Rattle.as2_agreement.specs.Values.{value_at, HasText, IsAddress}
use Rattle.as2_agreement.specs.Partners.{SaysOrganization, SaysPartner, IsPartner, asks_async}

-- the station's domain and address, its own names, and its partners with their terms
pub record AgreedValues : Type 0 where
  pub domain : List ℕ
  pub return_url : Option (List ℕ)
  pub organizations : List Organization
  pub partners : List Partner

-- the names of all, those of the organizations first
abbrev pub names : List Organization → List Partner → List (List ℕ)
names organizations partners = map (λ o. o.name) organizations ++ map (λ p. p.name) partners

-- some partner is asked for receipts that come later
abbrev pub wants_return : List Partner → Bool
wants_return partners = list_any (λ p. asks_async p.receipt) partners

abbrev pub organizations_limit : ℕ
organizations_limit = 64

abbrev pub partners_limit : ℕ
partners_limit = 256

-- values that may be agreed: two finite sets, no name in both or twice
pub record AreAgreements (a : AgreedValues) : Type 0 where
  pub domain : IsDomain a.domain
  pub return_url : IfSome a.return_url IsAddress
  pub few_organizations : length a.organizations ≤ organizations_limit
  pub few_partners : length a.partners ≤ partners_limit
  pub organizations : AllByRecursion (λ o. IsName o.name) a.organizations
  pub partners : AllByRecursion IsPartner a.partners
  pub distinct : IsDistinct bytes_eq (names a.organizations a.partners)
  pub returns : IsTrue (wants_return a.partners) → IsSome a.return_url

-- ---- which a document has

-- each entry is a table, and that of one of them, in order
abbrev pub SayEach : {X : Type 0} → (Members → X → Type 0) → Items → List X → Type 0
SayEach Says no_items [] = ⊤
SayEach Says no_items (x ∷ others) = ⊥
SayEach Says (item d entries) [] = ⊥
SayEach Says (item d entries) (x ∷ others) = ((entry : Members) × (d ≡ table entry) × Says entry x) × SayEach Says entries others

-- the key holds an array of such entries
abbrev pub HasEntriesAt : {X : Type 0} → (Members → X → Type 0) → Members → Key → List X → Type 0
HasEntriesAt Says document key xs = (entries : Items) × (value_at key document ≡ Some (array entries)) × SayEach Says entries xs

-- the address for receipts, which may be absent
abbrev pub SaysReturnUrl : Members → Option (List ℕ) → Type 0
SaysReturnUrl document None = value_at key.ReturnUrl document ≡ None
SaysReturnUrl document (Some url) = HasText document key.ReturnUrl url

pub record SaysAgreements (document : Members) (a : AgreedValues) : Type 0 where
  pub domain : HasText document key.Domain a.domain
  pub return_url : SaysReturnUrl document a.return_url
  pub organizations : HasEntriesAt SaysOrganization document key.Organization a.organizations
  pub partners : HasEntriesAt SaysPartner document key.Partner a.partners

-- The text has the agreements: its document says them, and they may be agreed.
pub record IsAgreement (text : List ℕ) (a : AgreedValues) : Type 0 where
  pub document : Members
  pub parsed : parse_document text ≡ Some document
  pub says : SaysAgreements document a
  pub are : AreAgreements a

-- ---- who is a member

-- the organization of a name
abbrev pub organization_of : List ℕ → List Organization → Option Organization
organization_of name organizations = find (λ o. bytes_eq o.name name) organizations

-- the partner of a name
abbrev pub partner_named : List ℕ → List Partner → Option Partner
partner_named name partners = find (λ p. bytes_eq p.name name) partners

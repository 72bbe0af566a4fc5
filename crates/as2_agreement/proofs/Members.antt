-- An organization and a partner are read exactly where their entry says them.
use Rattle.std.proofs.Common.{◌≡◌, ℕ, false, List, [], ◌++◌, map, Ok, refl, subst}
use Rattle.std.specs.List.{list_any}
use Rattle.std.specs.Str.{bytes_eq}
use Rattle.std.proofs.lemmas.List.{append-nil}
use Rattle.toml.specs.Data.{table, Members, as_table}
use Rattle.as2_names.specs.Names.{IsName}
use Rattle.as2_agreement.specs.declared.key.Key.TheVariants as key
use Rattle.as2_agreement.specs.declared.partner.Organization.{Organization}
use Rattle.as2_agreement.specs.declared.partner.Partner.{Partner}
use Rattle.as2_agreement.specs.Agreements.{names}
use Rattle.as2_agreement.specs.Partners.{SaysOrganization, SaysPartner, IsPartner, tries_limit, seconds_limit}
use Rattle.as2_agreement.specs.Reading.{of_kind, agreed_name, url, agreed_receipt, agreed_digest, content_type, count_of, organization, partner}
use Rattle.as2_agreement.proofs.Each.{EachRead, Again}
use Rattle.as2_agreement.proofs.Keyed.{same_ok, bound, of_kind_ok, as_table_ok, name_ok, name_again, url_ok, url_again, receipt_ok, receipt_again, digest_ok, digest_again, content_type_ok, content_type_in_again, count_ok, count_again}

abbrev pub organization_name : Organization → List ℕ
organization_name o = o.name

abbrev pub partner_name : Partner → List ℕ
partner_name p = p.name

abbrev pub IsOrganization : Organization → Type 0
IsOrganization o = IsName o.name

-- without partners, the names are those of the organizations
pub names_alone : (os : List Organization) → names os [] ≡ [] ++ map organization_name os
names_alone os = append-nil (map organization_name os)

pub organization_reads : EachRead organization SaysOrganization IsOrganization organization_name []
organization_reads before d o e =
    let (entry, kind, read) = bound (of_kind key.Organization (as_table d)) _ o e in
    let (n, named, made) = bound (agreed_name (names before []) entry) _ o read in
    let h = name_ok (names before []) entry n named in
    subst (λ (o : Organization). ((entry : Members) × (d ≡ table entry) × SaysOrganization entry o) × IsOrganization o
    × (list_any (bytes_eq o.name) ([] ++ map organization_name before) ≡ false))
    (same_ok (record { name = n }) o made) (
      (entry, as_table_ok d entry (of_kind_ok key.Organization (as_table d) entry kind), h.0),
      h.1,
      subst (λ (l : List (List ℕ)). list_any (bytes_eq n) l ≡ false) (names_alone before) h.2,
    )

pub organization_again : Again organization SaysOrganization IsOrganization organization_name []
organization_again before entry o says good absent =
    let named : agreed_name (names before []) entry ≡ Ok o.name = name_again (names before []) entry o.name says good (rw (names_alone before) absent) in
    rw named refl

module _ (os : List Organization) where
  pub partner_reads : EachRead (partner os) SaysPartner IsPartner partner_name (map organization_name os)
  partner_reads before d p e =
      let (entry, kind, r0) = bound (of_kind key.Partner (as_table d)) _ p e in
      let (n, named, r1) = bound (agreed_name (names os before) entry) _ p r0 in
      let (u, at_url, r2) = bound (url entry) _ p r1 in
      let (r, at_receipt, r3) = bound (agreed_receipt entry) _ p r2 in
      let (a, at_digest, r4) = bound (agreed_digest entry) _ p r3 in
      let (c, at_type, r5) = bound (content_type entry) _ p r4 in
      let (t, at_tries, r6) = bound (count_of key.MaxTries tries_limit entry) _ p r5 in
      let (s, at_retry, r7) = bound (count_of key.RetrySeconds seconds_limit entry) _ p r6 in
      let (o, at_overdue, r8) = bound (count_of key.OverdueSeconds seconds_limit entry) _ p r7 in
      let made : record {
        name = n;
        url = u;
        receipt = r;
        digest = a;
        content_type = c;
        max_tries = t;
        retry_seconds = s;
        overdue_seconds = o;
      } ≡ p = same_ok _ p r8 in
      let h = name_ok (names os before) entry n named in
      let hu = url_ok entry u at_url in
      let hc = content_type_ok entry c at_type in
      let ht = count_ok key.MaxTries tries_limit entry t at_tries in
      let hs = count_ok key.RetrySeconds seconds_limit entry s at_retry in
      let ho = count_ok key.OverdueSeconds seconds_limit entry o at_overdue in
      subst (λ (p : Partner). ((entry : Members) × (d ≡ table entry) × SaysPartner entry p) × IsPartner p
      × (list_any (bytes_eq p.name) (names os before) ≡ false)) made (
        (
          entry,
          as_table_ok d entry (of_kind_ok key.Partner (as_table d) entry kind),
          record {
            name = h.0;
            url = hu.0;
            receipt = receipt_ok entry r at_receipt;
            digest = digest_ok entry a at_digest;
            content_type = hc.0;
            max_tries = ht.0;
            retry_seconds = hs.0;
            overdue_seconds = ho.0;
          },
        ),
        record { name = h.1; url = hu.1; content_type = hc.1; max_tries = ht.1; retry_seconds = hs.1; overdue_seconds = ho.1 },
        h.2,
      )

  pub partner_again : Again (partner os) SaysPartner IsPartner partner_name (map organization_name os)
  partner_again before entry p says good absent =
      rw (
        name_again (names os before) entry p.name says.name good.name absent,
        url_again entry p.url says.url good.url,
        receipt_again entry p.receipt says.receipt,
        digest_again entry p.digest says.digest,
        content_type_in_again entry p.content_type says.content_type good.content_type,
        count_again key.MaxTries tries_limit entry p.max_tries says.max_tries good.max_tries,
        count_again key.RetrySeconds seconds_limit entry p.retry_seconds says.retry_seconds good.retry_seconds,
        count_again key.OverdueSeconds seconds_limit entry p.overdue_seconds says.overdue_seconds good.overdue_seconds,
      ) refl

-- The terms of organizations and partners, key by key (names: RFC 4130, section 6.2; how receipts are asked for: section 7.3).
use Rattle.std.specs.Prelude.{ℕ, Bool, true, false, List, codes}
use Rattle.toml.specs.Data.{Members}
use Rattle.as2_names.specs.Names.{IsName}
use Rattle.as2_mic.specs.Algs.{alg_name}
use Rattle.as2_agreement.specs.declared.key.Key.TheVariants as key
use Rattle.as2_agreement.specs.declared.partner.Asked.{Asked}
use Rattle.as2_agreement.specs.declared.partner.Asked.TheVariants.{NoReceipt, Sync, Async}
use Rattle.as2_agreement.specs.declared.partner.Organization.{Organization}
use Rattle.as2_agreement.specs.declared.partner.Partner.{Partner}
use Rattle.as2_agreement.specs.Values.{HasText, HasNumber, IsAddress, IsContentType, IsCount}

-- the word for the way in which receipts are asked for
abbrev pub asked_word : Asked → List ℕ
asked_word NoReceipt = codes "none"
asked_word Sync = codes "sync"
asked_word Async = codes "async"

-- receipts come later, by a request of their own
abbrev pub asks_async : Asked → Bool
asks_async NoReceipt = false
asks_async Sync = false
asks_async Async = true

-- the most tries of a document
abbrev pub tries_limit : ℕ
tries_limit = 99

-- the most seconds of a span: 365 days
abbrev pub seconds_limit : ℕ
seconds_limit = 31536000

-- the table is the entry of the organization
abbrev pub SaysOrganization : Members → Organization → Type 0
SaysOrganization entry o = HasText entry key.Name o.name

-- the table is the entry of the partner
pub record SaysPartner (entry : Members) (p : Partner) : Type 0 where
  pub name : HasText entry key.Name p.name
  pub url : HasText entry key.Url p.url
  pub receipt : HasText entry key.Receipt (asked_word p.receipt)
  pub digest : HasText entry key.Digest (alg_name p.digest)
  pub content_type : HasText entry key.ContentType p.content_type
  pub max_tries : HasNumber entry key.MaxTries p.max_tries
  pub retry_seconds : HasNumber entry key.RetrySeconds p.retry_seconds
  pub overdue_seconds : HasNumber entry key.OverdueSeconds p.overdue_seconds

-- terms that may be agreed with a partner
pub record IsPartner (p : Partner) : Type 0 where
  pub name : IsName p.name
  pub url : IsAddress p.url
  pub content_type : IsContentType p.content_type
  pub max_tries : IsCount tries_limit p.max_tries
  pub retry_seconds : IsCount seconds_limit p.retry_seconds
  pub overdue_seconds : IsCount seconds_limit p.overdue_seconds

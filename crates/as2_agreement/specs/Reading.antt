-- The agreements that a text has, or the first fault in the order of the keys.
use Rattle.std.specs.Prelude.{◌≡◌, ℕ, zero, suc, ◌⊎◌, ◌&&◌, nat_le, List, [], ◌∷◌, ◌++◌, codes, is_none, if◌then◌else◌, ℤ, pos, negsuc, Option, Some, None, Result, Ok, Err}
use Rattle.std.specs.List.{list_any}
use Rattle.std.specs.Str.{bytes_eq}
use Rattle.toml.specs.Data.{Data, Items, no_items, item, Members, as_str, as_integer, as_array, as_table}
use Rattle.toml.specs.Parse.{parse_document}
use Rattle.as2_names.specs.Domains.{domain_of}
use Rattle.as2_names.specs.Names.{plain}
use Rattle.as2_names.specs.declared.name.NameFault.{NameFault}
use Rattle.as2_mic.specs.declared.alg.Alg.{Alg}
use Rattle.as2_mic.specs.declared.alg.Alg.TheVariants as alg
use Rattle.as2_agreement.specs.declared.fault.AgreementFault.{AgreementFault}
use Rattle.as2_agreement.specs.declared.fault.AgreementFault.TheVariants as fault
use Rattle.as2_agreement.specs.declared.key.Key.{Key}
use Rattle.as2_agreement.specs.declared.key.Key.TheVariants as key
use Rattle.as2_agreement.specs.declared.partner.Asked.{Asked}
use Rattle.as2_agreement.specs.declared.partner.Asked.TheVariants as asked
use Rattle.as2_agreement.specs.declared.partner.Organization.{Organization}
use Rattle.as2_agreement.specs.declared.partner.Partner.{Partner}
use Rattle.as2_agreement.specs.Agreements.{AgreedValues, names, organizations_limit, partners_limit, wants_return}
use Rattle.as2_agreement.specs.Partners.{seconds_limit, tries_limit}
use Rattle.as2_agreement.specs.Values.{value_at, is_address, is_content_type}

-- a value, or the first fault
abbrev pub OrFirstFault : Type 0 → Type 0
OrFirstFault A = Result A AgreementFault

-- what is read next, where there is no fault yet
infixl 10 ◌>>=◌
abbrev pub ◌>>=◌ : {A B : Type 0} → OrFirstFault A → (A → OrFirstFault B) → OrFirstFault B
Ok value >>= next = next value
Err e >>= next = Err e

-- ---- a value of a key

-- a key that must be there
abbrev pub present : Key → Option Data → OrFirstFault Data
present key None = Err (fault.Missing key)
present key (Some value) = Ok value

-- a value of the kind that the key wants
abbrev pub of_kind : {A : Type 0} → Key → Option A → OrFirstFault A
of_kind key None = Err (fault.WrongKind key)
of_kind key (Some value) = Ok value

abbrev pub text : Key → Members → OrFirstFault (List ℕ)
text key table = present key (value_at key table) >>= (λ value. of_kind key (as_str value))

abbrev pub agreed_address : Key → List ℕ → OrFirstFault (List ℕ)
agreed_address key text = if is_address text then Ok text else Err (fault.BadUrl key)

-- a number from 1 to the most
abbrev pub count_in : Key → ℕ → ℤ → OrFirstFault ℕ
count_in key most (pos n) = if nat_le 1 n && nat_le n most then Ok n else Err (fault.OutOfRange key)
count_in key most (negsuc n) = Err (fault.OutOfRange key)

abbrev pub count_of : Key → ℕ → Members → OrFirstFault ℕ
count_of key most table = present key (value_at key table) >>= (λ value. of_kind key (as_integer value)) >>= count_in key most

-- ---- an organization, a partner

abbrev pub readable_name : Result (List ℕ) NameFault → OrFirstFault (List ℕ)
readable_name (Ok name) = Ok name
readable_name (Err e) = Err fault.BadName

-- a name that none before has
abbrev pub free : List (List ℕ) → List ℕ → OrFirstFault (List ℕ)
free taken name = if list_any (bytes_eq name) taken then Err fault.NameTwice else Ok name

abbrev pub agreed_name : List (List ℕ) → Members → OrFirstFault (List ℕ)
agreed_name taken entry = text key.Name entry >>= (λ text. readable_name (plain text)) >>= free taken

abbrev pub url : Members → OrFirstFault (List ℕ)
url entry = text key.Url entry >>= agreed_address key.Url

abbrev pub asked_named : List ℕ → Option Asked
asked_named word =
    if bytes_eq word (codes "none") then Some asked.NoReceipt
    else if bytes_eq word (codes "sync") then Some asked.Sync
    else if bytes_eq word (codes "async") then Some asked.Async
    else None

abbrev pub agreed_receipt : Members → OrFirstFault Asked
agreed_receipt entry = text key.Receipt entry >>= (λ word. of_kind key.Receipt (asked_named word))

abbrev pub digest_named : List ℕ → Option Alg
digest_named word =
    if bytes_eq word (codes "sha1") then Some alg.Sha1
    else if bytes_eq word (codes "md5") then Some alg.Md5
    else if bytes_eq word (codes "sha-256") then Some alg.Sha256
    else None

abbrev pub agreed_digest : Members → OrFirstFault Alg
agreed_digest entry = text key.Digest entry >>= (λ word. of_kind key.Digest (digest_named word))

abbrev pub content_type_in : List ℕ → OrFirstFault (List ℕ)
content_type_in text = if is_content_type text then Ok text else Err (fault.WrongKind key.ContentType)

abbrev pub content_type : Members → OrFirstFault (List ℕ)
content_type entry = text key.ContentType entry >>= content_type_in

abbrev pub organization : List Organization → Data → OrFirstFault Organization
organization before value =
    of_kind key.Organization (as_table value) >>= (λ entry.
    agreed_name (names before []) entry >>= (λ name.
    Ok (record { name = name })))

abbrev pub partner : List Organization → List Partner → Data → OrFirstFault Partner
partner organizations before value =
    of_kind key.Partner (as_table value) >>= (λ entry.
    agreed_name (names organizations before) entry >>= (λ name.
    url entry >>= (λ url.
    agreed_receipt entry >>= (λ receipt.
    agreed_digest entry >>= (λ digest.
    content_type entry >>= (λ content_type.
    count_of key.MaxTries tries_limit entry >>= (λ max_tries.
    count_of key.RetrySeconds seconds_limit entry >>= (λ retry_seconds.
    count_of key.OverdueSeconds seconds_limit entry >>= (λ overdue_seconds.
    Ok (record {
      name = name;
      url = url;
      receipt = receipt;
      digest = digest;
      content_type = content_type;
      max_tries = max_tries;
      retry_seconds = retry_seconds;
      overdue_seconds = overdue_seconds;
    }))))))))))

-- ---- a document

-- how many entries there are
abbrev pub items_len : Items → ℕ
items_len no_items = zero
items_len (item d entries) = suc (items_len entries)

-- the entries of an array, where there are not too many
abbrev pub few : ℕ → Items → OrFirstFault Items
few most entries = if nat_le (items_len entries) most then Ok entries else Err fault.TooMany

abbrev pub entries : Key → ℕ → Members → OrFirstFault Items
entries key most document = present key (value_at key document) >>= (λ value. of_kind key (as_array value)) >>= few most

-- the members of the entries, each read with those before it at hand
abbrev pub each : {X : Type 0} → (List X → Data → OrFirstFault X) → List X → Items → OrFirstFault (List X)
each one before no_items = Ok before
each one before (item d entries) = one before d >>= (λ x. each one (before ++ x ∷ []) entries)

abbrev pub domain : Members → OrFirstFault (List ℕ)
domain document = text key.Domain document >>= (λ text. of_kind key.Domain (domain_of text))

abbrev pub return_url_in : Option Data → OrFirstFault (Option (List ℕ))
return_url_in None = Ok None
return_url_in (Some value) =
    of_kind key.ReturnUrl (as_str value) >>= agreed_address key.ReturnUrl >>= (λ url. Ok (Some url))

abbrev pub organizations : Members → OrFirstFault (List Organization)
organizations document = entries key.Organization organizations_limit document >>= each organization []

abbrev pub partners : List Organization → Members → OrFirstFault (List Partner)
partners organizations document = entries key.Partner partners_limit document >>= each (partner organizations) []

-- receipts that come later need an address to come to
abbrev pub with_return_address : AgreedValues → OrFirstFault AgreedValues
with_return_address a = if wants_return a.partners && is_none a.return_url then Err fault.NoReturnUrl else Ok a

abbrev pub agreements : Members → OrFirstFault AgreedValues
agreements document =
    domain document >>= (λ domain.
    return_url_in (value_at key.ReturnUrl document) >>= (λ return_url.
    organizations document >>= (λ organizations.
    partners organizations document >>= (λ partners.
    with_return_address (record { domain = domain; return_url = return_url; organizations = organizations; partners = partners })))))

-- the document that a text is
abbrev pub document_in : Option Members → OrFirstFault Members
document_in None = Err fault.NotToml
document_in (Some document) = Ok document

-- the agreements that a text has, or the first fault
abbrev pub agreements_reading : List ℕ → OrFirstFault AgreedValues
agreements_reading text = document_in (parse_document text) >>= agreements

-- ---- answers

-- that answer, seen so; for a result that holds a reference
abbrev pub IsSeenAs : {A B : Type 0} → (A → B) → OrFirstFault A → OrFirstFault B → Type 0
IsSeenAs view (Ok value) answer = answer ≡ Ok (view value)
IsSeenAs view (Err e) answer = answer ≡ Err e

-- that answer, seen so, but memory may be wanting in its place
abbrev pub GivesOrMemory : {A B : Type 0} → (A → B) → OrFirstFault A → OrFirstFault B → Type 0
GivesOrMemory view (Ok value) answer = answer ≡ Ok (view value)
GivesOrMemory view (Err e) answer = (answer ≡ Err e) ⊎ (e ≡ fault.Memory)

-- that answer, but memory may be wanting in its place
abbrev pub OrMemory : {A : Type 0} → OrFirstFault A → OrFirstFault A → Type 0
OrMemory result answer = (result ≡ answer) ⊎ (result ≡ Err fault.Memory)

-- What the sender of a message asks of its receipt (RFC 8098, section 2; RFC 4130, section 7.3).
use Rattle.std.specs.Prelude.{◌≡◌, ℕ, ◌⊎◌, Bool, true, false, ◌||◌, List, [], ◌∷◌, codes, if◌then◌else◌, Option, Some, None, Result, Ok, Err}
use Rattle.std.specs.List.{list_any}
use Rattle.as2_names.specs.Heads.{values}
use Rattle.as2_text.specs.Addresses.{IsUrl, url_of}
use Rattle.as2_text.specs.ReceiptOptions.{ReceiptOption, IsOptions, are_options, digests_of, digests_required, first_named, is_other_required, micalg, options_in}
use Rattle.as2_text.specs.declared.receipt_ask.AskFault.{AskFault}
use Rattle.as2_text.specs.declared.receipt_ask.AskFault.TheVariants as fault
use Rattle.as2_text.specs.declared.receipt_ask.How.{How}
use Rattle.as2_text.specs.declared.receipt_ask.How.TheVariants as how
use Rattle.as2_text.specs.declared.receipt_ask.ReceiptAsk.{ReceiptAsk}

-- a head, as its fields
abbrev pub Fields : Type 0
Fields = List (List ℕ × List ℕ)

-- the values of the three fields of a request
abbrev pub notification_to : Fields → List (List ℕ)
notification_to head = values (codes "disposition-notification-to") head

abbrev pub notification_options : Fields → List (List ℕ)
notification_options head = values (codes "disposition-notification-options") head

abbrev pub delivery_option : Fields → List (List ℕ)
delivery_option head = values (codes "receipt-delivery-option") head

-- a request
pub record Request : Type 0 where
  pub how : How
  pub digests : List ℕ
  pub digests_required : Bool
  pub other_required : Bool

-- nothing is asked
abbrev pub nothing_asked : Request
nothing_asked = record { how = how.NoReceipt; digests = []; digests_required = false; other_required = false }

-- that is asked of a receipt that comes so
abbrev pub asked_by : How → List ReceiptOption → Request
asked_by delivery options =
    record {
      how = delivery;
      digests = digests_of (first_named micalg options);
      digests_required = digests_required (first_named micalg options);
      other_required = list_any is_other_required options;
    }

-- nothing stands there, or one text, which is this
abbrev pub IsGiven : List (List ℕ) → List ℕ → Type 0
IsGiven vs text = ((vs ≡ []) × (text ≡ [])) ⊎ (vs ≡ text ∷ [])

-- where the receipt is to go: nothing says in the answer, an address says by a post to it
abbrev pub SaysHow : List (List ℕ) → How → Type 0
SaysHow vs delivery =
    ((vs ≡ []) × (delivery ≡ how.Sync))
    ⊎ ((text : List ℕ) × (url : List ℕ × List ℕ) × (vs ≡ text ∷ []) × IsUrl text url × (delivery ≡ how.Async url))

-- The head asks for a receipt: one `Disposition-Notification-To`, and at most one of each of the other two fields,
-- which are options and an address.
pub record AsksFor (head : Fields) (request : Request) : Type 0 where
  pub address : List ℕ
  pub options_text : List ℕ
  pub options : List ReceiptOption
  pub delivery : How
  pub asked : notification_to head ≡ address ∷ []
  pub given : IsGiven (notification_options head) options_text
  pub says : IsOptions options_text options
  pub how : SaysHow (delivery_option head) delivery
  pub request_is : request ≡ asked_by delivery options

-- The head's request: nothing where there is no `Disposition-Notification-To`, whatever else stands there.
abbrev pub Asks : Fields → Request → Type 0
Asks head request = ((notification_to head ≡ []) × (request ≡ nothing_asked)) ⊎ AsksFor head request

-- ---- reading

-- two or more
abbrev pub is_given_twice : List (List ℕ) → Bool
is_given_twice [] = false
is_given_twice (first ∷ []) = false
is_given_twice (first ∷ second ∷ rest) = true

-- a field stands there twice
abbrev pub has_twice : Fields → Bool
has_twice head = is_given_twice (notification_to head) || is_given_twice (notification_options head) || is_given_twice (delivery_option head)

-- the first of the texts; nothing where there are none
abbrev pub text_of : List (List ℕ) → List ℕ
text_of [] = []
text_of (text ∷ rest) = text

-- the request of these options and this address
abbrev pub with_address : Option (List ℕ × List ℕ) → List ReceiptOption → Result Request AskFault
with_address None options = Err fault.UrlUnreadable
with_address (Some url) options = Ok (asked_by (how.Async url) options)

-- the request of these options and these addresses
abbrev pub request_to_addresses : List (List ℕ) → List ReceiptOption → Result Request AskFault
request_to_addresses [] options = Ok (asked_by how.Sync options)
request_to_addresses (text ∷ rest) options = with_address (url_of text) options

-- the request of a head with one `Disposition-Notification-To`, or its first fault
abbrev pub request_in_head : Fields → Result Request AskFault
request_in_head head =
    if has_twice head then Err fault.Twice
    else if are_options (text_of (notification_options head)) then request_to_addresses (delivery_option head) (options_in (text_of (notification_options head)))
    else Err fault.OptionsUnreadable

abbrev pub asked_where : List (List ℕ) → Fields → Result Request AskFault
asked_where [] head = Ok nothing_asked
asked_where (address ∷ rest) head = request_in_head head

-- the request of a head, or its first fault
abbrev pub request_reading : Fields → Result Request AskFault
request_reading head = asked_where (notification_to head) head

-- ---- what the code hands out

-- the request that it holds
abbrev pub request_of : ReceiptAsk → Request
request_of ask =
    record {
      how = ask.how;
      digests = ask.digests.now;
      digests_required = ask.digests_required;
      other_required = ask.other_required;
    }

abbrev pub request_result : Result ReceiptAsk AskFault → Result Request AskFault
request_result (Ok ask) = Ok (request_of ask)
request_result (Err e) = Err e

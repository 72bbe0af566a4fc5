-- What is read of a head is asked, and what is asked is read.
use Rattle.std.proofs.Common.{◌≡◌, ℕ, Bool, true, false, cond, List, [], ◌∷◌, Option, Some, None, Result, Ok, Err, Bor, refl, sym, ap, subst, ◌∙◌, inl, inr}
use Rattle.std.specs.Prelude.{IfOk, ◌||◌, ◌⊎◌}
use Rattle.std.proofs.lemmas.Bool.{or_parts, or_from, true≢false}
use Rattle.as2_names.specs.Heads.{IsOnceOf}
use Rattle.as2_names.specs.declared.head.Once.{Once}
use Rattle.as2_names.specs.declared.head.Once.TheVariants as once
use Rattle.as2_text.specs.Addresses.{IsUrl, url_of}
use Rattle.as2_text.proofs.Addresses.{url_found, url_again}
use Rattle.as2_text.specs.ReceiptOptions.{ReceiptOption, are_options, options_in}
use Rattle.as2_text.proofs.ReceiptOptions.{options_found, options_again}
use Rattle.as2_text.specs.declared.receipt_ask.AskFault.{AskFault}
use Rattle.as2_text.specs.declared.receipt_ask.AskFault.TheVariants as fault
use Rattle.as2_text.specs.declared.receipt_ask.How.{How}
use Rattle.as2_text.specs.declared.receipt_ask.How.TheVariants as how
use Rattle.as2_text.specs.declared.receipt_ask.ReceiptAsk.{ReceiptAsk}
use Rattle.as2_text.specs.ReceiptRequests.{Fields, Request, IsGiven, SaysHow, AsksFor, Asks, request_in_head, asked_by, asked_where, request_to_addresses, delivery_option, has_twice, is_given_twice, notification_options, notification_to, request_reading, request_of, request_result, text_of, with_address}

-- ---- the delivery option

pub delivered_one : (told : Once) (text : Bor (List ℕ)) (vs : List (List ℕ)) (options : List ReceiptOption) → told ≡ once.One text → IsOnceOf told vs
    → with_address (url_of text.now) options ≡ request_to_addresses vs options
delivered_one told text vs options e t = ap (λ (x : List (List ℕ)). request_to_addresses x options) (sym (subst (λ (o : Once). IsOnceOf o vs) e t))

-- ---- a field that stands there

pub asked_told : (told : Once) (vs : List (List ℕ)) (head : Fields) → IsOnceOf told vs → ((x : Bor (List ℕ)) × (told ≡ once.One x)) ⊎ (told ≡ once.Twice)
    → request_in_head head ≡ asked_where vs head
asked_told told vs head t (inl e) = ap (λ (x : List (List ℕ)). asked_where x head) (sym (subst (λ (o : Once). IsOnceOf o vs) e.1 t))
asked_told told vs head t (inr e) =
    let more = subst (λ (o : Once). IsOnceOf o vs) e t in
    ap (λ (x : List (List ℕ)). asked_where x head) (sym more.3)

-- ---- no field stands there twice

record AreOnce (head : Fields) : Type 0 where
  pub to : is_given_twice (notification_to head) ≡ false
  pub options : is_given_twice (notification_options head) ≡ false
  pub delivery : is_given_twice (delivery_option head) ≡ false

are_once : (head : Fields) → has_twice head ≡ false → AreOnce head
are_once head h =
    let outer = or_parts (is_given_twice (notification_to head) || is_given_twice (notification_options head)) (is_given_twice (delivery_option head)) h in
    let inner = or_parts (is_given_twice (notification_to head)) (is_given_twice (notification_options head)) outer.0 in
    record { to = inner.0; options = inner.1; delivery = outer.1 }

-- ---- what is read is asked

with_found : (text : List ℕ) (r : Option (List ℕ × List ℕ)) (options : List ReceiptOption) (request : Request) → url_of text ≡ r
    → with_address r options ≡ Ok request
    → (url : List ℕ × List ℕ) × IsUrl text url × (request ≡ asked_by (how.Async url) options)
with_found text None options request u e = absurd cc
with_found text (Some url) options request u e = (url, url_found text url u, cc)

-- how, and that the request is that
record IsRequestOf (vs : List (List ℕ)) (options : List ReceiptOption) (request : Request) : Type 0 where
  pub delivery : How
  pub says : SaysHow vs delivery
  pub request_is : request ≡ asked_by delivery options

delivered_found : (vs : List (List ℕ)) (options : List ReceiptOption) (request : Request) → is_given_twice vs ≡ false
    → request_to_addresses vs options ≡ Ok request → IsRequestOf vs options request
delivered_found [] options request one e = record { delivery = how.Sync; says = inl (refl, refl); request_is = cc }
delivered_found (text ∷ []) options request one e =
    let f = with_found text (url_of text) options request refl e in
    record { delivery = how.Async f.0; says = inr (text, f.0, refl, f.1, refl); request_is = f.2 }
delivered_found (text ∷ second ∷ rest) options request one e = absurd cc

given_found : (vs : List (List ℕ)) → is_given_twice vs ≡ false → IsGiven vs (text_of vs)
given_found [] one = inl (refl, refl)
given_found (text ∷ []) one = inr refl
given_found (text ∷ second ∷ rest) one = absurd cc

guarded : (t : Bool) (e : AskFault) (r : Result Request AskFault) (request : Request) → cond t r (Err e) ≡ Ok request → (t ≡ true) × (r ≡ Ok request)
guarded true e r request h = (refl, h)
guarded false e r request h = absurd cc

unless : (t : Bool) (e : AskFault) (r : Result Request AskFault) (request : Request) → cond t (Err e) r ≡ Ok request → (t ≡ false) × (r ≡ Ok request)
unless true e r request h = absurd cc
unless false e r request h = (refl, h)

asked_found : (head : Fields) (address : List ℕ) (request : Request) → notification_to head ≡ address ∷ [] → request_in_head head ≡ Ok request
    → AsksFor head request
asked_found head address request to e =
    let text : List ℕ = text_of (notification_options head) in
    let outer = unless (has_twice head) fault.Twice _ request e in
    let inner = guarded (are_options text) fault.OptionsUnreadable (request_to_addresses (delivery_option head) (options_in text)) request outer.1 in
    let single = are_once head outer.0 in
    let comes = delivered_found (delivery_option head) (options_in text) request single.delivery inner.1 in
    record {
      address = address;
      options_text = text;
      options = options_in text;
      delivery = comes.delivery;
      asked = to;
      given = given_found (notification_options head) single.options;
      says = options_found text inner.0;
      how = comes.says;
      request_is = comes.request_is;
    }

where_found : (head : Fields) (vs : List (List ℕ)) (request : Request) → notification_to head ≡ vs → asked_where vs head ≡ Ok request → Asks head request
where_found head [] request to e = inl (to, cc)
where_found head (address ∷ []) request to e = inr (asked_found head address request to e)
where_found head (address ∷ second ∷ rest) request to e =
    let outer = unless (has_twice head) fault.Twice _ request e in
    absurd (true≢false (ap is_given_twice (sym to) ∙ (are_once head outer.0).to))

pub asks_found : (head : Fields) (request : Request) → request_reading head ≡ Ok request → Asks head request
asks_found head request e = where_found head (notification_to head) request refl e

-- ---- what is asked is read

given_again : (vs : List (List ℕ)) (text : List ℕ) → IsGiven vs text → (is_given_twice vs ≡ false) × (text_of vs ≡ text)
given_again vs text (inl g) = (ap is_given_twice g.0, ap text_of g.0 ∙ sym g.1)
given_again vs text (inr g) = (ap is_given_twice g, ap text_of g)

delivered_again : (vs : List (List ℕ)) (delivery : How) (options : List ReceiptOption) → SaysHow vs delivery → (is_given_twice vs ≡ false)
    × (request_to_addresses vs options ≡ Ok (asked_by delivery options))
delivered_again vs delivery options (inl s) =
    (ap is_given_twice s.0, ap (λ (x : List (List ℕ)). request_to_addresses x options) s.0 ∙ ap (λ (h : How). Ok (asked_by h options)) (sym s.1))
delivered_again vs delivery options (inr s) = (
  ap is_given_twice s.2,
  ap (λ (x : List (List ℕ)). request_to_addresses x options) s.2
      ∙ ap (λ (r : Option (List ℕ × List ℕ)). with_address r options) (url_again s.0 s.1 s.3)
      ∙ ap (λ (h : How). Ok (asked_by h options)) (sym s.4),
)

asked_again : (head : Fields) (request : Request) → AsksFor head request → request_reading head ≡ Ok request
asked_again head request a =
    let given = given_again (notification_options head) a.options_text a.given in
    let comes = delivered_again (delivery_option head) a.delivery a.options a.how in
    let read = options_again a.options_text a.options a.says in
    let single : has_twice head ≡ false =
    or_from (is_given_twice (notification_to head) || is_given_twice (notification_options head)) (is_given_twice (delivery_option head))
    (or_from (is_given_twice (notification_to head)) (is_given_twice (notification_options head)) (ap is_given_twice a.asked) given.0) comes.0 in
    let right : request_in_head head ≡ Ok request = rw (single, given.1, read.readable, read.gives, comes.1) (ap (λ (r : Request). Ok r) (sym a.request_is)) in
    ap (λ (vs : List (List ℕ)). asked_where vs head) a.asked ∙ right

pub asks_again : (head : Fields) (request : Request) → Asks head request → request_reading head ≡ Ok request
asks_again head request (inl n) = ap (λ (vs : List (List ℕ)). asked_where vs head) n.0 ∙ ap (λ (r : Request). Ok r) (sym n.1)
asks_again head request (inr a) = asked_again head request a

-- ---- the same of what the code hands out

pub shown_found : (head : Fields) (result : Result ReceiptAsk AskFault) → request_result result ≡ request_reading head
    → IfOk result (λ ask. Asks head (request_of ask))
shown_found head (Ok ask) e = asks_found head (request_of ask) (sym e)
shown_found head (Err f) e = tt

-- The address that a head asks its receipt to be sent to.
use Rattle.std.proofs.Common.{◌≡◌, ◌∙◌, ◌⊎◌, inl, inr, ℕ, List, [], ◌∷◌, Some, Ok, is_some, IsTrue, true, false, refl, sym, ap, subst}
use Rattle.as2_text.specs.Addresses.{url_of}
use Rattle.as2_text.specs.ReceiptRequests.{AsksFor, Fields, Request, SaysHow, asked_by, delivery_option, is_given_twice, nothing_asked, request_reading, text_of}
use Rattle.as2_text.specs.declared.receipt_ask.How.{How}
use Rattle.as2_text.specs.declared.receipt_ask.How.TheVariants as how
use Rattle.as2_text.proofs.Addresses.{url_again}
use Rattle.as2_text.proofs.ReceiptRequests.{asks_found}

says_once : (vs : List (List ℕ)) (delivery : How) (url : List ℕ × List ℕ) → SaysHow vs delivery → delivery ≡ how.Async url → (is_given_twice vs ≡ false)
    × IsTrue (is_some (url_of (text_of vs)))
says_once vs delivery url (inl says) is = absurd cc
says_once vs delivery url (inr says) is = (
  ap is_given_twice says.2,
  subst (λ l. IsTrue (is_some (url_of (text_of l)))) (sym says.2) (subst (λ o. IsTrue (is_some o)) (sym (url_again says.0 says.1 says.3)) refl),
)

-- it is given once, and is one
pub asked_address : (head : Fields) (request : Request) (url : List ℕ × List ℕ) → request_reading head ≡ Ok request → request.how ≡ how.Async url
    → (is_given_twice (delivery_option head) ≡ false) × IsTrue (is_some (url_of (text_of (delivery_option head))))
asked_address head request url is later = elim (asks_found head request is) [
  | inl none ↦ absurd (let none_asked : nothing_asked.how ≡ how.Async url = sym (ap (λ r. r.how) none.1) ∙ later in cc)
  | inr it ↦ says_once (delivery_option head) it.delivery url it.how (sym (ap (λ r. r.how) it.request_is) ∙ later)
]

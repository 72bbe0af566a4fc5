-- What is answered to a document that stands is never that its identifier is another's.
use Rattle.std.proofs.Common.{◌≡◌, ◌==◌, ◌∙◌, ℕ, Bool, true, false, if◌then◌else◌, Result, Ok, Err, IfOk, refl, sym, ap}
use Rattle.as2_exchange.specs.Agreement.{Agreements}
use Rattle.as2_exchange.specs.Lines.{http, refusal}
use Rattle.as2_exchange.specs.Readings.{is_processed}
use Rattle.as2_exchange.specs.declared.inbox.ReceiptDelivery.{ReceiptDelivery}
use Rattle.as2_exchange.specs.declared.inbox.ReceiptDelivery.TheVariants.{NoReceipt, Sync, Async}
use Rattle.as2_mdn.specs.declared.outcome.Outcome.{Outcome}
use Rattle.as2_exchange.specs.Recording.{answer_to}
use Rattle.as2_exchange.specs.declared.answer.Answer.{Answer}
use Rattle.as2_exchange.specs.declared.answer.Answer.TheVariants.{Http}
use Rattle.as2_exchange.specs.declared.answer.HttpBody.TheVariants.{Nothing}
use Rattle.as2_exchange.specs.declared.answer.Line.TheVariants.{IdUsedBefore, NotProcessed}
use Rattle.as2_exchange.specs.declared.inbox.Posted.{Posted}

abbrev is_conflict : Answer → Bool
is_conflict (Http a) = a.status == 409
is_conflict other = false

untold : (processed : Bool) (outcome : Outcome) → is_conflict (if processed then http 200 Nothing else Http (refusal (NotProcessed outcome))) ≡ false
untold true outcome = refl
untold false outcome = refl

by_delivery : (A : Agreements) (n : ℕ) (p : Posted) (how : ReceiptDelivery) → p.how ≡ how → is_conflict (answer_to A n p) ≡ false
unfolding answer_to
by_delivery A n p Sync is = rw is refl
by_delivery A n p (Async url) is = rw is refl
by_delivery A n p NoReceipt is = rw is (untold (is_processed p.outcome) p.outcome)

pub no_conflict : {X : Type 0} (A : Agreements) (n : ℕ) (p : Posted) → answer_to A n p ≡ Http (refusal IdUsedBefore) → X
no_conflict A n p is = absurd (let no : false ≡ true = sym (by_delivery A n p p.how refl) ∙ ap is_conflict is in cc)

-- an answer is given where there is one
pub where_ok : {A E : Type 0} (r : Result A E) (P : A → Type 0) → ((a : A) → r ≡ Ok a → P a) → IfOk r P
where_ok (Ok a) P each = each a refl
where_ok (Err e) P each = tt

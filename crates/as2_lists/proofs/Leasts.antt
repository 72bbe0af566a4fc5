-- Where numbers are in order, the first that passes a test is the least that does.
use Rattle.std.proofs.Common.{◌≡◌, ℕ, Bool, true, false, cond, List, [], ◌∷◌, map, Option, Some, None, refl, sym, ap, ◌∙◌, arith}
use Rattle.std.specs.Prelude.{◌&&◌, nat_lt, nat_le, if◌then◌else◌, option_map}
use Rattle.std.specs.List.{IsDistinct, filter, find}
use Rattle.std.proofs.lemmas.Bool.Decides.{nat_tests}
use Rattle.as2_exchange.specs.State.{State}
use Rattle.as2_exchange.specs.Due.{due_documents, due_receipts, is_due_document, is_due_receipt, least, smaller}
use Rattle.as2_exchange.specs.declared.inbox.InEntry.{InEntry}
use Rattle.as2_exchange.specs.declared.outbox.OutEntry.{OutEntry}
use Rattle.as2_exchange.proofs.Finds.{all_found}
use Rattle.as2_records.specs.Due.{is_behind, numbers_behind}
use Rattle.as2_records.specs.Standing.{IsCounted}
use Rattle.as2_records.proofs.Behind.{those_behind}

smaller_of : (n k : ℕ) → nat_lt k n ≡ false → (if nat_le n k then n else k) ≡ n
smaller_of n k h = grind (arith, nat_tests)

smaller_first : {X : Type 0} (number : X → ℕ) (n : ℕ) (found : Option X) → ((x : X) → found ≡ Some x → nat_lt (number x) n ≡ false)
    → smaller n (option_map number found) ≡ n
smaller_first number n None h = refl
smaller_first number n (Some x) h = smaller_of n (number x) (h x refl)

least_of : {X : Type 0} (number : X → ℕ) (x : X) (b : Bool) (xs : List X) (found : Option X) → ((y : X) → found ≡ Some y → nat_lt (number y) (number x) ≡ false)
    → least (map number xs) ≡ option_map number found → least (map number (cond b (x ∷ xs) xs)) ≡ option_map number (cond b (Some x) found)
least_of number x true xs found h rest = ap Some (ap (smaller (number x)) rest ∙ smaller_first number (number x) found h)
least_of number x false xs found h rest = rest

pub first_is_least : {X : Type 0} (number : X → ℕ) (test : X → Bool) (xs : List X) → IsDistinct (λ a b. nat_lt b a) (map number xs)
    → least (map number (filter test xs)) ≡ option_map number (find test xs)
unfolding IsDistinct
first_is_least number test [] h = refl
first_is_least number test (x ∷ xs) h =
    least_of number x (test x) (filter test xs) (find test xs) (λ y found. all_found (λ k. nat_lt k (number x) ≡ false) number test xs y h.0 found)
    (first_is_least number test xs h.1)

pub least_due_receipt : (s : State) (m : ℕ) (b : Option ℕ) → IsCounted s
    → option_map (λ e. e.number) (find (λ e. is_due_receipt m e && is_behind b e.number) s.inbox) ≡ least (numbers_behind b (due_receipts s m))
least_due_receipt s m b counted =
    sym (first_is_least (λ (e : InEntry). e.number) (λ e. is_due_receipt m e && is_behind b e.number) s.inbox counted.receipts.1.in_order)
    ∙ ap least (those_behind (λ (e : InEntry). e.number) (is_due_receipt m) b s.inbox)

pub due_document : (s : State) (m : ℕ) (b : Option ℕ) → IsCounted s
    → option_map (λ d. d.number) (find (λ d. is_due_document m d && is_behind b d.number) s.outbox) ≡ least (numbers_behind b (due_documents s m))
due_document s m b counted =
    sym (first_is_least (λ (d : OutEntry). d.number) (λ d. is_due_document m d && is_behind b d.number) s.outbox counted.documents.1.in_order)
    ∙ ap least (those_behind (λ (d : OutEntry). d.number) (is_due_document m) b s.outbox)

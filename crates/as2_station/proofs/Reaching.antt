-- The next state that a write of the store reaches.
use Rattle.std.proofs.Common.{◌≡◌, ◌∙◌, ◌+◌, ◌≤◌, ◌==◌, ◌&&◌, List, nat_le, cond, arith, refl, ℕ, Some, None, true, false, ap, sym, subst}
use Rattle.std.proofs.lemmas.Bool.Decides.{nat_tests}
use Rattle.as2_mdn.specs.declared.detail.Detail.{Detail}
use Rattle.as2_exchange.specs.Agreement.{Agreements}
use Rattle.as2_exchange.specs.Invariants.{IsCounter, is_by_receipt}
use Rattle.as2_exchange.specs.Posts.{ReceivedReceipt, repeats}
use Rattle.as2_exchange.specs.Readings.{named_by}
use Rattle.as2_exchange.specs.Receipts.{bears}
use Rattle.as2_exchange.specs.State.{State, change_document, change_received, document, document_named, end_of_numbers, is_settled, origin_of, received_as}
use Rattle.as2_exchange.specs.Documents.{settle, settled_document}
use Rattle.as2_exchange.specs.Lines.{http, refusal}
use Rattle.as2_exchange.specs.Recording.{answer_to, first_entry, requeued_by_repeat, record_given}
use Rattle.as2_exchange.specs.declared.answer.Answer.TheVariants.{Http}
use Rattle.as2_exchange.specs.declared.answer.HttpBody.TheVariants.{Nothing}
use Rattle.as2_exchange.specs.declared.answer.Line.TheVariants.{IdUsedBefore}
use Rattle.as2_exchange.specs.declared.inbox.InEntry.{InEntry}
use Rattle.as2_exchange.specs.declared.inbox.Posted.{Posted}
use Rattle.as2_exchange.specs.declared.outbox.Evidence.{Evidence}
use Rattle.as2_exchange.specs.declared.outbox.OutEntry.{OutEntry}
use Rattle.as2_posts.specs.Answers.{is_requeued}
use Rattle.as2_records.specs.Adding.{state_with, with_received}
use Rattle.as2_records.specs.Standing.{IsCounted}
use Rattle.as2_records.specs.Requeuing.{requeued_in}
use Rattle.as2_exchange.specs.Documents.{settled_as}
use Rattle.as2_records.specs.Settling.{settled_in}
use Rattle.as2_station.proofs.Numbers.{changes_alike, found_number, left_alone, sent_anew}

settles_to : (s : State) (n : ℕ) (detail : Detail) (e : Evidence) (d : OutEntry) → is_by_receipt detail ≡ true → document s n ≡ Some d → is_settled d ≡ false
    → settled_in n detail e s ≡ Some (change_document s n (settled_as detail e))
settles_to s n detail e d by found unsettled = rw (found, unsettled, by) refl

-- a receipt settles the document that it is for
pub settles : (s t : State) (m : ℕ) (r : ReceivedReceipt) (d : OutEntry) (detail : Detail) (e : Evidence) → IsCounted s
    → document_named s (named_by r.receipt) ≡ Some d → (bears r d.organization d.partner d.id && d.begun) ≡ true
    → is_settled d ≡ false → is_by_receipt detail ≡ true → settled_as detail e d ≡ settled_document m r d → settled_in d.number detail e s ≡ Some t
    → Some (settle s m r) ≡ Some (http 200 Nothing, t)
unfolding settle
settles s t m r d detail e stands named this unsettled by same is =
    let apart = stands.documents.1.distinct in
    let number = found_number (λ (x : OutEntry). x.number) _ s.outbox d apart named in
    let left : Some (change_document s d.number (settled_as detail e)) ≡ Some t = sym (settles_to s d.number detail e d by number unsettled) ∙ is in
    let there : change_document s d.number (settled_as detail e) ≡ t = cc in
    let alike : change_document s d.number (settled_document m r) ≡ change_document s d.number (settled_as detail e) =
    ap (λ (ds : List OutEntry). record s { outbox = ds })
    (sym (changes_alike (λ (x : OutEntry). x.number) (settled_as detail e) (settled_document m r) d.number d s.outbox apart number same)) in
    rw (named, this, unsettled) (ap (λ (x : State). Some (http 200 Nothing, x)) (alike ∙ there))

-- a repeat queues the receipt of its entry again
pub requeues : (A : Agreements) (s t : State) (m : ℕ) (p : Posted) (e : InEntry) → IsCounted s → received_as s p ≡ Some e
    → repeats (origin_of s.version) e.number e.posted p ≡ true → is_requeued e ≡ true → requeued_in e.number m s ≡ Some t
    → record_given A s m p (Some e) ≡ Some (answer_to A e.number e.posted, t)
requeues A s t m p e stands found same queued is =
    let apart = stands.receipts.1.distinct in
    let number = found_number (λ (x : InEntry). x.number) _ s.inbox e apart found in
    let left : Some (change_received s e.number (requeued_by_repeat m)) ≡ Some t = ap Some (sym (sent_anew s m e apart number queued)) ∙ is in
    let there : change_received s e.number (requeued_by_repeat m) ≡ t = cc in
    rw same (ap (λ (x : State). Some (answer_to A e.number e.posted, x)) there)

-- or leaves it
pub stays : (A : Agreements) (s : State) (m : ℕ) (p : Posted) (e : InEntry) → IsCounted s → received_as s p ≡ Some e
    → repeats (origin_of s.version) e.number e.posted p ≡ true → is_requeued e ≡ false
    → record_given A s m p (Some e) ≡ Some (answer_to A e.number e.posted, s)
stays A s m p e stands found same left =
    let apart = stands.receipts.1.distinct in
    rw same (ap (λ (x : State). Some (answer_to A e.number e.posted, x))
    (left_alone s m e apart (found_number (λ (x : InEntry). x.number) _ s.inbox e apart found) left))

-- a document that isn't one clashes with it
pub clashes : (A : Agreements) (s : State) (m : ℕ) (p : Posted) (e : InEntry) → repeats (origin_of s.version) e.number e.posted p ≡ false
    → record_given A s m p (Some e) ≡ Some (Http (refusal IdUsedBefore), s)
clashes A s m p e other = rw other refl

-- the first entry under the next number
pub adds : (A : Agreements) (s t : State) (m n : ℕ) (p : Posted) → n ≡ s.next_in → state_with (first_entry n m p) s ≡ Some t → IsCounter t.next_in
    → record_given A s m p None ≡ Some (answer_to A n p, t)
adds A s t m n p next is counter =
    let sum : Some (with_received s (first_entry s.next_in m p)) ≡ Some t =
    ap (λ b. cond b (Some (with_received s (first_entry s.next_in m p))) None) (sym (itself s.next_in))
    ∙ (subst (λ k. state_with (first_entry k m p) s ≡ Some t) next is) in
    let there : with_received s (first_entry s.next_in m p) ≡ t = cc in
    let room : s.next_in + 1 ≤ end_of_numbers = subst (λ (x : State). x.next_in ≤ end_of_numbers) (sym there) counter.most in
    subst (λ k. record_given A s m p None ≡ Some (answer_to A k p, t)) (sym next)
    (rw (left_over s.next_in room) (ap (λ (x : State). Some (answer_to A s.next_in p, x)) there))
  where
    itself : (k : ℕ) → (k == k) ≡ true
    itself k = grind (arith, nat_tests)

    left_over : (k : ℕ) → k + 1 ≤ end_of_numbers → nat_le end_of_numbers k ≡ false
    left_over k less = grind (arith, nat_tests, less)

-- or no number is left for it
pub fills_up : (A : Agreements) (s : State) (m n : ℕ) (p : Posted) → n ≡ s.next_in → end_of_numbers ≤ n → record_given A s m p None ≡ None
fills_up A s m n p next full = rw (used s.next_in (subst (λ k. end_of_numbers ≤ k) next full)) refl
  where
    used : (k : ℕ) → end_of_numbers ≤ k → nat_le end_of_numbers k ≡ true
    used k less = grind (arith, nat_tests, less)

-- What is refused leaves the state as it was.
-- The plan: `AnswersOnly` says that a refusal leaves what it was given. Each act of the machine has it, test by test (`test_leaves`), and so
-- has each step (`step_leaves`, a clause for each event); a change that leaves the entry found leaves the box (`left_as_is`).
use Rattle.std.proofs.Common.{◌≡◌, ℕ, Bool, true, false, not, ◌&&◌, ◌||◌, List, [], ◌∷◌, map, Option, Some, None, refl, sym, ap, ◌∙◌, subst}
use Rattle.std.specs.Prelude.{option_and_then, ◌==◌, cond, if◌then◌else◌, nat_le}
use Rattle.std.specs.Option.{option_map_or}
use Rattle.std.specs.List.{AllByRecursion, IsDistinct, find}
use Rattle.std.proofs.lemmas.Bool.{false≢true}
use Rattle.std.proofs.lemmas.Option.{same_Some}
use Rattle.as2_mdn.specs.Details.{class_of}
use Rattle.as2_exchange.specs.Agreement.{Text, Agreements, Partner, Asked, NoReceipt, Sync, Async, is_organization, partner_of}
use Rattle.as2_exchange.specs.Readings.{ReceiptDelivery, NoReceipt as NoneAsked, Sync as SyncReceipt}
use Rattle.as2_exchange.specs.Readings.{Async as AsyncReceipt, Outcome as WhatBecame, is_processed, named_by}
use Rattle.as2_exchange.specs.State.{Posted, InEntry, OutEntry, State, Digests, known_digests, origin_of, end_of_numbers, document}
use Rattle.as2_exchange.specs.State.{document_named, received_entry, received_as, change_document, change_received, is_settled}
use Rattle.as2_exchange.specs.Events.{Event, Post, Submit, Begin, Outcome, Resend, BeginReceipt, OutcomeReceipt, Tick, Answer, Refused}
use Rattle.as2_exchange.specs.Events.{UnknownOrganization, UnknownPartner, TryAnswer, Nothing, Words, NotProcessed, IdUsedBefore, NoSuchMessage}
use Rattle.as2_exchange.specs.Posts.{ReceivedReceipt, PostReading, Refuses, IsReceipt, IsDocument, post_reading, repeats}
use Rattle.as2_exchange.specs.Receipts.{receipt_in_answer, is_delivery, bears}
use Rattle.as2_exchange.specs.Documents.{begun_document, waits, resent_document, is_error, closed_document, closed_by, if_for}
use Rattle.as2_exchange.specs.Documents.{delivered_document, failed_try, submit, settle, settle_for, settled_document, tick}
use Rattle.as2_exchange.specs.Lines.{http}
use Rattle.as2_exchange.specs.OwedReceipts.{begun_receipt, closed_receipt, is_pending, is_shut}
use Rattle.as2_exchange.specs.Recording.{record_post, record_given, requeued_by_repeat, answer_to}
use Rattle.as2_exchange.specs.Step.{is_refusal, act_on, act_in, post, step}
use Rattle.as2_exchange.specs.Tries.{where_agreed, is_early, is_idle, is_last}
use Rattle.as2_exchange.specs.Invariants.{HasDistinctNumbers}
use Rattle.as2_exchange.proofs.Repeats.{with_first}
use Rattle.as2_exchange.proofs.Submits.{document_taken, submit_either}
use Rattle.as2_exchange.proofs.Decisions.{number_is, apart_turned}

-- ---- lists

pub untouched : {X : Type 0} (number : X → ℕ) (f : X → X) (n : ℕ) (xs : List X) → AllByRecursion (λ k. (n == k) ≡ false) (map number xs)
    → map (λ x. if number x == n then f x else x) xs ≡ xs
untouched number f n [] h = refl
untouched number f n (x ∷ xs) h = λ i. kept i ∷ untouched number f n xs h.1 i
  where
    by : (b : Bool) → b ≡ false → (if b then f x else x) ≡ x
    by true e = absurd (false≢true (sym e))
    by false e = refl

    kept : (if number x == n then f x else x) ≡ x
    kept = by (number x == n) (apart_turned n (number x) n refl h.0)

left_step : {X : Type 0} (number : X → ℕ) (f : X → X) (n : ℕ) (d x : X) (xs : List X) (b : Bool) → (number x == n) ≡ b
    → AllByRecursion (λ k. (number x == k) ≡ false) (map number xs)
    → (find (λ y. number y == n) xs ≡ Some d → f d ≡ d → map (λ y. if number y == n then f y else y) xs ≡ xs)
    → cond b (Some x) (find (λ y. number y == n) xs) ≡ Some d → f d ≡ d → ((if b then f x else x) ∷ map (λ y. if number y == n then f y else y) xs) ≡ x ∷ xs
left_step number f n d x xs true is apart rest found same =
    let this : x ≡ d = cc in
    let fixed : f x ≡ x = subst (λ z. f z ≡ z) (sym this) same in
    let others = untouched number f n xs (subst (λ j. AllByRecursion (λ k. (j == k) ≡ false) (map number xs)) (number_is (number x) n is) apart) in
    λ i. fixed i ∷ others i
left_step number f n d x xs false is apart rest found same = ap (λ ys. x ∷ ys) (rest found same)

-- a change that leaves the only element of this number
pub left_as_is : {X : Type 0} (number : X → ℕ) (f : X → X) (n : ℕ) (d : X) (xs : List X) → IsDistinct (λ a b. a == b) (map number xs)
    → find (λ x. number x == n) xs ≡ Some d → f d ≡ d → map (λ x. if number x == n then f x else x) xs ≡ xs
unfolding IsDistinct
left_as_is number f n d [] apart found same = refl
left_as_is number f n d (x ∷ xs) apart found same = left_step number f n d x xs (number x == n) refl apart.0 (left_as_is number f n d xs apart.1) found same

-- ---- acts

AnswersOnly : {E : Type 0} → E → Answer × E → Type 0
AnswersOnly e y = is_refusal y.0 ≡ true → y.1 ≡ e

agreed_leaves : {E : Type 0} (A : Agreements) (organization partner : Text) (e : E) (act : Partner → Answer × E) → ((p : Partner) → AnswersOnly e (act p))
    → AnswersOnly e (where_agreed A organization partner e act)
unfolding AnswersOnly
agreed_leaves {E} A organization partner e act rest = by (is_organization A organization) (partner_of A partner)
  where
    given : Bool → Option Partner → Answer × E
    given b o = if not b then (Refused UnknownOrganization, e) else option_map_or act o (Refused UnknownPartner, e)

    by : (b : Bool) (o : Option Partner) → is_refusal (given b o).0 ≡ true → (given b o).1 ≡ e
    by false o h = refl
    by true None h = refl
    by true (Some p) h = rest p h

-- a test, and then the rest
test_leaves : {E : Type 0} (e : E) (b : Bool) (a : Answer) (y : Answer × E) → AnswersOnly e y → AnswersOnly e (if b then (a, e) else y)
unfolding AnswersOnly
test_leaves e true a y rest h = refl
test_leaves e false a y rest h = rest h

-- what is no refusal leaves what it likes
acts : {E : Type 0} (e : E) (y : Answer × E) → is_refusal y.0 ≡ false → AnswersOnly e y
unfolding AnswersOnly
acts e y not_refused h = absurd (false≢true (sym not_refused ∙ h))

either_acts : {E : Type 0} (e : E) (b : Bool) (x y : Answer × E) → AnswersOnly e x → AnswersOnly e y → AnswersOnly e (if b then x else y)
either_acts e true x y h g = h
either_acts e false x y h g = g

begun_leaves : (A : Agreements) (m : ℕ) (d : OutEntry) → AnswersOnly d (begun_document A m d)
unfolding begun_document
begun_leaves A m d = agreed_leaves A d.organization d.partner d _
    (λ p. test_leaves d (is_settled d) _ _
    (test_leaves d (nat_le p.max_tries d.tries) _ _
    (test_leaves d (waits d.detail || is_early m d.due) _ _ (acts d _ refl))))

failed_leaves : (p : Partner) (m : ℕ) (d : OutEntry) → AnswersOnly d (failed_try p m d)
failed_leaves p m d = either_acts d (is_last d.attempt) _ _ (acts d _ refl) (acts d _ refl)

delivered_leaves : (a : Asked) (p : Partner) (m : ℕ) (d : OutEntry) → AnswersOnly d (delivered_document a p m d)
delivered_leaves Async p m d = acts d _ refl
delivered_leaves NoReceipt p m d = acts d _ refl
delivered_leaves Sync p m d = failed_leaves p m d

closed_by_leaves : (p : Partner) (got : TryAnswer) (m : ℕ) (d : OutEntry) (o : Option ReceivedReceipt) → AnswersOnly d (closed_by p got m d o)
closed_by_leaves p got m d (Some r) = acts d _ refl
closed_by_leaves p got m d None = either_acts d (is_delivery got) _ _ (delivered_leaves p.receipt p m d) (failed_leaves p m d)

closed_leaves : (A : Agreements) (known : Digests) (got : TryAnswer) (m : ℕ) (d : OutEntry) → AnswersOnly d (closed_document A known got m d)
unfolding closed_document
closed_leaves A known got m d = agreed_leaves A d.organization d.partner d _
    (λ p. test_leaves d (is_settled d) _ _
    (test_leaves d (is_idle d.attempt) _ _ (closed_by_leaves p got m d (option_and_then (if_for d) (receipt_in_answer known got)))))

resent_leaves : (A : Agreements) (m : ℕ) (d : OutEntry) → AnswersOnly d (resent_document A m d)
unfolding resent_document
resent_leaves A m d = agreed_leaves A d.organization d.partner d _
    (λ p. test_leaves d (is_settled d) _ _
    (test_leaves d (not (is_error (class_of d.detail))) _ _ (acts d _ refl)))

receipt_begun_leaves : (A : Agreements) (m : ℕ) (e : InEntry) → AnswersOnly e (begun_receipt A m e)
unfolding begun_receipt
receipt_begun_leaves A m e = agreed_leaves A e.posted.receiver e.posted.sender e _
    (λ p. test_leaves e (not (is_pending e.receipt_stage)) _ _
    (test_leaves e (nat_le p.max_tries e.tries) _ _
    (test_leaves e (is_early m e.due) _ _ (acts e _ refl))))

receipt_closed_leaves : (A : Agreements) (got : TryAnswer) (m : ℕ) (e : InEntry) → AnswersOnly e (closed_receipt A got m e)
unfolding closed_receipt
receipt_closed_leaves A got m e = agreed_leaves A e.posted.receiver e.posted.sender e _
    (λ p. test_leaves e (not (is_pending e.receipt_stage)) _ _
    (test_leaves e (is_shut e.attempt) _ _
    (either_acts e (is_delivery got) _ _ (acts e _ refl)
    (either_acts e (is_last e.attempt) _ _ (acts e _ refl) (acts e _ refl)))))

-- ---- a step

acted_leaves : (A : Agreements) (s : State) (n : ℕ) (act : OutEntry → Answer × OutEntry) (o : Option OutEntry) → document s n ≡ o
    → ((d : OutEntry) → AnswersOnly d (act d)) → HasDistinctNumbers s → AnswersOnly s (act_on s n act o)
unfolding AnswersOnly
acted_leaves A s n act None found leaves apart h = refl
acted_leaves A s n act (Some d) found leaves apart h =
    let same = left_as_is (λ (x : OutEntry). x.number) (λ (x : OutEntry). (act x).1) n d s.outbox apart.sent found (leaves d h) in
    ap (λ (ds : List OutEntry). record s { outbox = ds }) same

acted_in_leaves : (A : Agreements) (s : State) (n : ℕ) (act : InEntry → Answer × InEntry) (o : Option InEntry) → received_entry s n ≡ o
    → ((e : InEntry) → AnswersOnly e (act e)) → HasDistinctNumbers s → AnswersOnly s (act_in s n act o)
unfolding AnswersOnly
acted_in_leaves A s n act None found leaves apart h = refl
acted_in_leaves A s n act (Some e) found leaves apart h =
    let same = left_as_is (λ (x : InEntry). x.number) (λ (x : InEntry). (act x).1) n e s.inbox apart.received found (leaves e h) in
    ap (λ (es : List InEntry). record s { inbox = es }) same

submit_leaves : (A : Agreements) (s : State) (organization partner content : Text) (m : ℕ) (y : Answer × State)
    → submit A s organization partner content m ≡ Some y → AnswersOnly s y
unfolding AnswersOnly
submit_leaves A s organization partner content m y =
    submit_either (AnswersOnly s) A s organization partner content m y (λ r refused. refl)
    (λ ours theirs small. acts s (document_taken A s organization partner content m) refl)

-- a post is answered by a status
with_line : (b : Bool) (became : WhatBecame) → is_refusal (if b then http 200 Nothing else http 400 (Words (NotProcessed became))) ≡ false
with_line true became = refl
with_line false became = refl

answered_by : (A : Agreements) (n : ℕ) (p : Posted) (how : ReceiptDelivery) → p.how ≡ how → is_refusal (answer_to A n p) ≡ false
unfolding answer_to
answered_by A n p SyncReceipt is = rw is refl
answered_by A n p (AsyncReceipt url) is = rw is refl
answered_by A n p NoneAsked is = rw is (with_line (is_processed p.outcome) p.outcome)

-- whether a step refused
left_answer : (r y : Answer × State) → Some r ≡ Some y → is_refusal y.0 ≡ is_refusal r.0
left_answer r y h = ap (λ (z : Answer × State). is_refusal z.0) (sym (same_Some r y h))

recorded_acts : (A : Agreements) (s : State) (m : ℕ) (p : Posted) (o : Option InEntry) (y : Answer × State) → record_given A s m p o ≡ Some y
    → is_refusal y.0 ≡ false
recorded_acts A s m p (Some e) y h = by (repeats (origin_of s.version) e.number e.posted p) h
  where
    same : Answer × State
    same = (answer_to A e.number e.posted, change_received s e.number (requeued_by_repeat m))

    by : (b : Bool) → (if b then Some same else Some (http 409 (Words IdUsedBefore), s)) ≡ Some y → is_refusal y.0 ≡ false
    by true g = left_answer _ y g ∙ answered_by A e.number e.posted e.posted.how refl
    by false g = left_answer _ y g
recorded_acts A s m p None y h = by (nat_le end_of_numbers s.next_in) h
  where
    by : (b : Bool) → (if b then None else Some (answer_to A s.next_in p, with_first s m p)) ≡ Some y → is_refusal y.0 ≡ false
    by true g = absurd (cc)
    by false g = left_answer _ y g ∙ answered_by A s.next_in p p.how refl

settle_acts : (s : State) (m : ℕ) (r : ReceivedReceipt) (o : Option OutEntry) → is_refusal (settle_for s m r o).0 ≡ false
settle_acts s m r None = refl
settle_acts s m r (Some d) =
    by (not (bears r d.organization d.partner d.id && d.begun)) (if is_settled d then s else change_document s d.number (settled_document m r))
  where
    given : Bool → State → Answer × State
    given b t = if b then (http 404 (Words NoSuchMessage), s) else (http 200 Nothing, t)

    by : (b : Bool) (t : State) → is_refusal (given b t).0 ≡ false
    by true t = refl
    by false t = refl

post_acts : (A : Agreements) (s : State) (m : ℕ) (r : PostReading) (y : Answer × State) → post A s m r ≡ Some y → is_refusal y.0 ≡ false
unfolding settle record_post
post_acts A s m (Refuses line) y h = left_answer _ y h
post_acts A s m (IsReceipt r) y h = left_answer _ y h ∙ settle_acts s m r (document_named s (named_by r.receipt))
post_acts A s m (IsDocument p) y h = recorded_acts A s m p (received_as s p) y h

tick_acts : (m : ℕ) (s : State) → is_refusal (tick m s).0 ≡ false
unfolding tick
tick_acts m s = refl

step_leaves : (A : Agreements) (s : State) (e : Event) (y : Answer × State) → HasDistinctNumbers s → step A s e ≡ Some y → AnswersOnly s y
step_leaves A s (Post head body m) y apart h = acts s y (post_acts A s m (post_reading A (known_digests s.version) head body) y h)
step_leaves A s (Submit organization partner content m) y apart h = submit_leaves A s organization partner content m y h
step_leaves A s (Begin n m) y apart h =
    subst (AnswersOnly s) (same_Some _ y h) (acted_leaves A s n (begun_document A m) (document s n) refl (begun_leaves A m) apart)
step_leaves A s (Resend n m) y apart h =
    subst (AnswersOnly s) (same_Some _ y h) (acted_leaves A s n (resent_document A m) (document s n) refl (resent_leaves A m) apart)
step_leaves A s (Outcome n got m) y apart h =
    let known = known_digests s.version in
    subst (AnswersOnly s) (same_Some _ y h) (acted_leaves A s n (closed_document A known got m) (document s n) refl (closed_leaves A known got m) apart)
step_leaves A s (BeginReceipt n m) y apart h =
    subst (AnswersOnly s) (same_Some _ y h) (acted_in_leaves A s n (begun_receipt A m) (received_entry s n) refl (receipt_begun_leaves A m) apart)
step_leaves A s (OutcomeReceipt n got m) y apart h =
    subst (AnswersOnly s) (same_Some _ y h) (acted_in_leaves A s n (closed_receipt A got m) (received_entry s n) refl (receipt_closed_leaves A got m) apart)
step_leaves A s (Tick m) y apart h = acts s y (left_answer _ y h ∙ tick_acts m s)

pub refused_leaves : (A : Agreements) (s t : State) (e : Event) (a : Answer) → HasDistinctNumbers s → step A s e ≡ Some (a, t) → is_refusal a ≡ true → t ≡ s
unfolding AnswersOnly
refused_leaves A s t e a apart h refused = step_leaves A s e (a, t) apart h refused

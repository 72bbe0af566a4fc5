-- For which documents and receipts a request is handed out.
use Rattle.std.proofs.Common.{◌≡◌, ℕ, ◌<◌, Bool, true, false, not, ◌||◌, Option, Some, None, refl, ap, arith}
use Rattle.std.specs.Prelude.{IsSomeAnd, nat_le, if◌then◌else◌}
use Rattle.std.specs.Option.{option_map_or}
use Rattle.std.proofs.lemmas.Bool.Decides.{nat_tests}
use Rattle.std.proofs.lemmas.Option.{same_Some}
use Rattle.as2_exchange.specs.Agreement.{Text, Agreements, Partner, is_organization, partner_of}
use Rattle.as2_exchange.specs.Detail.{ReceiptStage, Unasked, Pending, Sent}
use Rattle.as2_exchange.specs.Readings.{Job, document_job, receipt_job}
use Rattle.as2_exchange.specs.State.{State, InEntry, OutEntry, document, received_entry, is_settled}
use Rattle.as2_exchange.specs.Events.{Answer, Job as AJob, Refused, NoSuchNumber, UnknownOrganization}
use Rattle.as2_exchange.specs.Events.{UnknownPartner, AllSettled, TriesUsedUp, NotDue, Begin, BeginReceipt}
use Rattle.as2_exchange.specs.Documents.{begun_document, waits}
use Rattle.as2_exchange.specs.OwedReceipts.{is_pending, begun_receipt}
use Rattle.as2_exchange.specs.Recording.{receipt_out}
use Rattle.as2_exchange.specs.Step.{act_on, act_in, step}
use Rattle.as2_exchange.specs.Tries.{where_agreed, is_early}

less : (n k : ℕ) → nat_le n k ≡ false → k < n
less n k h = grind (arith, nat_tests)

-- where the tests are taken one after the other, a request is handed out only where all of them fail
abbrev granted : {E : Type 0} → E → E → Job → Bool → Bool → Bool → Answer × E
granted e x given settled used early =
    if settled then (Refused AllSettled, e)
    else if used then (Refused TriesUsedUp, e)
    else if early then (Refused NotDue, e)
    else (AJob given, x)

granted_by : {E : Type 0} (e x : E) (job given : Job) (settled used early : Bool) → (granted e x given settled used early).0 ≡ AJob job → (settled ≡ false)
    × (used ≡ false)
granted_by e x job given true used early h = absurd (cc)
granted_by e x job given false true early h = absurd (cc)
granted_by e x job given false false true h = absurd (cc)
granted_by e x job given false false false h = (refl, refl)

-- and only to a partner that is agreed
granted_to : {E : Type 0} (A : Agreements) (organization partner : Text) (e : E) (act : Partner → Answer × E) (job : Job) (P : Partner → Type 0)
    → ((p : Partner) → (act p).0 ≡ AJob job → P p) → (where_agreed A organization partner e act).0 ≡ AJob job → IsSomeAnd (partner_of A partner) P
granted_to {E} A organization partner e act job P rest h = by (is_organization A organization) (partner_of A partner) h
  where
    given : Bool → Option Partner → Answer × E
    given b o = if not b then (Refused UnknownOrganization, e) else option_map_or act o (Refused UnknownPartner, e)

    by : (b : Bool) (o : Option Partner) → (given b o).0 ≡ AJob job → IsSomeAnd o P
    by false o g = absurd (cc)
    by true None g = absurd (cc)
    by true (Some p) g = rest p g

-- ---- a document

abbrev Unsettled : OutEntry → Partner → Type 0
Unsettled d p = (is_settled d ≡ false) × (d.tries < p.max_tries)

begun_granted : (A : Agreements) (m : ℕ) (d : OutEntry) (job : Job) → (begun_document A m d).0 ≡ AJob job → IsSomeAnd (partner_of A d.partner) (Unsettled d)
unfolding begun_document
begun_granted A m d job h =
    granted_to A d.organization d.partner d _ job (Unsettled d)
    (λ p g.
    let given = document_job A p d.organization d.id d.content in
    let is = granted_by d _ job given (is_settled d) (nat_le p.max_tries d.tries) (waits d.detail || is_early m d.due) g in
    (is.0, less p.max_tries d.tries is.1))
    h

-- both facts, taken apart
parted : (d : OutEntry) (o : Option Partner) → IsSomeAnd o (Unsettled d) → (is_settled d ≡ false) × IsSomeAnd o (λ p. d.tries < p.max_tries)
parted d None h = absurd h
parted d (Some p) h = (h.0, h.1)

pub document_granted : (A : Agreements) (s t : State) (n m : ℕ) (job : Job) → step A s (Begin n m) ≡ Some (AJob job, t) → (d : OutEntry)
    × (document s n ≡ Some d) × (is_settled d ≡ false) × IsSomeAnd (partner_of A d.partner) (λ p. d.tries < p.max_tries)
document_granted A s t n m job h = by (document s n) refl (same_Some _ (AJob job, t) h)
  where
    by : (o : Option OutEntry) → document s n ≡ o → act_on s n (begun_document A m) o ≡ (AJob job, t) → (d : OutEntry) × (document s n ≡ Some d)
        × (is_settled d ≡ false) × IsSomeAnd (partner_of A d.partner) (λ p. d.tries < p.max_tries)
    by None at g = absurd (let first : Refused NoSuchNumber ≡ AJob job = ap (λ (y : Answer × State). y.0) g in cc)
    by (Some d) at g =
        let is = parted d (partner_of A d.partner) (begun_granted A m d job (ap (λ (y : Answer × State). y.0) g)) in
        (d, at, is.0, is.1)

-- ---- a receipt

abbrev StillOwed : InEntry → Partner → Type 0
StillOwed e p = (e.receipt_stage ≡ Pending) × (e.tries < p.max_tries)

owes_receipt : (x : ReceiptStage) → not (is_pending x) ≡ false → x ≡ Pending
owes_receipt Pending h = refl
owes_receipt Unasked h = absurd (cc)
owes_receipt Sent h = absurd (cc)

receipt_begun_granted : (A : Agreements) (m : ℕ) (e : InEntry) (job : Job) → (begun_receipt A m e).0 ≡ AJob job
    → IsSomeAnd (partner_of A e.posted.sender) (StillOwed e)
unfolding begun_receipt
receipt_begun_granted A m e job h =
    granted_to A e.posted.receiver e.posted.sender e _ job (StillOwed e)
    (λ p g.
    let given = receipt_job e.posted.how (receipt_out A e.number e.posted) in
    let is = granted_by e _ job given (not (is_pending e.receipt_stage)) (nat_le p.max_tries e.tries) (is_early m e.due) g in
    (owes_receipt e.receipt_stage is.0, less p.max_tries e.tries is.1))
    h

parted_receipt : (e : InEntry) (o : Option Partner) → IsSomeAnd o (StillOwed e) → (e.receipt_stage ≡ Pending) × IsSomeAnd o (λ p. e.tries < p.max_tries)
parted_receipt e None h = absurd h
parted_receipt e (Some p) h = (h.0, h.1)

pub receipt_granted : (A : Agreements) (s t : State) (n m : ℕ) (job : Job) → step A s (BeginReceipt n m) ≡ Some (AJob job, t) → (e : InEntry)
    × (received_entry s n ≡ Some e) × (e.receipt_stage ≡ Pending) × IsSomeAnd (partner_of A e.posted.sender) (λ p. e.tries < p.max_tries)
receipt_granted A s t n m job h = by (received_entry s n) refl (same_Some _ (AJob job, t) h)
  where
    by : (o : Option InEntry) → received_entry s n ≡ o → act_in s n (begun_receipt A m) o ≡ (AJob job, t) → (e : InEntry) × (received_entry s n ≡ Some e)
        × (e.receipt_stage ≡ Pending) × IsSomeAnd (partner_of A e.posted.sender) (λ p. e.tries < p.max_tries)
    by None at g = absurd (let first : Refused NoSuchNumber ≡ AJob job = ap (λ (y : Answer × State). y.0) g in cc)
    by (Some e) at g =
        let is = parted_receipt e (partner_of A e.posted.sender) (receipt_begun_granted A m e job (ap (λ (y : Answer × State). y.0) g)) in
        (e, at, is.0, is.1)

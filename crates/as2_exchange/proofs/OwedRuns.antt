-- In every state of a run, the receipt of each entry stands as its facts tell, whether one is owed or not: `receipts_law`, for the contract
-- of `receipts_by_history`.
-- The plan: `EntryStands` says it of one entry, `KeepsReceipts` of a state. An empty store has it (`nothing_received`), each event
-- keeps it (`step_receipts`), and so does a run (`run_receipts`); the law is read off at the end.
-- An event is of one of four kinds: it leaves the inbox and is no fact of any receipt (`quiet`), acts on a document (`document_receipts`), is
-- a try of one receipt (`ActsOnReceipt`), or a posted document (`posted_receipts`), whose names are then agreed (`reading_known`).
-- A new event of the machine gets one clause in `step_receipts`, by the lemma of its kind, and before that one each in `step_formed`
-- (States.antt), `step_grows` (Repeats.antt) and `step_steady` (Steady.antt). A new test of `post_reading` is a line in `reading_known`.
use Rattle.std.proofs.Common.{◌≡◌, ℕ, Bool, true, false, not, ◌&&◌, ◌||◌, List, [], ◌∷◌, ◌++◌, Option, Some, None}
use Rattle.std.proofs.Common.{refl, sym, ap, ◌∙◌, subst, append_assoc}
use Rattle.std.specs.Prelude.{⊤, option_map, option_and_then, is_some, ◌==◌, if◌then◌else◌}
use Rattle.std.specs.List.{find, filter_map, cons_option}
use Rattle.std.specs.Option.{option_or}
use Rattle.std.proofs.lemmas.Bool.{false≢true, false_from_ne_true}
use Rattle.std.proofs.lemmas.Option.{same_Some}
use Rattle.std.proofs.lemmas.List.{append-nil}
use Rattle.std.proofs.lemmas.List.Elements.{filter_map-append}
use Rattle.std.proofs.lemmas.List.Folds.{find-append}
use Rattle.as2_exchange.specs.Agreement.{Text, Agreements, Partner, is_organization, partner_of}
use Rattle.as2_exchange.specs.Detail.{Idle, Unasked, Sent}
use Rattle.as2_exchange.specs.Readings.{Head, ReceiptDelivery, NoReceipt, Sync, Async, is_async, is_report}
use Rattle.as2_exchange.specs.Readings.{names_of, version_fits, type_of, id_of, ask_of, report_in}
use Rattle.as2_exchange.specs.State.{Digests, Version, LaterVersion, known_digests, origin_of}
use Rattle.as2_exchange.specs.State.{Posted, InEntry, State, empty, lasting_part, same_key, document, received_entry, received_as, change_received, OutEntry}
use Rattle.as2_exchange.specs.Events.{Event, Post, Submit, Begin, Outcome, Resend, BeginReceipt, OutcomeReceipt, Tick}
use Rattle.as2_exchange.specs.Events.{Answer, Refused, NoSuchNumber, TryAnswer, Line, BadNames, BadVersion}
use Rattle.as2_exchange.specs.Events.{UnknownNames, BadType, UnreadableReceipt, BadId, BadAsk, AnsweredEvent}
use Rattle.as2_exchange.specs.Posts.{PostReading, Refuses, IsReceipt, IsDocument, needs, post_reading, repeats, ReceivedReceipt}
use Rattle.as2_exchange.specs.Documents.{begun_document, closed_document, resent_document}
use Rattle.as2_exchange.specs.OwedReceipts.{is_pending, begun_receipt, closed_receipt}
use Rattle.as2_exchange.specs.Recording.{record_post, requeued_by_repeat, first_entry}
use Rattle.as2_exchange.specs.Step.{post, step, act_in, on_document, on_received}
use Rattle.as2_exchange.specs.Run.{Trace, Run, AnEvent, AMigration, Answered, Failed, migrated_state, accepted_events}
use Rattle.as2_exchange.specs.Invariants.{IsCounter, IsWellFormed}
use Rattle.as2_exchange.specs.History.{FoundAt, Fact, ATry, AnOutcome, is_job}
use Rattle.as2_exchange.specs.ReceiptHistory.{ReceiptFact, APost, OfATry, receipt_fact, receipt_fact_of}
use Rattle.as2_exchange.specs.ReceiptHistory.{sent_later, is_delivered, are_used, queued_by, since_queued, history_by_how, receipt_history, receipt_told}
use Rattle.as2_exchange.proofs.Decisions.{same_number, number_is, is_some_value, apart_turned}
use Rattle.as2_exchange.proofs.Finds.{find-map, find_passes, find_none, one_found}
use Rattle.as2_exchange.proofs.Lists.{fold_last}
use Rattle.as2_exchange.proofs.Places.{found_place}
use Rattle.as2_exchange.proofs.Pushes.{answered_event, with_fact}
use Rattle.as2_exchange.proofs.Acts.{AreAgreed}
use Rattle.as2_exchange.proofs.Repeats.{RecordedOrSame, fresh, repeated, clash, post_cases, recorded_posts, with_first}
use Rattle.as2_exchange.proofs.Repeats.{Grows, step_grows, find-lasting, key_same, repeats_itself}
use Rattle.as2_exchange.proofs.Repeats.{left_inbox, acted_inbox, settle_inbox, submit_inbox, tick_inbox}
use Rattle.as2_exchange.proofs.Repeats.{queued_lasting, receipt_begun_lasting, receipt_closed_lasting}
use Rattle.as2_exchange.proofs.Equal.{both, HaveOneKey, key_is, post_key, one_key, keys_joined, received_one}
use Rattle.as2_exchange.proofs.States.{step_formed, empty_formed, migrated_formed}
use Rattle.as2_exchange.proofs.Steady.{step_steady}
use Rattle.as2_exchange.proofs.IsOwed.{IsOwed, more, queued_owed, reposted_owed, with_try, begun_owed, closed_owed, never_begun, never_closed}

-- ---- facts

-- the facts of the receipt of this number and document
abbrev facts_of : Agreements → ℕ → Posted → List AnsweredEvent → List ReceiptFact
facts_of A n q past = filter_map (receipt_fact A n q) past

-- the facts, and what one more event is
abbrev with_more : List ReceiptFact → Option ReceiptFact → List ReceiptFact
with_more facts None = facts
with_more facts (Some f) = facts ++ f ∷ []

facts-push : (A : Agreements) (n : ℕ) (q : Posted) (past : List AnsweredEvent) (x : AnsweredEvent) (o : Option ReceiptFact) → receipt_fact A n q x ≡ o
    → facts_of A n q (past ++ x ∷ []) ≡ with_more (facts_of A n q past) o
facts-push A n q past x o is =
    filter_map-append (receipt_fact A n q) past (x ∷ [])
    ∙ by (receipt_fact A n q x)
    ∙ ap (λ (z : Option ReceiptFact). with_more (facts_of A n q past) z) is
  where
    by : (z : Option ReceiptFact) → facts_of A n q past ++ cons_option z [] ≡ with_more (facts_of A n q past) z
    by None = append-nil (facts_of A n q past)
    by (Some f) = refl

-- when it was queued last and the facts since, after one fact more
since-push : (p : Partner) (facts : List ReceiptFact) (f : ReceiptFact) (o : Option (FoundAt ℕ Fact)) → since_queued p facts ≡ o
    → since_queued p (facts ++ f ∷ []) ≡ queued_by p o f
unfolding since_queued
since-push p facts f o is = fold_last (queued_by p) None facts f ∙ ap (λ (z : Option (FoundAt ℕ Fact)). queued_by p z f) is

-- ---- how a receipt stands

abbrev StandsAs : ReceiptDelivery → Partner → List ReceiptFact → InEntry → Type 0
StandsAs NoReceipt p facts e = (e.receipt_stage ≡ Unasked) × (e.tries ≡ 0) × (e.attempt ≡ Idle) × (e.due ≡ None)
StandsAs Sync p facts e = (e.receipt_stage ≡ Sent) × (e.tries ≡ 0) × (e.attempt ≡ Idle) × (e.due ≡ None)
StandsAs (Async url) p facts e = (since : FoundAt ℕ Fact) × (since_queued p facts ≡ Some since) × IsOwed p since e

-- the entry of this number and document stands as the events tell
record EntryStands (A : Agreements) (n : ℕ) (past : List AnsweredEvent) (q : Posted) (e : InEntry) : Type 0 where
  partner : Partner
  agreed : AreAgreed A q.receiver q.sender partner
  stands : StandsAs q.how partner (facts_of A n q past) e

module _ (A : Agreements) (n : ℕ) (past : List AnsweredEvent) (x : AnsweredEvent) (q : Posted) where
  -- one more event, which is this fact of the receipt or none, leaves the entry so
  stands_with : (o : Option ReceiptFact) (e later : InEntry) → receipt_fact A n q x ≡ o → EntryStands A n past q e
      → ((p : Partner) (facts : List ReceiptFact) → AreAgreed A q.receiver q.sender p → StandsAs q.how p facts e
      → StandsAs q.how p (with_more facts o) later)
      → EntryStands A n (past ++ x ∷ []) q later
  stands_with o e later is h moves =
      let told = sym (facts-push A n q past x o is) in
      let stood = moves h.partner (facts_of A n q past) h.agreed h.stands in
      record {
        partner = h.partner;
        agreed = h.agreed;
        stands = subst (λ (facts : List ReceiptFact). StandsAs q.how h.partner facts later) told stood;
      }

  -- one more event that is no fact of it
  stands_still : (e : InEntry) → receipt_fact A n q x ≡ None → EntryStands A n past q e → EntryStands A n (past ++ x ∷ []) q e
  stands_still e none h = stands_with None e e none h (λ p facts agreed stands. stands)

-- the same entry, under other names of its number, its document and itself
stands_renamed : (A : Agreements) (past : List AnsweredEvent) (k n : ℕ) (q : Posted) (d e : InEntry) → k ≡ n → d.posted ≡ q → d ≡ e → EntryStands A k past q d
    → EntryStands A n past e.posted e
stands_renamed A past k n q d e num posted it stood =
    let of_d = subst (λ (p : Posted). EntryStands A k past p d) (sym posted) stood in
    let of_e = subst (λ (z : InEntry). EntryStands A k past z.posted z) it of_d in
    subst (λ (j : ℕ). EntryStands A j past e.posted e) num of_e

-- ---- a repeat

unqueued : (m : ℕ) (e : InEntry) → is_async e.posted.how ≡ false → requeued_by_repeat m e ≡ e
unqueued m e h = rw h refl

reposted : (how : ReceiptDelivery) (p : Partner) (facts : List ReceiptFact) (m : ℕ) (e : InEntry) → e.posted.how ≡ how → StandsAs how p facts e
    → StandsAs how p (facts ++ APost m ∷ []) (requeued_by_repeat m e)
reposted NoReceipt p facts m e is h = subst (StandsAs NoReceipt p facts) (sym (unqueued m e (ap is_async is))) h
reposted Sync p facts m e is h = subst (StandsAs Sync p facts) (sym (unqueued m e (ap is_async is))) h
reposted (Async url) p facts m e is h = (
  if is_delivered h.0.after || are_used p h.0.after then found_place [] m else h.0,
  since-push p facts (APost m) (Some h.0) h.1,
  reposted_owed p h.0 m e (ap is_async is) h.2,
)

-- ---- a try begins

-- what a BeginMdn that was answered so is to the receipt
abbrev begin_fact : ℕ → Answer → Option ReceiptFact
begin_fact m a = if is_job a then Some (OfATry (ATry m)) else None

since_begun : (p : Partner) (facts : List ReceiptFact) (since : FoundAt ℕ Fact) (m : ℕ) (a : Answer) → since_queued p facts ≡ Some since
    → since_queued p (with_more facts (begin_fact m a)) ≡ Some (with_try since m a)
since_begun p facts since m a is = by (is_job a)
  where
    tried : Bool → FoundAt ℕ Fact
    tried b = found_place (with_fact since.after (if b then Some (ATry m) else None)) since.it

    by : (b : Bool) → since_queued p (with_more facts (if b then Some (OfATry (ATry m)) else None)) ≡ Some (tried b)
    by true = since-push p facts (OfATry (ATry m)) (Some since) is
    by false = is

try_begun : (A : Agreements) (how : ReceiptDelivery) (p : Partner) (facts : List ReceiptFact) (m : ℕ) (e : InEntry)
    → AreAgreed A e.posted.receiver e.posted.sender p → StandsAs how p facts e
    → StandsAs how p (with_more facts (begin_fact m (begun_receipt A m e).0)) (begun_receipt A m e).1
try_begun A NoReceipt p facts m e agreed h = subst (StandsAs NoReceipt p facts) (sym (never_begun A p m e agreed (ap is_pending h.0))) h
try_begun A Sync p facts m e agreed h = subst (StandsAs Sync p facts) (sym (never_begun A p m e agreed (ap is_pending h.0))) h
try_begun A (Async url) p facts m e agreed h = (
  with_try h.0 m (begun_receipt A m e).0,
  since_begun p facts h.0 m (begun_receipt A m e).0 h.1,
  begun_owed A p h.0 m e agreed h.2,
)

-- ---- a try ends

abbrev outcome_fact : Digests → TryAnswer → ℕ → ReceiptFact
outcome_fact known got m = OfATry (AnOutcome m known got)

try_closed : (A : Agreements) (how : ReceiptDelivery) (p : Partner) (facts : List ReceiptFact) (known : Digests) (got : TryAnswer) (m : ℕ) (e : InEntry)
    → AreAgreed A e.posted.receiver e.posted.sender p → StandsAs how p facts e
    → StandsAs how p (facts ++ outcome_fact known got m ∷ []) (closed_receipt A got m e).1
try_closed A NoReceipt p facts known got m e agreed h =
    subst (StandsAs NoReceipt p facts) (sym (never_closed A p got m e agreed (ap is_pending h.0))) h
try_closed A Sync p facts known got m e agreed h = subst (StandsAs Sync p facts) (sym (never_closed A p got m e agreed (ap is_pending h.0))) h
try_closed A (Async url) p facts known got m e agreed h = (
  more h.0 (AnOutcome m known got),
  since-push p facts (outcome_fact known got m) (Some h.0) h.1,
  closed_owed A p h.0 known got m e agreed h.2,
)

-- ---- the names of a posted document are agreed

IsKnown : Agreements → PostReading → Type 0
IsKnown A (Refuses line) = ⊤
IsKnown A (IsReceipt r) = ⊤
IsKnown A (IsDocument q) = (p : Partner) × AreAgreed A q.receiver q.sender p

module _ (A : Agreements) where
  needs_known : {X : Type 0} (o : Option X) (line : Line) (rest : X → PostReading) → ((x : X) → IsKnown A (rest x)) → IsKnown A (needs o line rest)
  unfolding IsKnown
  needs_known None line rest h = tt
  needs_known (Some x) line rest h = h x

  if_known : (b : Bool) (x y : PostReading) → IsKnown A x → IsKnown A y → IsKnown A (if b then x else y)
  if_known true x y h g = h
  if_known false x y h g = g

  -- the agreements have both names, or the post is refused
  if_agreed : (ours theirs : Bool) (rest : PostReading) → (ours ≡ true → theirs ≡ true → IsKnown A rest)
      → IsKnown A (if not (ours && theirs) then Refuses UnknownNames else rest)
  unfolding IsKnown
  if_agreed true true rest h = h refl refl
  if_agreed true false rest h = tt
  if_agreed false theirs rest h = tt

  agreed_names : (names : Text × Text) → is_organization A names.1 ≡ true → is_some (partner_of A names.0) ≡ true
      → (p : Partner) × AreAgreed A names.1 names.0 p
  agreed_names names ours theirs = let known = is_some_value (partner_of A names.0) theirs in (known.0, record { ours = ours; theirs = known.1 })

  reading_known : (known : Digests) (head : Head) (body : Text) → IsKnown A (post_reading A known head body)
  unfolding post_reading IsKnown
  reading_known known head body =
      needs_known (names_of head) BadNames _ (λ names.
      if_known (not (version_fits head)) (Refuses BadVersion) _ tt
      (if_agreed (is_organization A names.1) (is_some (partner_of A names.0)) _ (λ ours theirs.
      needs_known (type_of head) BadType _ (λ type.
      if_known (is_report type.0) _ _
      (needs_known (report_in type.0 body) UnreadableReceipt _ (λ r. tt))
      (needs_known (id_of head) BadId _ (λ id. needs_known (ask_of head) BadAsk _ (λ ask. agreed_names names ours theirs)))))))

  document_known : (r : PostReading) (q : Posted) → IsKnown A r → r ≡ IsDocument q → (p : Partner) × AreAgreed A q.receiver q.sender p
  unfolding IsKnown
  document_known r q h is = subst (IsKnown A) is h

-- ---- look-ups

received_number : (s : State) (n : ℕ) (e : InEntry) → received_entry s n ≡ Some e → e.number ≡ n
received_number s n e h = number_is e.number n (find_passes (λ (x : InEntry). x.number == n) s.inbox e h)

-- the entry of number n changes by f, which keeps number and document
module _ (s : State) (n : ℕ) (f : InEntry → InEntry) (kept : (e : InEntry) → lasting_part (f e) ≡ lasting_part e) where
  changed_number : (e : InEntry) → (if e.number == n then f e else e).number ≡ e.number
  changed_number e = by (e.number == n)
    where
      by : (b : Bool) → (if b then f e else e).number ≡ e.number
      by true = ap (λ (x : ℕ × Posted). x.0) (kept e)
      by false = refl

  received-changed : (k : ℕ) → received_entry (change_received s n f) k ≡ option_map (λ (e : InEntry). if e.number == n then f e else e) (received_entry s k)
  received-changed k =
      let still = λ (e : InEntry). ap (λ (j : ℕ). j == k) (changed_number e) in
      find-map (λ (e : InEntry). e.number == k) (λ (e : InEntry). if e.number == n then f e else e) still s.inbox

  received-changed_same : (e : InEntry) → received_entry s n ≡ Some e → received_entry (change_received s n f) n ≡ Some (f e)
  received-changed_same e h = received-changed n ∙ rw (h, received_number s n e h, same_number) refl

  received-changed_other : (k : ℕ) → (k == n) ≡ false → received_entry (change_received s n f) k ≡ received_entry s k
  received-changed_other k apart = received-changed k ∙ by (received_entry s k) refl
    where
      by : (o : Option InEntry) → received_entry s k ≡ o → option_map (λ (e : InEntry). if e.number == n then f e else e) o ≡ o
      by None h = refl
      by (Some e) h = rw (received_number s k e h, apart) refl

-- the entry d was found by the key of q
module _ (A : Agreements) (s : State) (q : Posted) (d : InEntry) (formed : IsWellFormed A s) (found : received_as s q ≡ Some d) where
  -- it is the one of its number
  found_by_key : received_entry s d.number ≡ Some d
  found_by_key = by (received_entry s d.number) refl
    where
      numbered : InEntry → Bool
      numbered x = x.number == d.number

      keyed : InEntry → Bool
      keyed x = same_key x.posted q

      by : (o : Option InEntry) → received_entry s d.number ≡ o → o ≡ Some d
      by None none = absurd (false≢true (sym (find_none numbered keyed s.inbox d none found) ∙ same_number d.number))
      by (Some e) is =
          let num : e.number ≡ d.number = received_number s d.number e is in
          let same : (e.number == d.number) ≡ true = rw num (same_number d.number) in
          let turned : (d.number == e.number) ≡ true = rw num (same_number d.number) in
          ap Some (one_found (λ a b. a == b) (λ (x : InEntry). x.number) numbered keyed s.inbox e d formed.received.numbers.distinct is found same turned)

  -- and the only one that the post repeats
  repeated_is : (e : InEntry) (n o k : ℕ) → received_entry s n ≡ Some e → repeats o k e.posted q ≡ true → e ≡ d
  repeated_is e n o k is same =
      let its : HaveOneKey e.posted q = post_key e.posted q (both _ _ same).0 in
      let key : HaveOneKey d.posted q = key_is d.posted q (find_passes (λ (x : InEntry). same_key x.posted q) s.inbox d found) in
      one_found same_key (λ (x : InEntry). x.posted) (λ (x : InEntry). x.number == n) (λ (x : InEntry). same_key x.posted q) s.inbox
      e d formed.received.keys is found
      (keys_joined e.posted d.posted q its key) (keys_joined d.posted e.posted q key its)

-- what isn't there wasn't there
gone_before : (s s' : State) (q : Posted) → Grows s s' → received_as s' q ≡ None → received_as s q ≡ None
gone_before s s' q grows none = by (received_as s q) refl
  where
    key : ℕ × Posted → Bool
    key z = same_key z.1 q

    here : option_map lasting_part (received_as s' q) ≡ option_or (option_map lasting_part (received_as s q)) (find key grows.0)
    here =
        sym (find-lasting q s'.inbox) ∙ ap (find key) grows.1 ∙ find-append key (recorded_posts s) grows.0
        ∙ ap (λ (o : Option (ℕ × Posted)). option_or o (find key grows.0)) (find-lasting q s.inbox)

    by : (o : Option InEntry) → received_as s q ≡ o → o ≡ None
    by None h = refl
    by (Some e) h =
        let there = ap (λ (o : Option InEntry). option_or (option_map lasting_part o) (find key grows.0)) h in
        let two : None ≡ Some (lasting_part e) = sym (ap (option_map lasting_part) none) ∙ here ∙ there in
        absurd (cc)

-- ---- what a run keeps

-- `unposted`: a document that isn't received was never queued, whatever its number; its first post needs that
record KeepsReceipts (A : Agreements) (past : List AnsweredEvent) (s : State) : Type 0 where
  formed : IsWellFormed A s
  each : (n : ℕ) (e : InEntry) → received_entry s n ≡ Some e → EntryStands A n past e.posted e
  unposted : (q : Posted) → received_as s q ≡ None → (n : ℕ) (p : Partner) → since_queued p (facts_of A n q past) ≡ None

-- an event that isn't the first post of the document
still_unposted : (A : Agreements) (n : ℕ) (q : Posted) (p : Partner) (past : List AnsweredEvent) (x : AnsweredEvent)
    → ((j : ℕ) → receipt_fact A n q x ≡ Some (APost j) → ⊥) → since_queued p (facts_of A n q past) ≡ None
    → since_queued p (facts_of A n q (past ++ x ∷ [])) ≡ None
still_unposted A n q p past x never h =
    ap (since_queued p) (facts-push A n q past x (receipt_fact A n q x) refl) ∙ by (receipt_fact A n q x) never
  where
    by : (o : Option ReceiptFact) → ((j : ℕ) → o ≡ Some (APost j) → ⊥) → since_queued p (with_more (facts_of A n q past) o) ≡ None
    by None never = h
    by (Some (APost j)) never = absurd (never j refl)
    by (Some (OfATry f)) never = since-push p (facts_of A n q past) (OfATry f) None h

-- what a post of q at moment m is to the receipt for p
abbrev PostsFor : Agreements → ℕ → AnsweredEvent → ℕ → Posted → Type 0
PostsFor A o x m q = (n : ℕ) (p : Posted) → receipt_fact A n p x ≡ (if repeats o n p q then Some (APost m) else None)

-- The event acts so on the receipt of number k, and on no other: an entry keeps number and document, and stands as it does with the
-- fact that the answer makes of the event.
record ActsOnReceipt (A : Agreements) (v : Version) (k : ℕ) (e : Event) (act : InEntry → Answer × InEntry) (its : Answer → Option ReceiptFact) : Type 0 where
  kept : (z : InEntry) → lasting_part (act z).1 ≡ lasting_part z
  told : (q : Posted) (a : Answer) → receipt_fact A k q (answered_event v e a) ≡ its a
  silent : (n : ℕ) (q : Posted) (a : Answer) → (k == n) ≡ false → receipt_fact A n q (answered_event v e a) ≡ None
  never : (n : ℕ) (q : Posted) (a : Answer) (j : ℕ) → receipt_fact A n q (answered_event v e a) ≡ Some (APost j) → ⊥
  moves : (z : InEntry) (p : Partner) (facts : List ReceiptFact) → AreAgreed A z.posted.receiver z.posted.sender p
      → StandsAs z.posted.how p facts z → StandsAs z.posted.how p (with_more facts (its (act z).0)) (act z).1

no_post : (b : Bool) (f : Fact) (j : ℕ) → (if b then Some (OfATry f) else None) ≡ Some (APost j) → ⊥
no_post true f j h = absurd (cc)
no_post false f j h = absurd (cc)

receipt_begin_acts : (A : Agreements) (v : Version) (k m : ℕ) → ActsOnReceipt A v k (BeginReceipt k m) (begun_receipt A m) (begin_fact m)
unfolding receipt_fact
receipt_begin_acts A v k m = record {
  kept = receipt_begun_lasting A m;
  told = λ q a. ap (λ (b : Bool). if b && is_job a then Some (OfATry (ATry m)) else None) (same_number k);
  silent = λ n q a apart. rw apart refl;
  never = λ n q a j h. no_post ((k == n) && is_job a) (ATry m) j h;
  moves = λ z p facts agreed h. try_begun A z.posted.how p facts m z agreed h;
}

receipt_outcome_acts : (A : Agreements) (v : Version) (k : ℕ) (got : TryAnswer) (m : ℕ)
    → ActsOnReceipt A v k (OutcomeReceipt k got m) (closed_receipt A got m) (λ a. Some (outcome_fact (known_digests v) got m))
unfolding receipt_fact
receipt_outcome_acts A v k got m = record {
  kept = receipt_closed_lasting A got m;
  told = λ q a. ap (λ (b : Bool). if b then Some (outcome_fact (known_digests v) got m) else None) (same_number k);
  silent = λ n q a apart. rw apart refl;
  never = λ n q a j h. no_post (k == n) (AnOutcome m (known_digests v) got) j h;
  moves = λ z p facts agreed h. try_closed A z.posted.how p facts (known_digests v) got m z agreed h;
}

-- what an event is to the receipts
module _ (A : Agreements) (v : Version) where
  other_quiet : (e : Event) (a : Answer) (n : ℕ) (q : Posted) → receipt_fact_of A n q v a e ≡ None → receipt_fact A n q (answered_event v e a) ≡ None
  unfolding receipt_fact
  other_quiet e a n q h = h

  refused_quiet : (head : Head) (body : Text) (m : ℕ) (a : Answer) (line : Line) → post_reading A (known_digests v) head body ≡ Refuses line
      → (n : ℕ) (q : Posted) → receipt_fact A n q (answered_event v (Post head body m) a) ≡ None
  unfolding receipt_fact
  refused_quiet head body m a line is n q = rw is refl

  receipt_quiet : (head : Head) (body : Text) (m : ℕ) (a : Answer) (r : ReceivedReceipt) → post_reading A (known_digests v) head body ≡ IsReceipt r
      → (n : ℕ) (q : Posted) → receipt_fact A n q (answered_event v (Post head body m) a) ≡ None
  unfolding receipt_fact
  receipt_quiet head body m a r is n q = rw is refl

  posts_for : (head : Head) (body : Text) (m : ℕ) (a : Answer) (q : Posted) → post_reading A (known_digests v) head body ≡ IsDocument q
      → PostsFor A (origin_of v) (answered_event v (Post head body m) a) m q
  unfolding receipt_fact
  posts_for head body m a q is n p = rw is refl

-- a receipt as it is first owed
first_stands : (how : ReceiptDelivery) (p : Partner) (facts : List ReceiptFact) (n m : ℕ) (q : Posted) → q.how ≡ how
    → since_queued p facts ≡ Some (found_place [] m) → StandsAs how p facts (first_entry n m q)
first_stands NoReceipt p facts n m q is since = (rw is refl, refl, refl, rw is refl)
first_stands Sync p facts n m q is since = (rw is refl, refl, refl, rw is refl)
first_stands (Async url) p facts n m q is since = (found_place [] m, since, queued_owed p m (first_entry n m q) (rw is refl) refl refl (rw is refl))

-- ---- a state that is so, and one event more

module _ (A : Agreements) (past : List AnsweredEvent) (s : State) (keeps : KeepsReceipts A past s) where
  unposted_on : (s' : State) (x : AnsweredEvent) → Grows s s'
      → ((q : Posted) (n : ℕ) → received_as s' q ≡ None → (j : ℕ) → receipt_fact A n q x ≡ Some (APost j) → ⊥)
      → (q : Posted) → received_as s' q ≡ None → (n : ℕ) (p : Partner) → since_queued p (facts_of A n q (past ++ x ∷ [])) ≡ None
  unposted_on s' x grows never q none n p =
      still_unposted A n q p past x (never q n none) (keeps.unposted q (gone_before s s' q grows none) n p)

  -- an event that leaves the inbox, and is no fact of any receipt
  quiet : (s' : State) (x : AnsweredEvent) → IsWellFormed A s' → Grows s s' → s'.inbox ≡ s.inbox → ((n : ℕ) (q : Posted) → receipt_fact A n q x ≡ None)
      → KeepsReceipts A (past ++ x ∷ []) s'
  quiet s' x formed grows same none = record {
    formed = formed;
    each = λ n e is.
        let at : received_entry s n ≡ Some e = ap (find (λ (d : InEntry). d.number == n)) (sym same) ∙ is in
        stands_still A n past x e.posted e (none n e.posted) (keeps.each n e at);
    unposted = unposted_on s' x grows (λ q n gone j h. let two : None ≡ Some (APost j) = sym (none n q) ∙ h in absurd (cc));
  }

  -- an event on one document
  document_receipts : (e : Event) (k : ℕ) (act : OutEntry → Answer × OutEntry) (y : Answer × State) → Some (on_document s k act) ≡ Some y
      → ((n : ℕ) (q : Posted) → receipt_fact_of A n q s.version y.0 e ≡ None) → IsWellFormed A y.1 → Grows s y.1
      → KeepsReceipts A (past ++ answered_event s.version e y.0 ∷ []) y.1
  document_receipts e k act y h none formed grows =
      let same : y.1.inbox ≡ s.inbox = left_inbox _ y h ∙ acted_inbox s k act (document s k) in
      quiet y.1 _ formed grows same (λ n q. other_quiet A s.version e y.0 n q (none n q))

  -- the entry of number k changes by f, and the event is no fact of any other
  changed_entry : (x : AnsweredEvent) (k : ℕ) (f : InEntry → InEntry) (d : InEntry) → ((z : InEntry) → lasting_part (f z) ≡ lasting_part z)
      → received_entry s k ≡ Some d → EntryStands A k (past ++ x ∷ []) d.posted (f d)
      → ((n : ℕ) (e : InEntry) → (k == n) ≡ false → received_entry s n ≡ Some e → receipt_fact A n e.posted x ≡ None)
      → (n : ℕ) (e : InEntry) → received_entry (change_received s k f) n ≡ Some e → EntryStands A n (past ++ x ∷ []) e.posted e
  changed_entry x k f d kept found stood silent n e is = by (k == n) refl
    where
      by : (b : Bool) → (k == n) ≡ b → EntryStands A n (past ++ x ∷ []) e.posted e
      by false apart =
          let at : received_entry s n ≡ Some e = sym (received-changed_other s k f kept n (apart_turned k n k refl apart)) ∙ is in
          stands_still A n past x e.posted e (silent n e apart at) (keeps.each n e at)
      by true same =
          let num : k ≡ n = number_is k n same in
          let left = received-changed_same s k f kept d found in
          let it : f d ≡ e = same_Some _ _ (sym left ∙ ap (received_entry (change_received s k f)) num ∙ is) in
          stands_renamed A (past ++ x ∷ []) k n d.posted (f d) e num (ap (λ (z : ℕ × Posted). z.1) (kept d)) it stood

  -- ---- a try of one receipt begins or ends

  module _ (k : ℕ) (e : Event) (act : InEntry → Answer × InEntry) (its : Answer → Option ReceiptFact) (acts : ActsOnReceipt A s.version k e act its) where
    acted_receipts : (o : Option InEntry) → received_entry s k ≡ o → IsWellFormed A (act_in s k act o).1 → Grows s (act_in s k act o).1
        → KeepsReceipts A (past ++ answered_event s.version e (act_in s k act o).0 ∷ []) (act_in s k act o).1
    acted_receipts None none formed grows = record {
      formed = formed;
      each = λ n d is. stands_still A n past x d.posted d (acts.silent n d.posted (Refused NoSuchNumber) (absent n d is)) (keeps.each n d is);
      unposted = unposted_on s x grows (λ q n gone. acts.never n q (Refused NoSuchNumber));
    }
      where
        x : AnsweredEvent
        x = answered_event s.version e (Refused NoSuchNumber)

        absent : (n : ℕ) (d : InEntry) → received_entry s n ≡ Some d → (k == n) ≡ false
        absent n d is = false_from_ne_true (k == n)
            (λ h. let two : None ≡ Some d = sym none ∙ ap (received_entry s) (number_is k n h) ∙ is in absurd (cc))
    acted_receipts (Some d) found formed grows = record {
      formed = formed;
      each = changed_entry x k (λ z. (act z).1) d acts.kept found stood (λ n z apart at. acts.silent n z.posted (act d).0 apart);
      unposted = unposted_on (change_received s k (λ z. (act z).1)) x grows (λ q n gone. acts.never n q (act d).0);
    }
      where
        x : AnsweredEvent
        x = answered_event s.version e (act d).0

        stood : EntryStands A k (past ++ x ∷ []) d.posted (act d).1
        stood = stands_with A k past x d.posted (its (act d).0) d (act d).1 (acts.told d.posted (act d).0) (keeps.each k d found) (acts.moves d)

    receipt_step : (y : Answer × State) → Some (on_received s k act) ≡ Some y → IsWellFormed A y.1 → Grows s y.1
        → KeepsReceipts A (past ++ answered_event s.version e y.0 ∷ []) y.1
    receipt_step y h = subst kept (same_Some _ y h) (acted_receipts (received_entry s k) refl)
      where
        kept : Answer × State → Type 0
        kept z = IsWellFormed A z.1 → Grows s z.1 → KeepsReceipts A (past ++ answered_event s.version e z.0 ∷ []) z.1

  -- ---- a document is posted

  module _ (m : ℕ) (q : Posted) (x : AnsweredEvent) (post : PostsFor A (origin_of s.version) x m q) where
    is_posted : (n : ℕ) (p : Posted) → repeats (origin_of s.version) n p q ≡ true → receipt_fact A n p x ≡ Some (APost m)
    is_posted n p same = post n p ∙ rw same refl

    not_posted : (n : ℕ) (p : Posted) → (repeats (origin_of s.version) n p q ≡ true → ⊥) → receipt_fact A n p x ≡ None
    not_posted n p other = post n p ∙ rw (false_from_ne_true (repeats (origin_of s.version) n p q) other) refl

    post_one_key : (n : ℕ) (p : Posted) (j : ℕ) → receipt_fact A n p x ≡ Some (APost j) → HaveOneKey p q
    post_one_key n p j h = by (repeats (origin_of s.version) n p q) refl (sym (post n p) ∙ h)
      where
        by : (b : Bool) → repeats (origin_of s.version) n p q ≡ b → (if b then Some (APost m) else None) ≡ Some (APost j) → HaveOneKey p q
        by true is g = post_key p q (both _ _ is).0
        by false is g = absurd (cc)

    -- a document that was posted before
    never_new : (s' : State) (d : InEntry) → Grows s s' → received_as s q ≡ Some d → (p : Posted) (n : ℕ) → received_as s' p ≡ None → (j : ℕ)
        → receipt_fact A n p x ≡ Some (APost j) → ⊥
    never_new s' d grows found p n gone j h =
        let two : None ≡ Some d = sym (gone_before s s' p grows gone) ∙ received_one s p q (post_one_key n p j h) ∙ found in
        absurd (cc)

    -- it is recorded
    fresh_receipts : ((p : Partner) × AreAgreed A q.receiver q.sender p) → received_as s q ≡ None → IsWellFormed A (with_first s m q)
        → Grows s (with_first s m q) → KeepsReceipts A (past ++ x ∷ []) (with_first s m q)
    fresh_receipts known none formed grows = record {
      formed = formed;
      each = λ n e is. by n e (received_entry s n) refl (sym (find-append (λ (d : InEntry). d.number == n) s.inbox (first_entry s.next_in m q ∷ [])) ∙ is);
      unposted = unposted_on (with_first s m q) x grows never;
    }
      where
        other : (n : ℕ) (d : InEntry) → received_entry s n ≡ Some d → repeats (origin_of s.version) n d.posted q ≡ true → ⊥
        other n d is h =
            let key : same_key d.posted q ≡ false = find_none (λ (e : InEntry). same_key e.posted q) (λ (e : InEntry). e.number == n) s.inbox d none is in
            false≢true (sym key ∙ one_key d.posted q (post_key d.posted q (both _ _ h).0))

        queued : (n : ℕ) → since_queued known.0 (facts_of A n q (past ++ x ∷ [])) ≡ Some (found_place [] m)
        queued n =
            ap (since_queued known.0) (facts-push A n q past x (Some (APost m)) (is_posted n q (repeats_itself (origin_of s.version) n q)))
            ∙ since-push known.0 (facts_of A n q past) (APost m) None (keeps.unposted q none n known.0)

        its_first : (n : ℕ) → EntryStands A n (past ++ x ∷ []) q (first_entry s.next_in m q)
        its_first n = record {
          partner = known.0;
          agreed = known.1;
          stands = first_stands q.how known.0 (facts_of A n q (past ++ x ∷ [])) s.next_in m q refl (queued n);
        }

        new : (n : ℕ) (e : InEntry) (b : Bool) → (if b then Some (first_entry s.next_in m q) else None) ≡ Some e
            → EntryStands A n (past ++ x ∷ []) e.posted e
        new n e true h = subst (λ (z : InEntry). EntryStands A n (past ++ x ∷ []) z.posted z) (same_Some _ _ h) (its_first n)
        new n e false h = absurd (cc)

        by : (n : ℕ) (e : InEntry) (o : Option InEntry) → received_entry s n ≡ o
            → option_or o (find (λ (d : InEntry). d.number == n) (first_entry s.next_in m q ∷ [])) ≡ Some e → EntryStands A n (past ++ x ∷ []) e.posted e
        by n e (Some d) at h =
            let stood = stands_still A n past x d.posted d (not_posted n d.posted (other n d at)) (keeps.each n d at) in
            subst (λ (z : InEntry). EntryStands A n (past ++ x ∷ []) z.posted z) (same_Some _ _ h) stood
        by n e None at h = new n e (s.next_in == n) h

        there : received_as (with_first s m q) q ≡ Some (first_entry s.next_in m q)
        there = find-append (λ (e : InEntry). same_key e.posted q) s.inbox (first_entry s.next_in m q ∷ []) ∙ rw (none, key_same q) refl

        never : (p : Posted) (n : ℕ) → received_as (with_first s m q) p ≡ None → (j : ℕ) → receipt_fact A n p x ≡ Some (APost j) → ⊥
        never p n gone j h =
            let one = received_one (with_first s m q) p q (post_one_key n p j h) in
            let two : None ≡ Some (first_entry s.next_in m q) = sym gone ∙ one ∙ there in
            absurd (cc)

    -- it repeats one
    repeated_receipts : (d : InEntry) → received_as s q ≡ Some d → repeats (origin_of s.version) d.number d.posted q ≡ true
        → IsWellFormed A (change_received s d.number (requeued_by_repeat m)) → Grows s (change_received s d.number (requeued_by_repeat m))
        → KeepsReceipts A (past ++ x ∷ []) (change_received s d.number (requeued_by_repeat m))
    repeated_receipts d found same formed grows = record {
      formed = formed;
      each = changed_entry x d.number (requeued_by_repeat m) d (queued_lasting m) at stood (λ n e apart is. not_posted n e.posted (other n e apart is));
      unposted = unposted_on s' x grows (never_new s' d grows found);
    }
      where
        s' : State
        s' = change_received s d.number (requeued_by_repeat m)

        at : received_entry s d.number ≡ Some d
        at = found_by_key A s q d keeps.formed found

        stood : EntryStands A d.number (past ++ x ∷ []) d.posted (requeued_by_repeat m d)
        stood = stands_with A d.number past x d.posted (Some (APost m)) d (requeued_by_repeat m d) (is_posted d.number d.posted same)
            (keeps.each d.number d at) (λ p facts agreed stands. reposted d.posted.how p facts m d refl stands)

        other : (n : ℕ) (e : InEntry) → (d.number == n) ≡ false → received_entry s n ≡ Some e → repeats (origin_of s.version) n e.posted q ≡ true → ⊥
        other n e apart is h =
            let it : e ≡ d = repeated_is A s q d keeps.formed found e n (origin_of s.version) n is h in
            let num : d.number ≡ n = ap (λ (z : InEntry). z.number) (sym it) ∙ received_number s n e is in
            false≢true (sym apart ∙ ap (λ (j : ℕ). d.number == j) (sym num) ∙ same_number d.number)

    -- it clashes with one
    clash_receipts : (d : InEntry) → received_as s q ≡ Some d → repeats (origin_of s.version) d.number d.posted q ≡ false → Grows s s
        → KeepsReceipts A (past ++ x ∷ []) s
    clash_receipts d found other grows = record {
      formed = keeps.formed;
      each = λ n e is. stands_still A n past x e.posted e (not_posted n e.posted (clashes n e is)) (keeps.each n e is);
      unposted = unposted_on s x grows (never_new s d grows found);
    }
      where
        again : InEntry → ℕ → Bool
        again e n = repeats (origin_of s.version) n e.posted q

        clashes : (n : ℕ) (e : InEntry) → received_entry s n ≡ Some e → repeats (origin_of s.version) n e.posted q ≡ true → ⊥
        clashes n e is h =
            let it : e ≡ d = repeated_is A s q d keeps.formed found e n (origin_of s.version) n is h in
            let num : e.number ≡ n = received_number s n e is in
            false≢true (sym other ∙ ap (λ (z : InEntry). again z z.number) (sym it) ∙ ap (again e) num ∙ h)

    -- what is kept of one state is kept of the same state under another name
    kept_at : (s' t : State) → s' ≡ t → (IsWellFormed A t → Grows s t → KeepsReceipts A (past ++ x ∷ []) t) → IsWellFormed A s' → Grows s s'
        → KeepsReceipts A (past ++ x ∷ []) s'
    kept_at s' t is kept = subst (λ (z : State). IsWellFormed A z → Grows s z → KeepsReceipts A (past ++ x ∷ []) z) (sym is) kept

    posted_receipts : (y : Answer × State) → ((p : Partner) × AreAgreed A q.receiver q.sender p) → RecordedOrSame A s m q (received_as s q) y
        → IsWellFormed A y.1 → Grows s y.1 → KeepsReceipts A (past ++ x ∷ []) y.1
    posted_receipts y known (fresh none small is) = kept_at y.1 (with_first s m q) (ap (λ (z : Answer × State). z.1) is) (fresh_receipts known none)
    posted_receipts y known (repeated d there same is) =
        kept_at y.1 (change_received s d.number (requeued_by_repeat m)) (ap (λ (z : Answer × State). z.1) is) (repeated_receipts d there same)
    posted_receipts y known (clash d there other is) = kept_at y.1 s is (λ formed. clash_receipts d there other)

  post_receipts : (head : Head) (body : Text) (m : ℕ) (r : PostReading) (y : Answer × State) → post_reading A (known_digests s.version) head body ≡ r
      → post A s m r ≡ Some y → IsWellFormed A y.1 → Grows s y.1 → KeepsReceipts A (past ++ answered_event s.version (Post head body m) y.0 ∷ []) y.1
  unfolding record_post
  post_receipts head body m (Refuses line) y is h formed grows =
      quiet y.1 _ formed grows (left_inbox _ y h) (refused_quiet A s.version head body m y.0 line is)
  post_receipts head body m (IsReceipt r) y is h formed grows =
      quiet y.1 _ formed grows (left_inbox _ y h ∙ (settle_inbox s m r).0) (receipt_quiet A s.version head body m y.0 r is)
  post_receipts head body m (IsDocument q) y is h formed grows =
      let read = post_reading A (known_digests s.version) head body in
      let known = document_known A read q (reading_known A (known_digests s.version) head body) is in
      posted_receipts m q (answered_event s.version (Post head body m) y.0) (posts_for A s.version head body m y.0 q is) y known
      (post_cases A s m q (received_as s q) y h) formed grows

  -- ---- a step

  step_receipts : (e : Event) (y : Answer × State) → step A s e ≡ Some y → IsWellFormed A y.1 → Grows s y.1
      → KeepsReceipts A (past ++ answered_event s.version e y.0 ∷ []) y.1
  step_receipts (Post head body m) y h = post_receipts head body m (post_reading A (known_digests s.version) head body) y refl h
  step_receipts (Submit organization partner content m) y h = λ formed grows.
      quiet y.1 _ formed grows (submit_inbox A s organization partner content m y h)
      (λ n q. other_quiet A s.version (Submit organization partner content m) y.0 n q refl)
  step_receipts (Begin k m) y h = document_receipts (Begin k m) k (begun_document A m) y h (λ n q. refl)
  step_receipts (Outcome k got m) y h = document_receipts (Outcome k got m) k (closed_document A (known_digests s.version) got m) y h (λ n q. refl)
  step_receipts (Resend k m) y h = document_receipts (Resend k m) k (resent_document A m) y h (λ n q. refl)
  step_receipts (Tick m) y h = λ formed grows.
      quiet y.1 _ formed grows (left_inbox _ y h ∙ tick_inbox m s) (λ n q. other_quiet A s.version (Tick m) y.0 n q refl)
  step_receipts (BeginReceipt k m) y h = receipt_step k (BeginReceipt k m) (begun_receipt A m) (begin_fact m) (receipt_begin_acts A s.version k m) y h
  step_receipts (OutcomeReceipt k got m) y h =
      receipt_step k (OutcomeReceipt k got m) (closed_receipt A got m) (λ a. Some (outcome_fact (known_digests s.version) got m))
      (receipt_outcome_acts A s.version k got m) y h

-- ---- a run

module _ (A : Agreements) where
  nothing_received : (v : Version) (first : ℕ) → IsCounter first → KeepsReceipts A [] (empty v first)
  unfolding since_queued
  nothing_received v first h = record { formed = empty_formed A v first h; each = λ n e is. absurd (cc); unposted = λ q gone n p. refl }

  -- a migration leaves the receipts
  migrated_receipts : (past : List AnsweredEvent) (s : State) → KeepsReceipts A past s → KeepsReceipts A past (migrated_state s)
  migrated_receipts past s keeps = record { formed = migrated_formed A s keeps.formed; each = keeps.each; unposted = keeps.unposted }

  run_receipts : (past : List AnsweredEvent) (old : State) (trace : Trace) (new : State) → KeepsReceipts A past old → Run A old trace new
      → KeepsReceipts A (past ++ accepted_events old.version trace) new
  run_receipts past old [] new keeps run = rw (run, append-nil past) keeps
  run_receipts past old (AnEvent e (Answered a) ∷ rest) new keeps run =
      let y : Answer × State = (a, run.0) in
      let x = answered_event old.version e a in
      let now = step_receipts A past old keeps e y run.1 (step_formed A old e y keeps.formed run.1) (step_grows A old e y run.1) in
      let end = run_receipts (past ++ x ∷ []) run.0 rest new now run.2 in
      let told = subst (λ (v : Version). KeepsReceipts A ((past ++ x ∷ []) ++ accepted_events v rest) new) (step_steady A old e y run.1).0 end in
      subst (λ (d : List AnsweredEvent). KeepsReceipts A d new) (append_assoc past (x ∷ []) (accepted_events old.version rest)) told
  run_receipts past old (AnEvent e (Failed fault) ∷ rest) new keeps run = run_receipts past old rest new keeps run.1
  run_receipts past old (AMigration n ∷ rest) new keeps run =
      subst (λ (m : ℕ). KeepsReceipts A (past ++ accepted_events (LaterVersion m) rest) new) (sym run.1)
      (run_receipts past (migrated_state old) rest new (migrated_receipts past old keeps) run.2)

-- ---- the law

stands_told : (how : ReceiptDelivery) (p : Partner) (facts : List ReceiptFact) (e : InEntry) → StandsAs how p facts e
    → history_by_how how p (since_queued p facts) ≡ Some (receipt_told e)
stands_told NoReceipt p facts e h = λ i. Some (record { receipt_stage = sym h.0 i; tries = sym h.1 i; attempt = sym h.2 i; due = sym h.3 i })
stands_told Sync p facts e h = λ i. Some (record { receipt_stage = sym h.0 i; tries = sym h.1 i; attempt = sym h.2 i; due = sym h.3 i })
stands_told (Async url) p facts e h =
    ap (option_map (sent_later p)) h.1
    ∙ (λ i. Some (record { receipt_stage = sym h.2.state i; tries = sym h.2.count i; attempt = sym h.2.try i; due = sym h.2.wait i }))

pub receipts_law : (A : Agreements) (v : Version) (first : ℕ) (trace : Trace) (s : State) → IsCounter first → Run A (empty v first) trace s
    → (n : ℕ) (e : InEntry) → received_entry s n ≡ Some e → receipt_history A (accepted_events v trace) n e.posted ≡ Some (receipt_told e)
receipts_law A v first trace s h run n e is =
    let stands = (run_receipts A [] (empty v first) trace s (nothing_received A v first h) run).each n e is in
    let facts = facts_of A n e.posted (accepted_events v trace) in
    ap (λ (o : Option Partner). option_and_then (λ (p : Partner). history_by_how e.posted.how p (since_queued p facts)) o) stands.agreed.theirs
    ∙ stands_told e.posted.how stands.partner facts e stands.stands

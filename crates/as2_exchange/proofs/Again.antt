-- A post that was recorded and comes again, also after a migration.
-- The plan: a post that was recorded is read alike later (`reading_alike`), its entry is still there (`found_later`), and what is read now
-- repeats what was read then (`repeats_still`); so the answer is the one of that entry (`again`), and `repeat_law` joins these.
-- A new field of a posted document belongs into `same_post` or into `same_result`, and `reading_alike` follows the reading of posts.
use Rattle.std.proofs.Common.{◌≡◌, ◌⊎◌, inl, inr, ℕ, ◌+◌, ◌<◌, ◌≤◌, Bool, true, false, not, ◌&&◌, List}
use Rattle.std.proofs.Common.{[], ◌∷◌, ◌++◌, map, Option, Some, None, refl, sym, ap, ◌∙◌, subst, arith}
use Rattle.std.specs.Prelude.{option_map, is_some, if◌then◌else◌, nat_lt}
use Rattle.std.specs.Option.{option_or}
use Rattle.std.specs.List.{find}
use Rattle.std.proofs.lemmas.Bool.Decides.{nat_tests}
use Rattle.std.proofs.lemmas.List.Folds.{find-append}
use Rattle.std.proofs.lemmas.Option.{same_Some}
use Rattle.as2_exchange.specs.Agreement.{Text, Agreements, is_organization, partner_of}
use Rattle.as2_exchange.specs.Readings.{Head, MediaType, names_of, version_fits, type_of, is_report, report_in, id_of, ask_of}
use Rattle.as2_exchange.specs.State.{Posted, InEntry, State, Digests, Version, LaterVersion, known_digests}
use Rattle.as2_exchange.specs.State.{origin_of, lasting_part, same_key, received_as, change_received}
use Rattle.as2_exchange.specs.Events.{Post, Answer, Words, IdUsedBefore, Line, BadNames, BadVersion, UnknownNames, BadType, BadId, BadAsk, UnreadableReceipt}
use Rattle.as2_exchange.specs.Posts.{PostReading, Refuses, IsReceipt, IsDocument, needs, report_posted, document_posted, post_reading, same_post, repeats}
use Rattle.as2_exchange.specs.Documents.{settle}
use Rattle.as2_exchange.specs.Lines.{http}
use Rattle.as2_exchange.specs.Recording.{record_given, record_post, answer_to, requeued_by_repeat, first_entry}
use Rattle.as2_exchange.specs.Step.{post, step}
use Rattle.as2_exchange.specs.Run.{Trace, Run, AnEvent, AMigration, Answered, Failed, migrated_state}
use Rattle.as2_exchange.proofs.Repeats.{RecordedOrSame, fresh, repeated, clash, post_cases, with_first, recorded_posts, Grows, run_grows, find-lasting}
use Rattle.as2_exchange.proofs.Repeats.{key_same, post_itself, repeats_itself, settle_inbox, queued_lasting, map_append, change_keeps_lasting}
use Rattle.as2_exchange.proofs.Equal.{post_key, received_one}
use Rattle.as2_exchange.proofs.Steady.{step_steady}

-- ---- where other digests are known, the same is posted

-- what is a document under the one is that document under the other, as far as it was posted
abbrev Alike : PostReading → PostReading → Type 0
Alike r s = (p : Posted) → r ≡ IsDocument p → (q : Posted) × (s ≡ IsDocument q) × (same_post p q ≡ true)

never_document : (r s : PostReading) → ((p : Posted) → r ≡ IsDocument p → ⊥) → Alike r s
never_document r s h p is = absurd (h p is)

needs_alike : {X : Type 0} (o : Option X) (line : Line) (f g : X → PostReading) → ((x : X) → Alike (f x) (g x)) → Alike (needs o line f) (needs o line g)
needs_alike None line f g h = never_document (Refuses line) (Refuses line) (λ p is. cc)
needs_alike (Some x) line f g h = h x

if_alike : (b : Bool) (x y z w : PostReading) → Alike x z → Alike y w → Alike (if b then x else y) (if b then z else w)
if_alike true x y z w h g = h
if_alike false x y z w h g = g

refused_alike : (line : Line) → Alike (Refuses line) (Refuses line)
refused_alike line = never_document (Refuses line) (Refuses line) (λ p is. cc)

report_alike : (k l : Digests) (names : Text × Text) (type : MediaType × Text) (body : Text)
    → Alike (report_posted k names type body) (report_posted l names type body)
report_alike k l names type body = needs_alike (report_in type.0 body) UnreadableReceipt _ _ (λ r. never_document _ _ (λ p is. cc))

document_alike : (k l : Digests) (names : Text × Text) (type : MediaType × Text) (head : Head) (body : Text)
    → Alike (document_posted k names type head body) (document_posted l names type head body)
document_alike k l names type head body =
    needs_alike (id_of head) BadId _ _ (λ id.
    needs_alike (ask_of head) BadAsk _ _ (λ ask p is. (_, refl, made p _ (same_document _ _ is))))
  where
    same_document : (p q : Posted) → IsDocument p ≡ IsDocument q → p ≡ q
    same_document p q is = cc

    made : (p q : Posted) → q ≡ p → same_post p q ≡ true
    made p q is = subst (λ (x : Posted). same_post p x ≡ true) (sym is) (post_itself p)

reading_alike : (A : Agreements) (k l : Digests) (head : Head) (body : Text) → Alike (post_reading A k head body) (post_reading A l head body)
unfolding post_reading
reading_alike A k l head body =
    needs_alike (names_of head) BadNames _ _ (λ names.
    if_alike (not (version_fits head)) _ _ _ _ (refused_alike BadVersion)
    (if_alike (not (is_organization A names.1 && is_some (partner_of A names.0))) _ _ _ _ (refused_alike UnknownNames)
    (needs_alike (type_of head) BadType _ _ (λ type.
    if_alike (is_report type.0) _ _ _ _ (report_alike k l names type body) (document_alike k l names type head body)))))

-- ---- a run keeps the version, or has its origin behind what was recorded before

KnowsOrNot : State → State → Type 0
KnowsOrNot old new = (new.version ≡ old.version) ⊎ (old.next_in ≤ origin_of new.version)

run_origin : (A : Agreements) (old : State) (trace : Trace) (new : State) → Run A old trace new → KnowsOrNot old new
unfolding KnowsOrNot
run_origin A old [] new run = inl (ap (λ (s : State). s.version) run)
run_origin A old (AnEvent e (Answered a) ∷ rest) new run =
    let steady = step_steady A old e (a, run.0) run.1 in
    on run.0 steady.0 steady.1 (run_origin A run.0 rest new run.2)
  where
    on : (mid : State) → mid.version ≡ old.version → old.next_in ≤ mid.next_in → (new.version ≡ mid.version) ⊎ (mid.next_in ≤ origin_of new.version)
        → (new.version ≡ old.version) ⊎ (old.next_in ≤ origin_of new.version)
    on mid same more (inl is) = inl (is ∙ same)
    on mid same more (inr is) = inr (omega (arith, more, is))
run_origin A old (AnEvent e (Failed fault) ∷ rest) new run = run_origin A old rest new run.1
run_origin A old (AMigration n ∷ rest) new run = on (run_origin A (migrated_state old) rest new run.2)
  where
    on : (new.version ≡ LaterVersion old.next_in) ⊎ (old.next_in ≤ origin_of new.version) → (new.version ≡ old.version) ⊎ (old.next_in ≤ origin_of new.version)
    on (inl is) = let at : origin_of new.version ≡ old.next_in = ap origin_of is in inr (omega (arith, at))
    on (inr is) = inr is

-- ---- a post that was recorded, and comes again

-- it is a document that no entry had the key of
WasNew : Agreements → State → ℕ → Posted → Answer × State → Type 0
WasNew A s m p y = (received_as s p ≡ None) × (y ≡ (answer_to A s.next_in p, with_first s m p))

new_document_is : (A : Agreements) (s : State) (m : ℕ) (p : Posted) (y : Answer × State) → s.next_in < y.1.next_in
    → RecordedOrSame A s m p (received_as s p) y → WasNew A s m p y
unfolding WasNew
new_document_is A s m p y grew (fresh none small is) = (none, is)
new_document_is A s m p y grew (repeated e there same is) =
    absurd (let at : y.1.next_in ≡ s.next_in = ap (λ (z : Answer × State). z.1.next_in) is in omega arith)
new_document_is A s m p y grew (clash e there other is) = absurd (let at : y.1.next_in ≡ s.next_in = ap (λ (z : State). z.next_in) is in omega arith)

was_new : (A : Agreements) (s : State) (m : ℕ) (r : PostReading) (y : Answer × State) → post A s m r ≡ Some y → s.next_in < y.1.next_in → (p : Posted)
    × (r ≡ IsDocument p) × WasNew A s m p y
unfolding record_post
was_new A s m (Refuses line) y h grew = absurd (let at : s.next_in ≡ y.1.next_in = ap (λ (z : Answer × State). z.1.next_in) (same_Some _ y h) in omega arith)
was_new A s m (IsReceipt r) y h grew =
    let at : (settle s m r).1.next_in ≡ y.1.next_in = ap (λ (z : Answer × State). z.1.next_in) (same_Some _ y h) in
    let same : (settle s m r).1.next_in ≡ s.next_in = (settle_inbox s m r).1 in
    absurd (omega arith)
was_new A s m (IsDocument p) y h grew = (p, refl, new_document_is A s m p y grew (post_cases A s m p (received_as s p) y h))

-- the entry is found again, however many came behind it
found_later : (s t u : State) (n m : ℕ) (p : Posted) → received_as s p ≡ None → recorded_posts t ≡ recorded_posts s ++ (n, p) ∷ [] → Grows t u
    → option_map lasting_part (received_as u p) ≡ Some (n, p)
found_later s t u n m p none is grows =
    sym (find-lasting p u.inbox)
    ∙ ap (find key) (grows.1 ∙ ap (λ (l : List (ℕ × Posted)). l ++ grows.0) is)
    ∙ find-append key (recorded_posts s ++ (n, p) ∷ []) grows.0
    ∙ ap (λ (o : Option (ℕ × Posted)). option_or o (find key grows.0)) first
  where
    key : ℕ × Posted → Bool
    key z = same_key z.1 p

    first : find key (recorded_posts s ++ (n, p) ∷ []) ≡ Some (n, p)
    first = find-append key (recorded_posts s) ((n, p) ∷ []) ∙ rw (find-lasting p s.inbox, none, key_same p) refl

-- a post that is read now repeats what was read then
repeats_still : (old new : State) (n : ℕ) (p q : Posted) → same_post p q ≡ true → (new.version ≡ old.version → p ≡ q) → n < old.next_in → KnowsOrNot old new
    → repeats (origin_of new.version) n p q ≡ true
unfolding KnowsOrNot
repeats_still old new n p q posted same less (inl is) =
    subst (λ (x : Posted). repeats (origin_of new.version) n p x ≡ true) (same is) (repeats_itself (origin_of new.version) n p)
repeats_still old new n p q posted same less (inr is) =
    let below : nat_lt n (origin_of new.version) ≡ true = small n (origin_of new.version) (omega (arith, less, is)) in
    rw (posted, below) refl
  where
    small : (a b : ℕ) → a < b → nat_lt a b ≡ true
    small a b h = grind (arith, nat_tests)

-- what a repeat is answered, and what it leaves
AnswersAlike : Agreements → State → ℕ → Posted → Option (Answer × State) → Type 0
AnswersAlike A u n p o =
    (end : State) × (o ≡ Some (answer_to A n p, end)) × (recorded_posts end ≡ recorded_posts u) × (end.next_in ≡ u.next_in) × (end.outbox ≡ u.outbox)

again : (A : Agreements) (u : State) (k n : ℕ) (p q : Posted) (o : Option InEntry) → option_map lasting_part o ≡ Some (n, p)
    → repeats (origin_of u.version) n p q ≡ true → AnswersAlike A u n p (record_given A u k q o)
unfolding AnswersAlike
again A u k n p q None found repeat = absurd (cc)
again A u k n p q (Some e) found repeat = (
  change_received u e.number (requeued_by_repeat k),
  ap (λ (b : Bool). if b then answered (e.number, e.posted) else Some (http 409 (Words IdUsedBefore), u)) same ∙ ap answered it,
  change_keeps_lasting e.number (requeued_by_repeat k) (queued_lasting k) u.inbox,
  refl,
  refl,
)
  where
    answered : ℕ × Posted → Option (Answer × State)
    answered z = Some (answer_to A z.0 z.1, change_received u e.number (requeued_by_repeat k))

    it : lasting_part e ≡ (n, p)
    it = same_Some _ _ found

    same : repeats (origin_of u.version) e.number e.posted q ≡ true
    same = ap (λ (z : ℕ × Posted). repeats (origin_of u.version) z.0 z.1 q) it ∙ repeat

same_document : (p q : Posted) → IsDocument p ≡ IsDocument q → p ≡ q
same_document p q is = cc

-- under one version it is read as one document
same_under : (A : Agreements) (v w : Version) (head : Head) (body : Text) (p q : Posted) → post_reading A (known_digests v) head body ≡ IsDocument p
    → post_reading A (known_digests w) head body ≡ IsDocument q → w ≡ v → p ≡ q
same_under A v w head body p q here there is = same_document p q (sym here ∙ ap (λ (x : Version). post_reading A (known_digests x) head body) (sym is) ∙ there)

-- the post of a document that repeats the entry, by what it is read as
posted_again : (A : Agreements) (later : State) (k n : ℕ) (p q : Posted) (first : Answer) (r : PostReading) → r ≡ IsDocument q → answer_to A n p ≡ first
    → AnswersAlike A later n p (record_given A later k q (received_as later q)) → (end : State) × (post A later k r ≡ Some (first, end))
    × (map lasting_part end.inbox ≡ map lasting_part later.inbox) × (end.next_in ≡ later.next_in) × (end.outbox ≡ later.outbox)
unfolding record_post AnswersAlike
posted_again A later k n p q first r is answer a = (a.0, ap (post A later k) is ∙ a.1 ∙ ap (λ (x : Answer). Some (x, a.0)) answer, a.2, a.3, a.4)

pub repeat_law : (A : Agreements) (old recorded later : State) (head : Head) (body : Text) (m n : ℕ) (first : Answer) (trace : Trace)
    → step A old (Post head body m) ≡ Some (first, recorded) → old.next_in < recorded.next_in → Run A recorded trace later → (end : State)
    × (step A later (Post head body n) ≡ Some (first, end)) × (map lasting_part end.inbox ≡ map lasting_part later.inbox) × (end.next_in ≡ later.next_in)
    × (end.outbox ≡ later.outbox)
unfolding record_post WasNew
repeat_law A old recorded later head body m n first trace one grew run =
    let was = was_new A old m (post_reading A (known_digests old.version) head body) (first, recorded) one grew in
    let left : recorded_posts recorded ≡ recorded_posts (with_first old m was.0) = ap (λ (z : Answer × State). recorded_posts z.1) was.2.1 in
    let is : recorded_posts recorded ≡ recorded_posts old ++ (old.next_in, was.0) ∷ [] = left ∙ map_append old.inbox (first_entry old.next_in m was.0) in
    let found = found_later old recorded later old.next_in m was.0 was.2.0 is (run_grows A recorded trace later run) in
    let now = reading_alike A (known_digests old.version) (known_digests later.version) head body was.0 was.1 in
    let version : recorded.version ≡ old.version = (step_steady A old (Post head body m) (first, recorded) one).0 in
    let same : later.version ≡ recorded.version → was.0 ≡ now.0 = λ v. same_under A old.version later.version head body was.0 now.0 was.1 now.1 (v ∙ version) in
    let repeat = repeats_still recorded later old.next_in was.0 now.0 now.2 same grew (run_origin A recorded trace later run) in
    let one = received_one later was.0 now.0 (post_key was.0 now.0 now.2) in
    let found_now : option_map lasting_part (received_as later now.0) ≡ Some (old.next_in, was.0) = ap (option_map lasting_part) (sym one) ∙ found in
    posted_again A later n old.next_in was.0 now.0 first (post_reading A (known_digests later.version) head body) now.1
    (sym (ap (λ (z : Answer × State). z.0) was.2.1))
    (again A later n old.next_in was.0 now.0 (received_as later now.0) found_now repeat)

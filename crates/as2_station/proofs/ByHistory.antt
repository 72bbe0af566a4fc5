-- What stands after a run is by history.
use Rattle.std.proofs.Common.{◌≡◌, ◌↔◌, ◌∙◌, ℕ, true, List, [], ◌∷◌, ◌++◌, Option, Some, None, Result, Ok, Err, refl, sym, ap, subst}
use Rattle.std.specs.Prelude.{IsSomeAnd, option_map, option_and_then}
use Rattle.as2_records.specs.Standing.{Medium, Standing}
use Rattle.as2_mdn.specs.Details.{class_of}
use Rattle.as2_mdn.specs.Verdicts.{Confirms}
use Rattle.as2_mdn.specs.declared.detail.DetailClass.TheVariants.{S}
use Rattle.as2_exchange.specs.Agreement.{Agreements, partner_of}
use Rattle.as2_exchange.specs.Invariants.{IsCounter, IsWellFormed}
use Rattle.as2_exchange.specs.Events.{AnsweredEvent}
use Rattle.as2_exchange.specs.History.{Fact, FoundAt, Submission, concerns, first_of, first_receipt, submission_of, submission, history_of, history_by}
use Rattle.as2_exchange.specs.Posts.{ReceivedReceipt}
use Rattle.as2_exchange.specs.Run.{Answered, Failed, AnEvent, AMigration, Trace, Run, migrated_state, accepted_events}
use Rattle.as2_exchange.specs.State.{AllDigests, State, Version, document, empty}
use Rattle.as2_exchange.specs.declared.outbox.OutEntry.{OutEntry}
use Rattle.as2_exchange.specs.Step.{step}
use Rattle.as2_exchange.specs.declared.answer.Answer.{Answer}
use Rattle.as2_exchange.specs.declared.event.Event.{Event}
use Rattle.as2_exchange.specs.declared.fault.StoreFault.{StoreFault}
use Rattle.as2_exchange.proofs.Granting.{document_granted, receipt_granted}
use Rattle.as2_exchange.proofs.Numbers.{numbers_law}
use Rattle.as2_exchange.proofs.OwedRuns.{receipts_law}
use Rattle.as2_exchange.proofs.Refusing.{refused_leaves}
use Rattle.as2_exchange.proofs.Resending.{failed_resent}
use Rattle.as2_exchange.proofs.Again.{repeat_law}
use Rattle.as2_exchange.proofs.Runs.{as_submitted, law, same_facts, waiting_law}
use Rattle.as2_exchange.proofs.States.{formed}
use Rattle.as2_exchange.proofs.Steady.{run_version}
use Rattle.as2_exchange.proofs.Success.{settled_stays_law, class_of_success, success_confirmed}
use Rattle.as2_exchange.proofs.Ticking.{ticked_counts}
use Rattle.as2_records.specs.Calls.{Lasts}
use Rattle.std.specs.Prelude.{IsTrue}
use Rattle.as2_exchange.specs.Readings.{Head}
use Rattle.as2_exchange.specs.Posts.{post_reading}
use Rattle.as2_exchange.specs.declared.event.Event.TheVariants.{Post}
use Rattle.as2_station.specs.Heads.{asks_store}
use Rattle.as2_station.specs.Steps.{ClashesWhole, Does, TakesEvent, always}
use Rattle.as2_station.proofs.Bearing.{bears_exactly}
use Rattle.as2_station.specs.Theorem.{EndsByHistory, StandsAs, StandsByHistory, StepsOn, TakesByHistory}

pub run_then : (A : Agreements) (s mid t : State) (one two : Trace) → Run A s one mid → Run A mid two t → Run A s (one ++ two) t
run_then A s mid t [] two a b = subst (λ (x : State). Run A x two t) a b
run_then A s mid t (AnEvent e (Answered answer) ∷ one) two a b = (a.0, a.1, run_then A a.0 mid t one two a.2 b)
run_then A s mid t (AnEvent e (Failed fault) ∷ one) two a b = (a.0, run_then A s mid t one two a.1 b)
run_then A s mid t (AMigration n ∷ one) two a b = (a.0, a.1, run_then A (migrated_state s) mid t one two a.2 b)

-- ---- success

-- a submission is found by both, or by neither
found_by_both : {X : Type 0} (o : Option (FoundAt Submission AnsweredEvent)) (f : FoundAt Submission AnsweredEvent → X) (x : X) → option_map f o ≡ Some x
    → option_map (λ (g : FoundAt Submission AnsweredEvent). g.it) o ≡ None → ⊥
found_by_both None f x is none = absurd cc
found_by_both (Some g) f x is none = absurd cc

success_by : (A : Agreements) (v : Version) (first : ℕ) (trace : Trace) (s : State) → Run A (empty v first) trace s
    → (k : ℕ) (o : Option OutEntry) (c : Option (Submission × List Fact)) → document s k ≡ o → concerns A (accepted_events v trace) k ≡ c
    → IsSomeAnd o (λ d. class_of d.detail ≡ S) ↔ IsSomeAnd c (λ it. IsSomeAnd (first_receipt A k it.0 it.1) (λ (r : ℕ
    × ReceivedReceipt). Confirms r.1.known r.1.receipt it.0.content))
unfolding concerns
success_by A v first trace s run k None None is known = (λ h. absurd h, λ h. absurd h)
success_by A v first trace s run k (Some d) None is known =
    absurd (let none : Some (history_of d) ≡ None = sym (ap (option_map history_of) is) ∙ law A v first trace s run k
    ∙ ap (λ (c : Option (Submission × List Fact)). option_and_then
    (λ (x : Submission × List Fact). option_map (history_by A k x.0 x.1) (partner_of A x.0.partner)) c) known in cc)
success_by A v first trace s run k None (Some it) is known =
    absurd (found_by_both (first_of (submission k) (accepted_events v trace)) _ it known
    (sym (as_submitted A v first trace s run k) ∙ ap (option_map submission_of) is))
success_by A v first trace s run k (Some d) (Some it) is known =
    let state = class_of_success d.detail in
    let by = success_confirmed A v first trace s run k d is it.0 it.1 known in
    (λ h. by.0 (state.0 h), λ h. state.1 (by.1 h))

-- ---- all of it

stays : (d : OutEntry) (s : State) (k : ℕ) → (e : OutEntry) × (document s k ≡ Some e) × (e.detail ≡ d.detail) × (e.evidence ≡ d.evidence) → StandsAs d s k
stays d s k it = subst (λ (o : Option OutEntry). IsSomeAnd o (λ (e : OutEntry). (e.detail ≡ d.detail) × (e.evidence ≡ d.evidence))) (sym it.1) (it.2, it.3)

steps_on : (A : Agreements) (s : State) → IsWellFormed A s → StepsOn A s
steps_on A s formed = record {
  repeats = λ old recorded head body m n first between stepped grew run. repeat_law A old recorded s head body m n first between stepped grew run;
  sends = λ n m job t. document_granted A s t n m job;
  sends_receipts = λ n m job t. receipt_granted A s t n m job;
  resends = λ n m t. failed_resent A s t n m;
  refuses = λ e a t. refused_leaves A s t e a (record { received = formed.received.numbers.distinct; sent = formed.sent.numbers.distinct });
  counts = λ m a t. ticked_counts A s t m a;
  answers = numbers_law A s;
}

pub stands_by_history : (A : Agreements) (v : Version) (first : ℕ) (trace : Trace) (s : State) → IsCounter first → Run A (empty v first) trace s
    → StandsByHistory A v trace s
stands_by_history A v first trace s counter run = record {
  version = run_version A (empty v first) trace s run;
  documents = as_submitted A v first trace s run;
  stands = law A v first trace s run;
  success = λ k. success_by A v first trace s run k (document s k) (concerns A (accepted_events v trace) k) refl refl;
  names = bears_exactly;
  settled = λ k d is settled more t on. stays d t k (settled_stays_law A v first trace more s t run on k d is settled);
  alone = λ k other w two t on same. same_facts A v w first other trace two s t k run on same;
  waits = waiting_law A v first trace s run;
  owed = receipts_law A v first trace s counter run;
  formed = formed A v first trace s counter run;
  further = steps_on A s (formed A v first trace s counter run);
}

pub ends_by_history : (A : Agreements) (s : State) (trace : Trace) (t : State) → Run A s trace t → EndsByHistory A s trace t
ends_by_history A s trace t run v first before counter came =
    stands_by_history A v first (before ++ trace) t counter (run_then A (empty v first) s t before trace came run)

-- ---- an event

pub takes_by_history : {M : Medium} {X : Type 0} (A : Agreements) (event : Event) (asks : Type 0) (told : X
    → Answer) (old new : Standing M) (r : Result X StoreFault) → Does (λ s. step A s event) always asks told old new r
    → TakesByHistory A event told old new r
takes_by_history A event asks told old new (Ok a) does clean s rests =
    let left = does.answered clean s rests tt in
    (left.next, left.rests, ends_by_history A s (AnEvent event (Answered (told a)) ∷ []) left.next (left.next, left.step, refl))
takes_by_history A event asks told old new (Err f) does clean s rests =
    let left = does.failed clean s rests tt in
    (s, left.0, ends_by_history A s (AnEvent event (Failed f) ∷ []) s (left.1, refl))

pub takes_event : {M : Medium} {X : Type 0} (A : Agreements) (event : Event) (told : X → Answer) (old new : Standing M) (r : Result X StoreFault)
    → Does (λ s. step A s event) always (asks_store A event ≡ true) told old new r
    → (IsTrue new.is_open → (s : State) → new.Rests s → Lasts new s)
    → ((head : Head) (body : List ℕ) (moment : ℕ) → event ≡ Post head body moment → ClashesWhole told (post_reading A AllDigests head body) old new r)
    → TakesEvent A event told old new r
takes_event A event told old new r does lasts whole =
    record { does = does; by_history = takes_by_history A event (asks_store A event ≡ true) told old new r does; lasts = lasts; whole = whole }

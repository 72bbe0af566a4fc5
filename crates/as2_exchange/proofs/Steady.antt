-- A step leaves the version of the store, and counts no number back.
use Rattle.std.proofs.Common.{◌≡◌, ℕ, ◌≤◌, Bool, true, false, [], ◌∷◌, Option, Some, None, refl, sym, ap, ◌∙◌, subst, arith}
use Rattle.std.specs.Prelude.{if◌then◌else◌}
use Rattle.std.proofs.lemmas.Option.{same_Some}
use Rattle.as2_exchange.specs.Agreement.{Text, Agreements}
use Rattle.as2_exchange.specs.Readings.{named_by}
use Rattle.as2_exchange.specs.State.{Posted, InEntry, OutEntry, State, Version, LaterVersion, known_digests, document}
use Rattle.as2_exchange.specs.State.{document_named, received_entry, received_as, change_document, is_settled}
use Rattle.as2_exchange.specs.Events.{Event, Post, Submit, Begin, Outcome, Resend, BeginReceipt, OutcomeReceipt, Tick, Answer}
use Rattle.as2_exchange.specs.Posts.{ReceivedReceipt, PostReading, Refuses, IsReceipt, IsDocument, post_reading}
use Rattle.as2_exchange.specs.Documents.{settled_document, settle, settle_for, submit, begun_document, closed_document, resent_document, tick}
use Rattle.as2_exchange.specs.OwedReceipts.{begun_receipt, closed_receipt}
use Rattle.as2_exchange.specs.Recording.{record_post}
use Rattle.as2_exchange.specs.Step.{post, step, act_on, act_in}
use Rattle.as2_exchange.specs.Run.{Trace, Run, AnEvent, AMigration, Answered, Failed, migrated_state, version_after}
use Rattle.as2_exchange.proofs.Documents.{if_either}
use Rattle.as2_exchange.proofs.Repeats.{RecordedOrSame, fresh, repeated, clash, post_cases}
use Rattle.as2_exchange.proofs.Submits.{submit_either}

abbrev pub Steady : State → State → Type 0
Steady s t = (t.version ≡ s.version) × (s.next_in ≤ t.next_in)

steady : (s : State) → Steady s s
steady s = (refl, omega arith)

-- what an event leaves
abbrev LeftSteady : State → Answer × State → Type 0
LeftSteady s y = Steady s y.1

acted_steady : (s : State) (n : ℕ) (act : OutEntry → Answer × OutEntry) (o : Option OutEntry) → Steady s (act_on s n act o).1
acted_steady s n act None = steady s
acted_steady s n act (Some d) = (refl, omega arith)

acted_in_steady : (s : State) (n : ℕ) (act : InEntry → Answer × InEntry) (o : Option InEntry) → Steady s (act_in s n act o).1
acted_in_steady s n act None = steady s
acted_in_steady s n act (Some e) = (refl, omega arith)

settle_for_steady : (s : State) (m : ℕ) (r : ReceivedReceipt) (o : Option OutEntry) → Steady s (settle_for s m r o).1
settle_for_steady s m r None = steady s
settle_for_steady s m r (Some d) = if_either (Steady s) _ _ _ (steady s) (by (is_settled d))
  where
    by : (b : Bool) → Steady s (if b then s else change_document s d.number (settled_document m r))
    by true = steady s
    by false = (refl, omega arith)

settle_steady : (s : State) (m : ℕ) (r : ReceivedReceipt) → Steady s (settle s m r).1
unfolding settle
settle_steady s m r = settle_for_steady s m r (document_named s (named_by r.receipt))

recorded_steady : (A : Agreements) (s : State) (m : ℕ) (p : Posted) (o : Option InEntry) (y : Answer × State) → RecordedOrSame A s m p o y → Steady s y.1
recorded_steady A s m p o y (fresh none small is) = subst (LeftSteady s) (sym is) (refl, omega arith)
recorded_steady A s m p o y (repeated e there same is) = subst (LeftSteady s) (sym is) (refl, omega arith)
recorded_steady A s m p o y (clash e there other is) = subst (Steady s) (sym is) (steady s)

post_steady : (A : Agreements) (s : State) (m : ℕ) (r : PostReading) (y : Answer × State) → post A s m r ≡ Some y → Steady s y.1
unfolding record_post
post_steady A s m (Refuses line) y h = subst (LeftSteady s) (same_Some _ y h) (steady s)
post_steady A s m (IsReceipt r) y h = subst (LeftSteady s) (same_Some _ y h) (settle_steady s m r)
post_steady A s m (IsDocument p) y h = recorded_steady A s m p (received_as s p) y (post_cases A s m p (received_as s p) y h)

submit_steady : (A : Agreements) (s : State) (organization partner content : Text) (m : ℕ) (y : Answer × State)
    → submit A s organization partner content m ≡ Some y → Steady s y.1
submit_steady A s organization partner content m y =
    submit_either (LeftSteady s) A s organization partner content m y (λ r. steady s) (λ ours theirs small. (refl, omega arith))

tick_steady : (m : ℕ) (s : State) → Steady s (tick m s).1
unfolding tick
tick_steady m s = (refl, omega arith)

pub step_steady : (A : Agreements) (s : State) (e : Event) (y : Answer × State) → step A s e ≡ Some y → Steady s y.1
step_steady A s (Post head body m) y h = post_steady A s m (post_reading A (known_digests s.version) head body) y h
step_steady A s (Submit organization partner content m) y h = submit_steady A s organization partner content m y h
step_steady A s (Begin n m) y h = subst (LeftSteady s) (same_Some _ y h) (acted_steady s n (begun_document A m) (document s n))
step_steady A s (Outcome n got m) y h =
    subst (LeftSteady s) (same_Some _ y h) (acted_steady s n (closed_document A (known_digests s.version) got m) (document s n))
step_steady A s (Resend n m) y h = subst (LeftSteady s) (same_Some _ y h) (acted_steady s n (resent_document A m) (document s n))
step_steady A s (BeginReceipt n m) y h = subst (LeftSteady s) (same_Some _ y h) (acted_in_steady s n (begun_receipt A m) (received_entry s n))
step_steady A s (OutcomeReceipt n got m) y h = subst (LeftSteady s) (same_Some _ y h) (acted_in_steady s n (closed_receipt A got m) (received_entry s n))
step_steady A s (Tick m) y h = subst (LeftSteady s) (same_Some _ y h) (tick_steady m s)

-- a run leads to the version that its trace tells
pub run_version : (A : Agreements) (old : State) (trace : Trace) (new : State) → Run A old trace new → new.version ≡ version_after old.version trace
run_version A old [] new run = ap (λ (s : State). s.version) run
run_version A old (AnEvent e (Answered a) ∷ rest) new run =
    run_version A run.0 rest new run.2
    ∙ ap (λ (v : Version). version_after v rest) (step_steady A old e (a, run.0) run.1).0
run_version A old (AnEvent e (Failed fault) ∷ rest) new run = run_version A old rest new run.1
run_version A old (AMigration n ∷ rest) new run =
    run_version A (migrated_state old) rest new run.2
    ∙ ap (λ (m : ℕ). version_after (LaterVersion m) rest) (sym run.1)

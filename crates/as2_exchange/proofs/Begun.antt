-- A document that was begun stays so.
use Rattle.std.proofs.Common.{◌≡◌, ℕ, true, List, [], Option, Some, None, refl, sym, ap, ◌∙◌, subst}
use Rattle.std.specs.Prelude.{option_map, is_some, IsSomeAnd}
use Rattle.std.specs.Option.{option_or}
use Rattle.std.specs.List.{filter_map}
use Rattle.std.proofs.lemmas.Option.{same_Some}
use Rattle.std.proofs.lemmas.Bool.{false≢true}
use Rattle.as2_exchange.specs.Agreement.{Agreements}
use Rattle.as2_exchange.specs.State.{State, Version, OutEntry, empty, document}
use Rattle.as2_exchange.specs.Events.{AnsweredEvent}
use Rattle.as2_exchange.specs.Run.{Trace, Run, accepted_events}
use Rattle.as2_exchange.specs.History.{FoundAt, Submission, Fact, fact, first_of, last_of, submission, try_in}
use Rattle.as2_exchange.proofs.Places.{found_place, further, last_of-push}
use Rattle.as2_exchange.proofs.Entry.{entry_by}
use Rattle.as2_exchange.proofs.Pushes.{with_fact}
use Rattle.as2_exchange.proofs.Keeping.{IsAsTold}
use Rattle.as2_exchange.proofs.Runs.{run_facts, begins, run_keeps}

-- a try of it is among the facts
abbrev IsTried : List Fact → Type 0
IsTried facts = is_some (last_of try_in facts) ≡ true

still_tried : (facts : List Fact) (o : Option Fact) → IsTried facts → IsTried (with_fact facts o)
still_tried facts None h = h
still_tried facts (Some f) h = rw (last_of-push try_in facts f) (by (option_map (found_place []) (try_in f)) (last_of try_in facts) h)
  where
    by : (now before : Option (FoundAt ℕ Fact)) → is_some before ≡ true → is_some (option_or now (option_map (further f) before)) ≡ true
    by (Some x) before g = refl
    by None (Some x) g = refl
    by None None g = absurd (false≢true g)

pub begun_stays_law : (A : Agreements) (v : Version) (first : ℕ) (one two : Trace) (s t : State) → Run A (empty v first) one s → Run A s two t
    → (k : ℕ) (d : OutEntry) → document s k ≡ Some d → d.begun ≡ true → IsSomeAnd (document t k) (λ e. e.begun ≡ true)
begun_stays_law A v first one two s t run on k d is begun = by (first_of (submission k) (accepted_events v one)) refl
  where
    keeps : IsAsTold A (accepted_events v one) s
    keeps = run_keeps A [] (empty v first) one s (begins A v first) run

    by : (o : Option (FoundAt Submission AnsweredEvent)) → first_of (submission k) (accepted_events v one) ≡ o → IsSomeAnd (document t k) (λ e. e.begun ≡ true)
    by None h = absurd (let two : None ≡ Some d = sym (keeps.each k ∙ rw h refl) ∙ is in cc)
    by (Some f) h =
        let known = keeps.ours k f h in
        let facts = filter_map (fact A k f.it) f.after in
        let entry_is : entry_by A k f.it facts known.0 ≡ d = same_Some _ _ (sym (keeps.each k ∙ rw (h, known.1.theirs) refl) ∙ is) in
        let end = run_facts A k f.it known.0 known.1.theirs IsTried still_tried (accepted_events v one) f.after s two t keeps on h
        (ap (λ (e : OutEntry). e.begun) entry_is ∙ begun) in
        subst (λ (o : Option OutEntry). IsSomeAnd o (λ e. e.begun ≡ true)) (sym end.2) end.1

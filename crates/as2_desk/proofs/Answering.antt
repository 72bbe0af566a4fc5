-- What is told of what the station said.
use Rattle.std.proofs.Common.{◌≡◌, ◌⊎◌, inl, inr, ◌∙◌, ℕ, List, true, Option, Some, None, Result, Ok, Err, IfErr, option_map, refl, sym, ap, subst}
use Rattle.as2_records.specs.Standing.{Medium, Standing}
use Rattle.as2_agreement.specs.Agreements.{AgreedValues}
use Rattle.as2_exchange.specs.declared.event.Event.{Event}
use Rattle.as2_exchange.specs.State.{State}
use Rattle.as2_exchange.specs.declared.answer.Refusal.{Refusal}
use Rattle.as2_exchange.specs.Step.{step}
use Rattle.as2_exchange.specs.declared.answer.Answer.{Answer}
use Rattle.as2_exchange.specs.declared.answer.Answer.TheVariants as answer
use Rattle.as2_exchange.specs.declared.event.Event.TheVariants as event
use Rattle.as2_exchange.specs.declared.fault.StoreFault.{StoreFault}
use Rattle.as2_exchange.specs.declared.fault.StoreFault.TheVariants.{Full}
use Rattle.as2_station.specs.Heads.{submit_refusal}
use Rattle.as2_station.specs.Said.{said_to_submit}
use Rattle.as2_station.specs.Steps.{RefusesSubmit, TakesEvent}
use Rattle.as2_station.specs.Theorem.{said_as}
use Rattle.as2_records.specs.Calls.{Reads}
use Rattle.as2_records.specs.Standing.{may_come}
use Rattle.as2_commands.specs.declared.tasks.Question.TheVariants as question
use Rattle.as2_desk.specs.Questions.{QuestionInHand, EndsBy, FaultMayCome, IsToldOf, Tells, ToPrint, found_told, is_event, looked_up, number_line, read_told, resent_line, told_by, told_by_step, told_of, told_of_resend}
use Rattle.as2_desk.specs.declared.refusal.CommandFault.TheVariants.{Station}
use Rattle.as2_host.specs.declared.stores.OpenFault.TheVariants as open_fault

-- an event is by history, and that is told of what was said to it
pub ends_by : {M : Medium} {X : Type 0} (A : AgreedValues) (e : Event) (tell : X
    → Answer) (old new : Standing M) (r : Result X StoreFault) (q : QuestionInHand) (told : ToPrint) → TakesEvent A e tell old new r
    → IsToldOf q (said_as tell r) told
    → new.IsClean → (s : State) → old.Rests s → (t : State) × new.Rests t × EndsBy A q e s t told
ends_by A e tell old new r q told takes is clean s rests =
    let by = takes.by_history clean s rests in (by.0, by.1, (said_as tell r, is, by.2))

-- a fault that may come of any call isn't Full
never_full : (f : StoreFault) → may_come f ≡ true → open_fault.Store f ≡ open_fault.Store Full → ⊥
never_full f may is = let full : f ≡ Full = cc in let bad : may_come Full ≡ true = subst (λ g. may_come g ≡ true) full may in cc

-- a fault of a text that was read, or of one that only some numbers have
pub read_may : {V : Type 0} (q : QuestionInHand) (text : V → List ℕ) (r : Result V StoreFault) → IfErr r (λ f. may_come f ≡ true)
    → FaultMayCome q (read_told text r)
read_may q text (Ok v) may = tt
read_may q text (Err f) may = inr may

pub looked_may : {V : Type 0} (q : QuestionInHand) (text : V → List ℕ) (r : Result (Option V) StoreFault) → IfErr r (λ f. may_come f ≡ true)
    → FaultMayCome q (looked_up text r)
looked_may q text (Ok (Some v)) may = tt
looked_may q text (Ok None) may = tt
looked_may q text (Err f) may = inr may

-- of an answer no fault of the store is told
resend_may : (q p : QuestionInHand) (told : ToPrint) → told_of_resend q ≡ Some told → FaultMayCome p told
resend_may (question.Resend n) p told is = let same : Ok (resent_line n) ≡ told = cc in subst (FaultMayCome p) same tt
resend_may (question.Submit d) p told is = absurd cc
resend_may question.Tick p told is = absurd cc
resend_may (question.List filter idle format) p told is = absurd cc
resend_may (question.Outstanding format) p told is = absurd cc
resend_may (question.Show n format) p told is = absurd cc
resend_may (question.Fetch n) p told is = absurd cc

answer_may : (q : QuestionInHand) (x : Answer) (told : ToPrint) → told_of q x ≡ Some told → FaultMayCome q told
answer_may q (answer.Submitted n) told is = let same : Ok (number_line n) ≡ told = cc in subst (FaultMayCome q) same tt
answer_may q (answer.Ticked n) told is = let same : Ok (number_line n) ≡ told = cc in subst (FaultMayCome q) same tt
answer_may q (answer.Refused reason) told is = let same : Err (Station reason) ≡ told = cc in subst (FaultMayCome q) same tt
answer_may q (answer.Http h) told is = absurd cc
answer_may q (answer.Job j) told is = absurd cc
answer_may q (answer.Settled d) told is = absurd cc
answer_may q answer.Delivered told is = absurd cc
answer_may q answer.TryFailed told is = absurd cc
answer_may q answer.AlreadySettled told is = absurd cc
answer_may q answer.Resent told is = resend_may q q told is

-- .. or of an event
pub event_may : {X : Type 0} (q : QuestionInHand) → is_event q ≡ true → (tell : X → Answer) (r : Result X StoreFault) (told : ToPrint)
    → IsToldOf q (said_as tell r) told
    → IfErr r (λ f. (f ≡ Full) ⊎ (may_come f ≡ true)) → FaultMayCome q told
event_may q is tell (Ok a) told it may = answer_may q (tell a) told it
event_may q is tell (Err f) told it may = subst (FaultMayCome q) (sym it) (elim may [ inl full ↦ inl (full, is) | inr other ↦ inr other ])

-- a submission that is refused is told so
pub submission_refused : {H : Type 0} (A : AgreedValues) (q : QuestionInHand) (from to content : List ℕ) (m : ℕ) (old new : H)
    (r : Result (Result ℕ Refusal) StoreFault) (told : ToPrint) → RefusesSubmit A (event.Submit from to content m) Err old new r
    → IsToldOf q (said_as said_to_submit r) told → (reason : Refusal) → submit_refusal A from to content ≡ Some reason → told ≡ Err (Station reason)
submission_refused A q from to content m old new r told refuses it reason is =
    let said : Some (Err (Station reason)) ≡ Some told =
    subst (λ (x : Result (Result ℕ Refusal) StoreFault). IsToldOf q (said_as said_to_submit x) told) (refuses.answer from to content m reason refl is) it in
    cc

abbrev pub TellsFrom : {M : Medium} → AgreedValues → ℕ → QuestionInHand → Standing M → Standing M → ToPrint → Type 0
TellsFrom A m q old new told = (s : State) → old.Rests s → (t : State) × new.Rests t × Tells A m q s t told

module _ {M : Medium} (A : AgreedValues) (m : ℕ) (q : QuestionInHand) (old new : Standing M) (clean : new.IsClean) where
  -- a text of the state
  pub read : {V : Type 0} (text : V → List ℕ) (view : State → List ℕ) → ((s : State) → told_by A m q s ≡ Some (Ok (view s), s))
      → (r : Result V StoreFault) → Reads (λ s v. text v ≡ view s) old new r → IfErr r (λ f. may_come f ≡ true) → TellsFrom A m q old new (read_told text r)
  read text view is (Ok v) reads may = λ s rests. (s, reads.same clean s rests, is s ∙ ap (λ (x : List ℕ). Some (Ok x, s)) (sym (reads.answer clean s rests)))
  read text view is (Err f) reads may = λ s rests. (s, reads.same clean s rests, (refl, λ full. absurd (never_full f may full)))

  found_tells : (s : State) (o : Option (List ℕ)) → told_by A m q s ≡ Some (found_told o, s) → Tells A m q s s (found_told o)
  found_tells s (Some text) is = is
  found_tells s None is = is

  -- a text of a number
  pub looked : {V : Type 0} (text : V → List ℕ) (view : State → Option (List ℕ)) → ((s : State) → told_by A m q s ≡ Some (found_told (view s), s))
      → (r : Result (Option V) StoreFault) → Reads (λ s v. option_map text v ≡ view s) old new r → IfErr r (λ f. may_come f ≡ true)
      → TellsFrom A m q old new (looked_up text r)
  looked text view is (Ok v) reads may = λ s rests. (
    s,
    reads.same clean s rests,
    found_tells s (option_map text v) (is s ∙ ap (λ (x : Option (List ℕ)). Some (found_told x, s)) (sym (reads.answer clean s rests))),
  )
  looked text view is (Err f) reads may = λ s rests. (s, reads.same clean s rests, (refl, λ full. absurd (never_full f may full)))

  resend_tells : (s t : State) (p : QuestionInHand) (told : ToPrint) → told_of_resend p ≡ Some told → told_by A m q s ≡ Some (told, t) → Tells A m q s t told
  resend_tells s t (question.Resend n) told is by = let same : Ok (resent_line n) ≡ told =
      cc in subst (Tells A m q s t) same (subst (λ (y : ToPrint). told_by A m q s ≡ Some (y, t)) (sym same) by)
  resend_tells s t (question.Submit d) told is by = absurd cc
  resend_tells s t question.Tick told is by = absurd cc
  resend_tells s t (question.List filter idle format) told is by = absurd cc
  resend_tells s t (question.Outstanding format) told is by = absurd cc
  resend_tells s t (question.Show n format) told is by = absurd cc
  resend_tells s t (question.Fetch n) told is by = absurd cc

  answered_tells : (s t : State) (x : Answer) (told : ToPrint) → told_of q x ≡ Some told → told_by A m q s ≡ Some (told, t) → Tells A m q s t told
  answered_tells s t (answer.Submitted n) told is by = let same : Ok (number_line n) ≡ told =
      cc in subst (Tells A m q s t) same (subst (λ (y : ToPrint). told_by A m q s ≡ Some (y, t)) (sym same) by)
  answered_tells s t (answer.Ticked n) told is by = let same : Ok (number_line n) ≡ told =
      cc in subst (Tells A m q s t) same (subst (λ (y : ToPrint). told_by A m q s ≡ Some (y, t)) (sym same) by)
  answered_tells s t (answer.Refused reason) told is by = let same : Err (Station reason) ≡ told =
      cc in subst (Tells A m q s t) same (subst (λ (y : ToPrint). told_by A m q s ≡ Some (y, t)) (sym same) by)
  answered_tells s t (answer.Http h) told is by = absurd cc
  answered_tells s t (answer.Job j) told is by = absurd cc
  answered_tells s t (answer.Settled d) told is by = absurd cc
  answered_tells s t answer.Delivered told is by = absurd cc
  answered_tells s t answer.TryFailed told is by = absurd cc
  answered_tells s t answer.AlreadySettled told is by = absurd cc
  answered_tells s t answer.Resent told is by = resend_tells s t q told is by

  -- the answer to an event
  pub stepped : {X : Type 0} (e : Event) → ((s : State) → told_by A m q s ≡ told_by_step q (step A s e))
      → (tell : X → Answer) (r : Result X StoreFault) (told : ToPrint) → IsToldOf q (said_as tell r) told
      → TakesEvent A e tell old new r → TellsFrom A m q old new told
  stepped e is tell (Ok a) told it takes = λ s rests.
      let left = takes.does.answered clean s rests tt in (
        left.next,
        left.rests,
        answered_tells s left.next (tell a) told it
            (is s ∙ ap (told_by_step q) left.step ∙ ap (option_map (λ (x : ToPrint). (x, left.next))) it),
      )
  stepped e is tell (Err f) told it takes = λ s rests.
      let left = takes.does.failed clean s rests tt in (
        s,
        left.0,
        subst (Tells A m q s s) (sym it)
            (refl, λ full. let none : step A s e ≡ None = left.1 (let is : f ≡ Full = cc in is) in is s ∙ ap (told_by_step q) none),
      )

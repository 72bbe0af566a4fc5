-- One event more, and the run of all.
use Rattle.std.proofs.Common.{◌≡◌, ℕ, List, [], ◌∷◌, ◌++◌, length, Result, Ok, Err, refl, sym, ap, subst, arith}
use Rattle.as2_records.specs.Standing.{Medium, Standing}
use Rattle.as2_exchange.specs.Agreement.{Agreements}
use Rattle.as2_exchange.specs.declared.event.Event.{Event}
use Rattle.as2_exchange.specs.declared.answer.Answer.{Answer}
use Rattle.as2_exchange.specs.declared.answer.Answer.TheVariants.{Http, Refused}
use Rattle.as2_exchange.specs.declared.answer.Refusal.{Refusal}
use Rattle.as2_exchange.specs.declared.fault.StoreFault.{StoreFault}
use Rattle.as2_station.specs.Said.{said_to_submit}
use Rattle.as2_station.specs.Steps.{RefusesSubmit, TakesEvent, TakesHead}
use Rattle.as2_station.specs.Traces.{Plays, TakesEvents, trace}
use Rattle.as2_exchange.specs.Run.{Run}
use Rattle.as2_station.proofs.ByHistory.{ends_by_history}

module _ {H : Type 0} {M : Medium} (shows : H → Standing M) (A : Agreements) where
  pub taken_more : (es : List Event) (rs : List (Result Answer StoreFault)) (e : Event) (r : Result Answer StoreFault) (old mid new : H)
      → TakesEvents shows A es rs old mid → TakesEvent A e (λ a. a) (shows mid) (shows new) r
      → TakesHead A e Http mid new r → RefusesSubmit A e Refused mid new r → TakesEvents shows A (es ++ e ∷ []) (rs ++ r ∷ []) old new
  taken_more [] [] e r old mid new same one head refuses = subst (λ h. TakesEvents shows A (e ∷ []) (r ∷ []) h new) same (new, one, head, refuses, refl)
  taken_more [] (q ∷ rs) e r old mid new none one head refuses = absurd none
  taken_more (x ∷ es) [] e r old mid new none one head refuses = absurd none
  taken_more (x ∷ es) (q ∷ rs) e r old mid new before one head refuses =
      (before.0, before.1, before.2, before.3, taken_more es rs e r before.0 mid new before.4 one head refuses)

  pub taken_clean : (es : List Event) (rs : List (Result Answer StoreFault)) (old new : H) → TakesEvents shows A es rs old new → (shows new).IsClean
      → (shows old).IsClean
  taken_clean [] [] old new same clean = subst (λ h. (shows h).IsClean) same clean
  taken_clean [] (q ∷ rs) old new none clean = absurd none
  taken_clean (x ∷ es) [] old new none clean = absurd none
  taken_clean (x ∷ es) (q ∷ rs) old new it clean = it.1.does.clean (taken_clean es rs it.0 new it.4 clean)

  pub taken_plays : (es : List Event) (rs : List (Result Answer StoreFault)) (old new : H) → TakesEvents shows A es rs old new → Plays shows A es rs old new
  taken_plays [] [] old new same clean s rests =
      record { end = s; run = refl; by_history = ends_by_history A s [] s refl; rests = subst (λ h. (shows h).Rests s) (sym same) rests }
  taken_plays [] (q ∷ rs) old new none clean s rests = absurd none
  taken_plays (x ∷ es) [] old new none clean s rests = absurd none
  taken_plays (x ∷ es) (Ok a ∷ rs) old new it clean s rests =
      let now = it.1.does.answered (taken_clean es rs it.0 new it.4 clean) s rests tt in
      let later = taken_plays es rs it.0 new it.4 clean now.next now.rests in
      let run : Run A s (trace (x ∷ es) (Ok a ∷ rs)) later.end = (now.next, now.step, later.run) in
      record { end = later.end; run = run; by_history = ends_by_history A s (trace (x ∷ es) (Ok a ∷ rs)) later.end run; rests = later.rests }
  taken_plays (x ∷ es) (Err f ∷ rs) old new it clean s rests =
      let now = it.1.does.failed (taken_clean es rs it.0 new it.4 clean) s rests tt in
      let later = taken_plays es rs it.0 new it.4 clean s now.0 in
      let run : Run A s (trace (x ∷ es) (Err f ∷ rs)) later.end = (now.1, later.run) in
      record { end = later.end; run = run; by_history = ends_by_history A s (trace (x ∷ es) (Err f ∷ rs)) later.end run; rests = later.rests }

pub nothing_left : {X : Type 0} (xs : List X) → length xs ≡ 0 → xs ≡ []
nothing_left [] none = refl
nothing_left (x ∷ xs) none = absurd (omega (arith, none))

-- what refuses a submission refuses the event
pub refuses_event : {H : Type 0} (A : Agreements) (e : Event) (old new : H) (x : Result ℕ Refusal) → RefusesSubmit A e Err old new (Ok x)
    → RefusesSubmit A e Refused old new (Ok (said_to_submit x))
refuses_event A e old new x it = record {
  answer = λ organization partner content moment reason is refused.
      let told = it.answer organization partner content moment reason is refused in
      let same : x ≡ Err reason = cc in
      ap (λ (y : Result ℕ Refusal). Ok (said_to_submit y)) same;
  same = it.same;
}

-- What the opening of a store comes to, and what is done behind it.
use Rattle.std.proofs.Common.{◌≡◌, ◌+◌, ℕ, Option, Some, None, IfSome, IsSomeAnd, Result, Ok, Err, IfOk, IfErr, inl, inr, sym, subst, arith}
use Rattle.as2_agreement.specs.Agreements.{AgreedValues}
use Rattle.as2_exchange.specs.State.{LaterVersion, State, empty}
use Rattle.as2_records.specs.Standing.{Medium, Standing}
use Rattle.as2_host.specs.Stores.{BeginsNew, Finds, MayCome, opens_of}
use Rattle.as2_host.specs.declared.stores.OpenFault.{OpenFault}
use Rattle.as2_commands.specs.declared.tasks.RunOptions.{RunOptions}
use Rattle.as2_desk.proofs.HandedBack.{each_known}
use Rattle.as2_desk.proofs.Working.{does_left, observing}
use Rattle.as2_desk.specs.Endings.{EndsRefused}
use Rattle.as2_desk.specs.Observed.{Observation, StoresSeen}
use Rattle.as2_desk.specs.Runs.{Goes}
use Rattle.as2_desk.specs.Works.{DoesWork}
use Rattle.as2_desk.specs.declared.work.Work.{Work}
use Rattle.as2_desk.specs.declared.refusal.CommandFault.TheVariants.{Store}
use Rattle.as2_desk.specs.declared.status.Ran.{Ran}

-- each state that is kept may be said in other words
pub each_left : {A : Type 0} (last : Option A) (Clean : Type 0) (Rests : A → State → Type 0) (Keeps Later : State → Type 0)
    → IfSome last (λ l. Clean → (t : State) → Rests l t → Keeps t) → ((t : State) → Keeps t → Later t)
    → IfSome last (λ l. Clean → (t : State) → Rests l t → Later t)
each_left None Clean Rests Keeps Later kept f = tt
each_left (Some l) Clean Rests Keeps Later kept f = λ clean t rests. f t (kept clean t rests)

module _ {A : Type 0} {M : Medium} (shows : A → Standing M) (agreements : AgreedValues) (options : RunOptions) (w : Work) (o : Observation)
    (stored : StoresSeen) (ran : Ran) where
  -- no records could be opened, and that was told
  abbrev pub Failed : Option A → Result A OpenFault → Type 0
  Failed last r = IfErr r (λ fault. (last ≡ None) × o.filing.Untouched × o.Unasked × o.input.Untouched × o.outcome.output.Untouched
      × EndsRefused (Store fault) o.outcome.errors ran)

  -- the work was done over records that were opened, and they were given back
  abbrev pub Done : Option A → Result A OpenFault → Type 0
  Done last r = IfOk r (λ opened. IsSomeAnd last (λ l. ((shows l).IsClean → (shows opened).IsClean)
      × ((known : Option State) → IfSome known (λ s. (shows l).IsClean × (shows opened).Rests s)
      → DoesWork agreements options.moment w known (observing o (λ t. (shows l).Rests t)) ran)))

  -- over new records in memory
  pub goes_in_memory : (last : Option A) (r : Result A OpenFault) → BeginsNew shows options.first r → Failed last r → Done last r
      → ((fault : OpenFault) → MayCome fault → stored.Fails fault) → stored.Unopened → stored.Kept → stored.Opened
      → ((s : State) → stored.Begins options.first s → s ≡ empty (LaterVersion 0) options.first) → ((t : State) → o.outcome.Left t)
      → Goes agreements options (Ok w) o stored ran
  goes_in_memory last (Err fault) may failed done fails unopened kept opened begins left =
      inl (unopened, kept, failed.1, failed.2, failed.3, failed.4, record { fault = fault; cause = fails fault may; told = failed.5 })
  goes_in_memory None (Ok records) new failed done fails unopened kept opened begins left = absurd done
  goes_in_memory (Some l) (Ok records) new failed done fails unopened kept opened begins left = inr (
    opened,
    λ known from. does_left agreements options.moment w known o (λ t. (shows l).Rests t) ran (each_known _ _ known from (λ s b t rests. left t))
        (done.1 known (each_known _ _ known from (λ s b. (new.0 l, subst (λ (x : State). (shows records).Rests x) (sym (begins s b)) new.2)))),
  )

  -- over the records that are kept under the path
  pub goes_kept : (last : Option A) (r : Result A OpenFault) (Clean : Type 0) (Keeps : State → Type 0) (before now : ℕ) → Finds shows Keeps r → Failed last r
      → Done last r → (last ≡ None → IfErr r (λ fault. stored.Kept × stored.Fails fault))
      → now ≡ before + opens_of r → (now ≡ before → stored.Unopened) → (now ≡ before + 1 → stored.Opened)
      → ((s : State) → stored.Begins options.first s → Keeps s × Clean)
      → IfSome last (λ l. Clean → (shows l).IsClean) → IfSome last (λ l. Clean → (t : State) → (shows l).Rests t → o.outcome.Left t)
      → Goes agreements options (Ok w) o stored ran
  goes_kept last (Err fault) Clean Keeps before now found failed done same counted unopened opened begins clean left =
      inl (
        unopened (omega (arith, counted)),
        (same failed.0).0,
        failed.1,
        failed.2,
        failed.3,
        failed.4,
        record { fault = fault; cause = (same failed.0).1; told = failed.5 },
      )
  goes_kept None (Ok records) Clean Keeps before now found failed done same counted unopened opened begins clean left = absurd done
  goes_kept (Some l) (Ok records) Clean Keeps before now found failed done same counted unopened opened begins clean left = inr (
    opened counted,
    λ known from. does_left agreements options.moment w known o (λ t. (shows l).Rests t) ran (each_known _ _ known from (λ s b. left (begins s b).1))
        (done.1 known (each_known _ _ known from (λ s b. let k = begins s b in (clean k.1, (found (done.0 (clean k.1))).1 s k.0)))),
  )

  -- the stores were clean before, where they are now: by the records, where some were opened
  pub clean_kept : (last : Option A) (r : Result A OpenFault) (Now Opened Was : Type 0) → Failed last r → Done last r
      → IfOk r (λ opened. (shows opened).IsClean → Was) → IfErr r (λ _. Opened → Was)
      → IfSome last (λ l. Now → (shows l).IsClean) → (last ≡ None → Now → Opened) → Now → Was
  clean_kept last (Err fault) Now Opened Was failed done found unfound closed same now = unfound (same failed.0 now)
  clean_kept None (Ok records) Now Opened Was failed done found unfound closed same now = absurd done
  clean_kept (Some l) (Ok records) Now Opened Was failed done found unfound closed same now = found (done.0 (closed now))

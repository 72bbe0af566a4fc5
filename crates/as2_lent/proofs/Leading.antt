-- Each command that a station does for whoever asks leads the machine on, by one event or none.
use Rattle.std.proofs.Common.{◌≡◌, ◌⊎◌, inl, inr, ℕ, Bool, true, false, List, [], ◌∷◌, Option, Some, None, Result, Ok, Err, option_map, refl, sym, ap, subst}
use Rattle.std.specs.Bool.{⊤}
use Rattle.as2_agreement.specs.Agreements.{AgreedValues}
use Rattle.as2_exchange.specs.Run.{AnEvent, Answered}
use Rattle.as2_exchange.specs.State.{LaterVersion, State, empty}
use Rattle.as2_exchange.specs.Step.{step}
use Rattle.as2_exchange.specs.declared.answer.Answer.{Answer}
use Rattle.as2_exchange.specs.declared.event.Event.{Event}
use Rattle.as2_exchange.specs.declared.event.Event.TheVariants as event
use Rattle.as2_commands.specs.Requests.{GivenSubmission}
use Rattle.as2_commands.specs.declared.tasks.Command.TheVariants as command
use Rattle.as2_commands.specs.declared.tasks.Question.{Question}
use Rattle.as2_commands.specs.declared.tasks.Question.TheVariants as question
use Rattle.as2_commands.specs.declared.tasks.Task.{Task}
use Rattle.as2_commands.specs.declared.tasks.Task.TheVariants.{Check, Migrate, Verify, GatherEvidence, Run, Operate, Stop}
use Rattle.as2_host.specs.FileContents.{Content}
use Rattle.as2_agreement.specs.Reading.{agreements_reading}
use Rattle.as2_desk.specs.Evidence.{GathersEvidence}
use Rattle.as2_desk.specs.FileAgreements.{AgreementsResult, AreReadAsOrMemory}
use Rattle.as2_desk.specs.Observed.{Observation, Outcome, StoresSeen}
use Rattle.as2_desk.specs.Questions.{AnswersQuestion, QuestionInHand, Tells, ToPrint, told_by, told_by_step, told_of}
use Rattle.as2_desk.specs.Runs.{DoesTask, Goes}
use Rattle.as2_desk.specs.Verifying.{Verifies}
use Rattle.as2_desk.specs.Works.{DoesWork, IsWork, WorkOrFault, begin_question}
use Rattle.as2_desk.specs.declared.refusal.CommandFault.{CommandFault}
use Rattle.as2_desk.specs.declared.refusal.CommandFault.TheVariants as fault
use Rattle.as2_desk.specs.declared.status.Ran.{Ran}
use Rattle.as2_commands.specs.declared.tasks.RunOptions.{RunOptions}
use Rattle.as2_live.specs.Living.{IsOfCommand, LeadsByOne}
use Rattle.as2_records.specs.Standing.{Medium, Standing}
use Rattle.as2_desk.specs.Stores.{ByPlace, IsKeptAt, StoreBegins, is_in_memory}
use Rattle.as2_lent.specs.Lending.{IsLendable}
use Rattle.as2_lent.specs.Lent.{IsCleanLent, LentKeeps}

module _ (A : AgreedValues) (s : State) (Left : State → Type 0) where
  -- nothing happened
  pub stays : Left s → LeadsByOne A s Left
  stays left = record { state = s; left = left; events = []; one = tt; run = refl }

  at : (t : State) → t ≡ s → Left t → LeadsByOne A s Left
  at t is left = stays (subst Left is left)

  -- one event was answered, and something is told of it
  answered : (e : Event) → IsOfCommand e → (t : State) (tells : ToPrint) (a : Answer) (mid : State) (of : Option ToPrint) → step A s e ≡ Some (a, mid)
      → option_map {U = ToPrint × State} (λ (x : ToPrint). (x, mid)) of ≡ Some (tells, t) → Left t → LeadsByOne A s Left
  answered e made t tells a mid None is by left = absurd cc
  answered e made t tells a mid (Some x) is by left =
      let pair : ◌≡◌ {A = ToPrint × State} (x, mid) (tells, t) = cc in
      let same : mid ≡ t = ap (λ (p : ToPrint × State). p.1) pair in
      record { state = t; left = left; events = AnEvent e (Answered a) ∷ []; one = made; run = (mid, is, sym same) }

  stepped : (q : QuestionInHand) (e : Event) → IsOfCommand e → (t : State) (tells : ToPrint) (came : Option (Answer × State)) → step A s e ≡ came
      → told_by_step q came ≡ Some (tells, t) → Left t → LeadsByOne A s Left
  stepped q e made t tells None is by left = absurd cc
  stepped q e made t tells (Some (a, mid)) is by left = answered e made t tells a mid (told_of q a) is by left

  same_state : (x tells : ToPrint) (t : State) → ◌≡◌ {A = Option (ToPrint × State)} (Some (x, s)) (Some (tells, t)) → t ≡ s
  same_state x tells t by =
      let pair : ◌≡◌ {A = ToPrint × State} (x, s) (tells, t) = cc in
      sym (ap (λ (p : ToPrint × State). p.1) pair)

  -- what is told is what the machine and the views answer
  told : (m : ℕ) (q : QuestionInHand) (t : State) (tells : ToPrint) → told_by A m q s ≡ Some (tells, t) → Left t → LeadsByOne A s Left
  told m (question.Submit d) t tells by left =
      stepped (question.Submit d) (event.Submit d.organization d.partner d.content m) tt t tells _ refl by left
  told m question.Tick t tells by left = stepped question.Tick (event.Tick m) tt t tells _ refl by left
  told m (question.Resend n) t tells by left = stepped (question.Resend n) (event.Resend n m) tt t tells _ refl by left
  told m (question.List filter idle format) t tells by left = at t (same_state _ tells t by) left
  told m (question.Outstanding format) t tells by left = at t (same_state _ tells t by) left
  told m (question.Show n format) t tells by left = at t (same_state _ tells t by) left
  told m (question.Fetch n) t tells by left = at t (same_state _ tells t by) left

  -- .. or a fault of the store, which changes nothing
  pub tells_led : (m : ℕ) (q : QuestionInHand) (t : State) (tells : ToPrint) → Tells A m q s t tells → Left t → LeadsByOne A s Left
  tells_led m q t (Ok text) it left = told m q t (Ok text) it left
  tells_led m q t (Err (fault.Store f)) it left = at t it.0 left
  tells_led m q t (Err fault.CannotRead) it left = told m q t (Err fault.CannotRead) it left
  tells_led m q t (Err fault.CannotWrite) it left = told m q t (Err fault.CannotWrite) it left
  tells_led m q t (Err fault.Exists) it left = told m q t (Err fault.Exists) it left
  tells_led m q t (Err fault.Memory) it left = told m q t (Err fault.Memory) it left
  tells_led m q t (Err (fault.Agreements f)) it left = told m q t (Err (fault.Agreements f)) it left
  tells_led m q t (Err (fault.Stream f)) it left = told m q t (Err (fault.Stream f)) it left
  tells_led m q t (Err (fault.Station f)) it left = told m q t (Err (fault.Station f)) it left
  tells_led m q t (Err fault.CannotListen) it left = told m q t (Err fault.CannotListen) it left
  tells_led m q t (Err fault.NoStation) it left = told m q t (Err fault.NoStation) it left
  tells_led m q t (Err fault.StationRuns) it left = told m q t (Err fault.StationRuns) it left
  tells_led m q t (Err fault.OtherAgreements) it left = told m q t (Err fault.OtherAgreements) it left

-- what was done to the stores: nothing; or what was kept is kept; or the machine was led on
abbrev pub Ends : AgreedValues → State → Observation → StoresSeen → Type 0
Ends A s o stored = stored.Untouched ⊎ (stored.Kept ⊎ LeadsByOne A s o.outcome.Left)

module _ (A : AgreedValues) (s : State) (o : Observation) (stored : StoresSeen) (ran : Ran) (begins : (first : ℕ) → stored.Begins first s) where
  asks : (options : RunOptions) (begun : WorkOrFault) (asked : Result QuestionInHand CommandFault) → begun ≡ begin_question asked
      → Goes A options begun o stored ran → Ends A s o stored
  asks options begun (Ok q) is goes = elim (subst (λ (b : WorkOrFault). Goes A options b o stored ran) is goes) [
    | inl shut ↦ inr (inl shut.1)
    | inr opened ↦
        (let does : o.filing.Untouched × (o.Unasked × o.input.Untouched × AnswersQuestion A options.moment q (Some s) o.outcome ran) =
        opened.1 (Some s) (begins options.first) in
        let answers : AnswersQuestion A options.moment q (Some s) o.outcome ran = does.1.2 in
        inr (inr (tells_led A s o.outcome.Left options.moment q answers.tells.0 answers.told answers.tells.2 answers.tells.1)))
  ]
  asks options begun (Err refusal) is goes = inl (subst (λ (b : WorkOrFault). Goes A options b o stored ran) is goes).0.0

  -- by its task
  pub task_led : (contents : List ℕ → Content) (task : Task) → IsLendable task → DoesTask contents (Ok A) task o stored ran → Ends A s o stored
  task_led contents Check may it = inl it.0
  task_led contents Stop may it = inl it.0.0
  task_led contents (Verify options form) may it = elim it [
    | inl shut ↦ inr (inl shut.1)
    | inr opened ↦
        (let does : o.filing.Untouched × o.Unasked × o.input.Untouched × Verifies form (Some s) o.outcome ran =
        opened.1 (Some s) (begins options.first) in
        inr (inr (stays A s o.outcome.Left does.3.audits.0)))
  ]
  task_led contents (GatherEvidence options wanted) may it = elim it [
    | inl shut ↦ inr (inl shut.1)
    | inr opened ↦
        (let does : o.Unasked × o.input.Untouched × GathersEvidence A wanted (Some s) o.filing o.outcome ran =
        opened.1 (Some s) (begins options.first) in
        inr (inr (stays A s o.outcome.Left does.2.reads.0)))
  ]
  task_led contents (Run options (command.Ask q)) may it = asks options it.0 it.1.0 it.1.2 it.2
  task_led contents (Run options (command.Post logs)) may it = absurd may
  task_led contents (Run options (command.Send waits)) may it = absurd may
  task_led contents (Run options (command.Serve serving)) may it = absurd may
  task_led contents Migrate may it = absurd may
  task_led contents (Operate options wanted) may it = absurd may

-- the agreements of a text are one, or memory ran out
pub read_one : (bytes : List ℕ) (A : AgreedValues) (opened : AgreementsResult) → agreements_reading bytes ≡ Ok A → AreReadAsOrMemory bytes opened
    → (opened ≡ Ok A) ⊎ ((e : CommandFault) × (opened ≡ Err e))
read_one bytes A (Ok B) is (inl it) = let same : B ≡ A = cc (it.1, is) in inl (ap Ok same)
read_one bytes A (Ok B) is (inr it) = absurd cc
read_one bytes A (Err e) is it = inr (e, refl)

-- what is left of the stores stands for the state that the task led to
module _ (A : AgreedValues) (s : State) (o : Observation) (stored : StoresSeen) (ran : Ran) (begins : (first : ℕ) → stored.Begins first s)
    (Later : State → Type 0) (untouched : stored.Untouched → Later s) (kept : stored.Kept → Later s) (left : (t : State) → o.outcome.Left t → Later t) where
  again : LeadsByOne A s o.outcome.Left → LeadsByOne A s Later
  again it = record { state = it.state; left = left it.state it.left; events = it.events; one = it.one; run = it.run }

  ended : Ends A s o stored → LeadsByOne A s Later
  ended (inl same) = stays A s Later (untouched same)
  ended (inr (inl is)) = stays A s Later (kept is)
  ended (inr (inr it)) = again it

  pub lent_led : (contents : List ℕ → Content) (opened : AgreementsResult) (task : Task) → (opened ≡ Ok A) ⊎ ((e : CommandFault) × (opened ≡ Err e))
      → IsLendable task → DoesTask contents opened task o stored ran → LeadsByOne A s Later
  lent_led contents opened task (inl is) may it =
      ended (task_led A s o stored ran begins contents task may (subst (λ (r : AgreementsResult). DoesTask contents r task o stored ran) is it))
  lent_led contents opened task (inr (e, is)) may it =
      stays A s Later (untouched (subst (λ (r : AgreementsResult). DoesTask contents r task o stored ran) is it).0.0)

-- of the stores of a station that are lent: by whether the path is that of a store in memory, which leaves them as they were
module _ {M : Medium} {K : Type 0} (shows : K → Standing M) (old new : Option K) (store : List ℕ) (s : State) (keeps : LentKeeps shows old s)
    (clean : IsCleanLent shows new) where
  begins_lent : is_in_memory store ≡ false → (first : ℕ) → StoreBegins store first (IsCleanLent shows new) (λ number. LentKeeps shows old) s
  begins_lent is first =
      subst (λ (b : Bool). ByPlace b (s ≡ empty (LaterVersion 0) first) (LentKeeps shows old s × IsCleanLent shows new)) (sym is) (keeps, clean)

  left_lent : is_in_memory store ≡ false → (t : State) → IsKeptAt store (λ number. LentKeeps shows new) t → LentKeeps shows new t
  left_lent is t it = subst (λ (b : Bool). ByPlace b ⊤ ((first : ℕ) → LentKeeps shows new t)) is it 0

  pub lends : (A : AgreedValues) (o : Observation) (stored : StoresSeen) (ran : Ran) (contents : List ℕ → Content) (opened : AgreementsResult) (task : Task)
      → DoesTask contents opened task o stored ran → (b : Bool) → is_in_memory store ≡ b → (b ≡ true → new ≡ old)
      → ((first : ℕ) → StoreBegins store first (IsCleanLent shows new) (λ number. LentKeeps shows old) s → stored.Begins first s)
      → (stored.Untouched → new ≡ old) → (stored.Kept → LentKeeps shows old s → LentKeeps shows new s)
      → ((t : State) → o.outcome.Left t → IsKeptAt store (λ number. LentKeeps shows new) t)
      → (opened ≡ Ok A) ⊎ ((e : CommandFault) × (opened ≡ Err e)) → IsLendable task → LeadsByOne A s (LentKeeps shows new)
  lends A o stored ran contents opened task it true is memory begins untouched kept left reading may =
      stays A s (LentKeeps shows new) (subst (λ (k : Option K). LentKeeps shows k s) (sym (memory refl)) keeps)
  lends A o stored ran contents opened task it false is memory begins untouched kept left reading may =
      lent_led A s o stored ran (λ first. begins first (begins_lent is first)) (LentKeeps shows new)
      (λ same. subst (λ (k : Option K). LentKeeps shows k s) (sym (untouched same)) keeps) (λ is_kept. kept is_kept keeps)
      (λ t it. left_lent is t (left t it)) contents opened task reading may it

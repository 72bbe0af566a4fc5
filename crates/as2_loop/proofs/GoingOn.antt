-- A station that runs: what happened to it leads its records on, and so does what is behind it.
use Rattle.std.proofs.Common.{◌≡◌, ◌∙◌, inl, inr, ℕ, List, [], ◌∷◌, Option, Some, Result, Ok, Err, refl, sym, subst}
use Rattle.clap.specs.Walk.{texts}
use Rattle.clap.specs.Words.{Text}
use Rattle.as2_agreement.specs.Agreements.{AgreedValues}
use Rattle.as2_agreement.specs.Reading.{agreements_reading}
use Rattle.as2_bounded.specs.declared.bounded.Bounded.{Bounded}
use Rattle.as2_exchange.specs.Run.{Run}
use Rattle.as2_exchange.specs.State.{State}
use Rattle.as2_lent.specs.Lent.{LendsTo}
use Rattle.as2_lent.specs.declared.forwarded.Forwarded.{Forwarded}
use Rattle.as2_live.proofs.Going.{commanded, on_across, on_none, on_then, passes_on}
use Rattle.as2_live.specs.Living.{Commanded, LeadsByOne, LivesOn, LivesOnAcross, LosesLive, PassesLive}
use Rattle.as2_live.specs.declared.live.Live.{Live}
use Rattle.as2_commands.specs.Options.{Gives}
use Rattle.as2_commands.specs.declared.tasks.Task.{Task}
use Rattle.as2_loop.specs.Commands.{AskLendable, IsFor, RunsLendable, RunsWords}
use Rattle.as2_loop.specs.declared.commands.Verdict.{Verdict}
use Rattle.as2_loop.specs.declared.commands.Verdict.TheVariants.{Stops, Refused, Runs}
use Rattle.as2_loop.specs.Running.{CommitsTo, LeadsRecords, RunsBy, RunsOn, RunsTo, SettlesTo}
use Rattle.as2_loop.specs.declared.commands.Basis.{Basis}
use Rattle.as2_records.specs.Standing.{Medium, Standing}
use Rattle.as2_station.specs.Theorem.{EndsByHistory}

module _ {M N : Medium} {K L : Type 0} (shows : K → Standing M) (in_round : L → Standing N) where
  -- what a turn came to: it was settled, or the round was lost
  settled : (a b : Live K) (r : Result (Live K) (Live L)) → r ≡ Ok b → SettlesTo shows in_round a r → LivesOn shows a b
  settled a b r is it = subst (λ (r : Result (Live K) (Live L)). SettlesTo shows in_round a r) is it

  lost_from : (a : Live K) (b : Live L) (r : Result (Live K) (Live L)) → r ≡ Err b → SettlesTo shows in_round a r → LivesOnAcross shows in_round a b
  lost_from a b r is it = subst (λ (r : Result (Live K) (Live L)). SettlesTo shows in_round a r) is it

  -- a round that was begun, and then committed or lost
  pub settles_round : (a : Live K) (b : Live L) (r : Result (Live K) (Live L)) → PassesLive shows in_round a b → CommitsTo shows in_round b r
      → SettlesTo shows in_round a r
  settles_round a b (Ok c) begun it = on_across shows in_round shows a b c (passes_on shows in_round a b begun) it
  settles_round a b (Err c) begun it = on_across shows in_round in_round a b c (passes_on shows in_round a b begun) it

  -- what happened in a round, which is committed
  pub commits_round : (a b : Live L) (c : Live K) → LivesOn in_round a b → PassesLive in_round shows b c → LivesOnAcross in_round shows a c
  commits_round a b c lives it = on_across in_round in_round shows a b c lives (passes_on in_round shows b c it)

module _ {M : Medium} {K : Type 0} (in_round : K → Standing M) where
  -- what happened in a round that is lost, and behind it
  pub loses_round : (a b c d : Live K) → LivesOn in_round a b → LosesLive in_round b c → LivesOn in_round c d → LivesOn in_round a d
  loses_round a b c d lives lost behind =
      let left : LivesOn in_round b c = passes_on in_round in_round b c (record {
        hub = lost.hub;
        links = lost.links;
        desk = record { beside = lost.desk.beside; station = lost.desk.station.passes };
      }) in
      on_then in_round a c d (on_then in_round a b c lives left) behind

module _ {M : Medium} {R : Type 0} (shows : R → Standing M) (basis : Basis) where
  abbrev Alive : Live (Bounded R) → Live (Bounded R) → Type 0
  Alive = LivesOn (λ (b : Bounded R). shows b.records)

  -- whatever happens, it runs by the same agreements
  still_by : (a b : Live (Bounded R)) → RunsBy shows basis a → Alive a b → RunsBy shows basis b
  still_by a b by (history, it) = record { text = by.text; agreed = it.agreed ∙ by.agreed }

  pub goes_none : (a : Live (Bounded R)) → RunsOn shows basis a a
  goes_none a by = on_none (λ (b : Bounded R). shows b.records) a

  pub goes_lives : (a b c : Live (Bounded R)) → RunsOn shows basis a b → Alive b c → RunsOn shows basis a c
  goes_lives a b c first second by = on_then (λ (b : Bounded R). shows b.records) a b c (first by) second

  pub goes_then : (a b c : Live (Bounded R)) → RunsOn shows basis a b → RunsOn shows basis b c → RunsOn shows basis a c
  goes_then a b c first second by =
      let lives = first by in
      on_then (λ (b : Bounded R). shows b.records) a b c lives (second (still_by a b by lives))

  -- a command that was lent the records
  module _ (given : Forwarded) (asked : IsFor basis given) (old new : Live (Bounded R)) (hub : new.hub ≡ old.hub) (links : new.links ≡ old.links)
      (agreed : new.desk.agreements.now ≡ basis.agreed.agreements)
      (lends : LendsTo shows (texts given.words.now) given.clock given.agreements_path.now given.agreements.now (Some old.desk.station.records)
      (Some new.desk.station.records)) where
    led : (A : AgreedValues) → agreements_reading given.agreements.now ≡ Ok A → AskLendable (texts given.words.now) given.clock given.agreements_path.now
        → (shows new.desk.station.records).IsClean → (s : State) → (shows old.desk.station.records).Rests s
        → LeadsByOne A s (λ t. (shows new.desk.station.records).Rests t)
    led A reading (inl none) clean s rests =
        let same : new.desk.station.records ≡ old.desk.station.records = cc (lends.none none) in
        record { state = s; left = subst (λ (r : R). (shows r).Rests s) (sym same) rests; events = []; one = tt; run = refl }
    led A reading (inr (store, task, gives, may)) clean s rests =
        let it = lends.leads store task gives may A reading clean s (λ _. rests) in
        record { state = it.state; left = it.left clean; events = it.events; one = it.one; run = it.run }

    pub goes_by_command : RunsOn shows basis old new
    goes_by_command by =
        let reading : agreements_reading given.agreements.now ≡ Ok old.desk.agreements.now
        = subst (λ (t : List ℕ). agreements_reading t ≡ Ok old.desk.agreements.now) (sym asked.text)
        (subst (λ (A : AgreedValues). agreements_reading basis.agreed.text.items ≡ Ok A) (sym by.agreed) by.text) in (
          Commanded (texts given.words.now) ∷ [],
          commanded (λ (b : Bounded R). shows b.records) old new hub (agreed ∙ sym by.agreed) lends.clean
              (texts given.words.now) (led old.desk.agreements.now reading asked.asks) links,
        )

module _ {M N : Medium} {R L : Type 0} (shows : R → Standing M) (in_round : L → Standing N) (basis : Basis) where
  abbrev of_bounded : Bounded R → Standing M
  of_bounded b = shows b.records

  abbrev of_round : Bounded L → Standing N
  of_round b = in_round b.records

  -- what the loop does once, behind what was before it: a turn, a command, a look
  pub goes_once : (a b c d e : Live (Bounded R)) (r : Result (Live (Bounded R)) (Live (Bounded L))) → RunsOn shows basis a b
      → SettlesTo of_bounded of_round b r → r ≡ Ok c → RunsOn shows basis c d → LivesOn of_bounded d e → RunsOn shows basis a e
  goes_once a b c d e r before turn is command look =
      goes_lives shows basis a d e (goes_then shows basis a c d (goes_lives shows basis a b c before (settled of_bounded of_round b c r is turn)) command) look

  -- a round that was lost in a turn
  pub goes_lost : (a b : Live (Bounded R)) (c : Live (Bounded L)) (r : Result (Live (Bounded R)) (Live (Bounded L))) → RunsOn shows basis a b
      → SettlesTo of_bounded of_round b r → r ≡ Err c → RunsTo shows in_round basis a (Err c)
  goes_lost a b c r before turn is by = on_across of_bounded of_bounded of_round a b c (before by) (lost_from of_bounded of_round b c r is turn)

  -- what the records stand for then
  pub turned : (old : Live (Bounded R)) (new : Live (Bounded L)) → RunsBy shows basis old → LivesOnAcross of_bounded of_round old new
      → LeadsRecords shows in_round basis old.desk.station.records new.desk.station.records
  turned old new by goes =
      let it = goes.1 in
      record {
        clean = it.clean;
        led = λ clean s rests.
            let end = it.lives clean s rests in
            record {
              trace = end.trace;
              state = end.left;
              kept = end.rests;
              run = subst (λ (A : AgreedValues). Run A s end.trace end.left) by.agreed end.run;
              by_history = subst (λ (A : AgreedValues). EndsByHistory A s end.trace end.left) by.agreed end.by_history;
            };
      }

module _ {M N : Medium} {R L : Type 0} (shows : R → Standing M) (in_round : L → Standing N) (basis : Basis) where
  -- what a station that was put together over some records left of them, once it has run
  left_over : (records : Bounded R) (old : Live (Bounded R)) (new : Live (Bounded L)) (left : L) → old.desk.station ≡ records
      → left ≡ new.desk.station.records → LeadsRecords shows in_round basis old.desk.station.records new.desk.station.records
      → LeadsRecords shows in_round basis records.records left
  left_over records old new left over is it =
      subst (λ (l : L). LeadsRecords shows in_round basis records.records l) (sym is)
      (subst (λ (b : Bounded R). LeadsRecords shows in_round basis b.records new.desk.station.records) over it)

module _ {M N : Medium} {R L : Type 0} (shows : R → Standing M) (in_round : L → Standing N) (basis : Basis) (records : Bounded R)
    (old : Live (Bounded R)) (over : old.desk.station ≡ records) (by : RunsBy shows basis old) (ran : Result (Live (Bounded R)) (Live (Bounded L)))
    (runs : RunsTo shows in_round basis old ran) where
  -- where no round of it was lost
  pub left_settled : (new : Live (Bounded R)) (left : R) → ran ≡ Ok new → left ≡ new.desk.station.records
      → LeadsRecords shows shows basis records.records left
  left_settled new left is from =
      left_over shows shows basis records old new left over from
      (turned shows shows basis old new by ((subst (λ (r : Result (Live (Bounded R)) (Live (Bounded L))). RunsTo shows in_round basis old r) is runs) by))

  -- where its last round was lost
  pub left_lost : (new : Live (Bounded L)) (left : L) → ran ≡ Err new → left ≡ new.desk.station.records
      → LeadsRecords shows in_round basis records.records left
  left_lost new left is from =
      left_over shows in_round basis records old new left over from
      (turned shows in_round basis old new by ((subst (λ (r : Result (Live (Bounded R)) (Live (Bounded L))). RunsTo shows in_round basis old r) is runs) by))

-- words whose task is lendable are run as such
pub runs_words : (words : List Text) (clock : Option ℕ) (path store : List ℕ) (task : Task) → Gives words clock path store task → (v : Verdict)
    → RunsLendable task path v → RunsWords words clock v
runs_words words clock path store task gives Stops it = tt
runs_words words clock path store task gives (Refused fault) it = tt
runs_words words clock path store task gives (Runs p) it =
    inr (store, task, subst (λ (l : List ℕ). Gives words clock l store task) (sym it.1) gives, it.0)

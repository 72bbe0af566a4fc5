-- What a station that runs makes of its records.
use Rattle.std.specs.Prelude.{◌≡◌, ◌≢◌, ◌⊎◌, ◌+◌, ℕ, List, Option, Result, Ok, Err, string_bytes, ⊤, if◌then◌else◌}
use Rattle.clap.specs.Words.{Text}
use Rattle.as2_agreement.specs.Agreements.{AgreedValues}
use Rattle.as2_agreement.specs.Reading.{agreements_reading}
use Rattle.as2_bounded.specs.declared.bounded.Bounded.{Bounded}
use Rattle.as2_commands.specs.Options.{Gives}
use Rattle.as2_commands.specs.Requests.{GivenOperating}
use Rattle.as2_commands.specs.declared.tasks.RunOptions.{RunOptions}
use Rattle.as2_commands.specs.declared.tasks.Task.TheVariants.{Operate}
use Rattle.as2_desk.specs.FileAgreements.{HasAgreements}
use Rattle.as2_desk.specs.Statuses.{status_done}
use Rattle.as2_desk.specs.declared.agreed.AgreedText.{AgreedText}
use Rattle.as2_desk.specs.declared.refusal.CommandFault.{CommandFault}
use Rattle.as2_desk.specs.declared.status.Ran.{Ran}
use Rattle.as2_exchange.specs.Run.{Run, Trace}
use Rattle.as2_exchange.specs.State.{State}
use Rattle.as2_host.specs.FileContents.{Content}
use Rattle.as2_host.specs.declared.stores.OpenStores.{Ghosts as Stores}
use Rattle.as2_live.specs.Living.{LivesOn, LivesOnAcross}
use Rattle.as2_live.specs.declared.live.Live.{Live}
use Rattle.as2_loop.specs.declared.commands.Basis.{Basis}
use Rattle.as2_loop.specs.declared.operating.Held.{Held}
use Rattle.as2_loop.specs.declared.operating.Spanned.{Spanned}
use Rattle.as2_loop.specs.declared.operating.Spanned.TheVariants.{Elsewhere, Refused, Shut, Stopped}
use Rattle.as2_records.specs.Standing.{Medium, Standing}
use Rattle.as2_station.specs.Theorem.{EndsByHistory}

-- the agreements that a station runs by are those of their text
abbrev pub IsOfText : Basis → Type 0
IsOfText basis = agreements_reading basis.agreed.text.items ≡ Ok basis.agreed.agreements

-- From the state s a run of the machine led to one that is kept then. What stands of each document is its history.
pub record LedTo (A : AgreedValues) (s : State) (Keeps : State → Type 0) : Type 0 where
  pub trace : Trace
  pub state : State
  pub kept : Keeps state
  pub run : Run A s trace state
  pub by_history : EndsByHistory A s trace state

module _ {M : Medium} {R : Type 0} (shows : R → Standing M) where
  -- a live station runs by these agreements, which are those of their text
  pub record RunsBy (basis : Basis) (live : Live (Bounded R)) : Type 0 where
    pub text : IsOfText basis
    pub agreed : live.desk.agreements.now ≡ basis.agreed.agreements

  -- what became of a station that runs by them is what happened to it
  abbrev pub RunsOn : Basis → Live (Bounded R) → Live (Bounded R) → Type 0
  RunsOn basis old new = RunsBy basis old → LivesOn (λ (b : Bounded R). shows b.records) old new

module _ {M N : Medium} {K L : Type 0} (shows : K → Standing M) (in_round : L → Standing N) where
  -- what became of a live station in a turn is what happened to it; so is what became of a round of it that was lost
  abbrev pub SettlesTo : Live K → Result (Live K) (Live L) → Type 0
  SettlesTo old (Ok new) = LivesOn shows old new
  SettlesTo old (Err round) = LivesOnAcross shows in_round old round

  -- the same of a round that was begun
  abbrev pub CommitsTo : Live L → Result (Live K) (Live L) → Type 0
  CommitsTo round (Ok new) = LivesOnAcross in_round shows round new
  CommitsTo round (Err left) = LivesOn in_round round left

-- records, and records within a round of them
module _ {M N : Medium} {R L : Type 0} (shows : R → Standing M) (in_round : L → Standing N) where
  -- what became of a station that runs by these agreements, or of a round of it that was lost, is what happened to it
  abbrev pub RunsTo : Basis → Live (Bounded R) → Result (Live (Bounded R)) (Live (Bounded L)) → Type 0
  RunsTo basis old (Ok new) = RunsOn shows basis old new
  RunsTo basis old (Err round) = RunsBy shows basis old → LivesOnAcross (λ (b : Bounded R). shows b.records) (λ (b : Bounded L). in_round b.records) old round

  -- some records stand for what a station that turned led others to
  pub record LeadsRecords (basis : Basis) (old : R) (new : L) : Type 0 where
    pub clean : (in_round new).IsClean → (shows old).IsClean
    pub led : (in_round new).IsClean → (s : State) → (shows old).Rests s → LedTo basis.agreed.agreements s (in_round new).Rests

module _ {M N : Medium} {R L : Type 0} (shows : R → Standing M) (in_round : L → Standing N) where
  -- the records that a station left, or a round of them that was lost, stand for what it led others to
  abbrev pub LeadsLeft : Basis → R → Result R L → Type 0
  LeadsLeft basis old (Ok new) = LeadsRecords shows shows basis old new
  LeadsLeft basis old (Err round) = LeadsRecords shows in_round basis old round

module _ {O Opened InMemory : Type 0} (g : Stores O Opened InMemory) (path : List ℕ) where
  -- Where the medium has returned what was written, it had done so before (Clean). What is kept under the path then is what a run of the
  -- machine led to, from each state that stood (Stood).
  pub record LeadsFrom (A : AgreedValues) (Clean : Type 0) (Stood : State → Type 0) (new : O) : Type 0 where
    pub clean : g.is_clean new → Clean
    pub led : g.is_clean new → (s : State) → Stood s → LedTo A s (λ t. (number : ℕ) → g.keeps new path number t)

  -- what some records stand for is kept under it
  pub record KeepsRecords {M : Medium} (shown : Standing M) (new : O) : Type 0 where
    pub clean : g.is_clean new → shown.IsClean
    pub kept : g.is_clean new → (s : State) → shown.Rests s → (number : ℕ) → g.keeps new path number s

  -- what was kept under it is kept, and no store was opened
  pub record KeepsAll (old new : O) : Type 0 where
    pub clean : g.is_clean new → g.is_clean old
    pub same : (number : ℕ) (s : State) → g.keeps old path number s → g.keeps new path number s
    pub counted : g.opens new ≡ g.opens old

  -- One store was opened, and the store of that path was led on from what was kept under it, a new one from no entry and this first number.
  pub record LeadsOne (A : AgreedValues) (first : ℕ) (old new : O) : Type 0 where
    pub leads : LeadsFrom A (g.is_clean old) (g.keeps old path first) new
    pub counted : g.opens new ≡ g.opens old + 1

  -- it was led on so, or it couldn't be opened
  abbrev pub LeadsOn : AgreedValues → ℕ → O → O → Type 0
  LeadsOn A first old new = LeadsOne A first old new ⊎ KeepsAll old new

module _ {O Opened InMemory : Type 0} (g : Stores O Opened InMemory) {M N : Medium} {R L : Type 0} (shows : R → Standing M) (in_round : L → Standing N) where
  -- what a station left of its records, or of a round of them that was lost, is kept under that path
  abbrev pub KeepsLeft : List ℕ → Result R L → O → Type 0
  KeepsLeft path (Ok records) new = KeepsRecords g path (shows records) new
  KeepsLeft path (Err round) new = KeepsRecords g path (in_round round) new

-- what is left of a station is what ran
abbrev pub KeepsBasis : Basis → Held → Type 0
KeepsBasis basis held = held.basis ≡ basis

-- what is to go on runs by these agreements, over the store of that path
abbrev pub IsOver : AgreedText → List ℕ → Held → Type 0
IsOver agreed path held = (held.basis.agreed ≡ agreed) × (string_bytes held.basis.store ≡ path)

-- what is left of a station whose records couldn't be reached is to go on; else it has stopped
abbrev pub left_as : Held → Spanned
left_as held = if held.shell.is_shut then Shut held else Stopped held

-- what came of a station is told so
abbrev pub TellsCame : Result Held CommandFault → Spanned → Type 0
TellsCame (Ok held) told = told ≡ left_as held
TellsCame (Err refusal) told = (ran : Ran) × (told ≡ Refused ran) × (ran.status ≢ status_done)

-- a station has run: it has stopped, or is to go on
abbrev pub HasRun : Spanned → Type 0
HasRun Elsewhere = ⊥
HasRun (Refused ran) = ⊥
HasRun (Stopped held) = ⊤
HasRun (Shut held) = ⊤

-- what is to go on, where something is
abbrev pub IfShut : Spanned → (Held → Type 0) → Type 0
IfShut (Shut held) P = P held
IfShut other P = ⊤

-- The words ask for a station over that store, and the file that they name has those agreements: by these the store was led on, and by
-- these the station is to go on. No other store was opened.
pub record BeginsStation {O Opened InMemory : Type 0} (g : Stores O Opened InMemory) (contents : List ℕ → Content) (words : List Text) (old new : O)
    (told : Spanned) : Type 0 where
  pub clock : Option ℕ
  pub file : List ℕ
  pub path : List ℕ
  pub run : RunOptions
  pub wanted : GivenOperating
  pub gives : Gives words clock file path (Operate run wanted)
  pub agreed : AgreedValues
  pub opens : HasAgreements (contents file) (Ok agreed)
  pub leads : LeadsFrom g path agreed (g.is_clean old) (g.keeps old path run.first) new
  pub counted : g.opens new ≡ g.opens old + 1
  pub behind : IfShut told (λ held. IsOfText held.basis × (held.basis.agreed.agreements ≡ agreed) × (string_bytes held.basis.store ≡ path))

-- A station that is to go on leads its store on, or leaves what is kept there.
pub record GoesOnWith {O Opened InMemory : Type 0} (g : Stores O Opened InMemory) (held : Held) (old new : O) (told : Spanned) : Type 0 where
  pub first : ℕ
  pub leads : LeadsOn g (string_bytes held.basis.store) held.basis.agreed.agreements first old new
  pub behind : IfShut told (λ later. later.basis ≡ held.basis)

-- What happens to a live station, and where it leads.
use Rattle.std.specs.Prelude.{◌≡◌, ℕ, Bool, false, List, [], ◌∷◌, ◌++◌, length, map, slice_get, Option, Some, None, is_some, ⊤}
use Rattle.as2_agreement.specs.Agreements.{AgreedValues}
use Rattle.as2_exchange.specs.Run as run
use Rattle.as2_exchange.specs.Run.{AMigration, AnEvent, Answered, EventResult, Run, Trace}
use Rattle.as2_exchange.specs.State.{State}
use Rattle.as2_exchange.specs.declared.answer.Answer.TheVariants.{Job as Handed, Refused}
use Rattle.as2_exchange.specs.declared.answer.Job.{Job}
use Rattle.as2_exchange.specs.declared.event.Event.{Event}
use Rattle.as2_exchange.specs.declared.event.Event.TheVariants.{Resend, Submit, Tick}
use Rattle.as2_exchange.specs.declared.event.TryAnswer.{TryAnswer}
use Rattle.as2_exchange.specs.declared.fault.StoreFault.{StoreFault}
use Rattle.as2_exchange.specs.declared.next.Next.{Next}
use Rattle.as2_http.specs.Streams.{RequestAndResponse, stream_events}
use Rattle.as2_hub.specs.Bounded.{KeepsBounds}
use Rattle.as2_hub.specs.Calls.{DeskCall}
use Rattle.as2_hub.specs.Happenings.{Happening, Happenings, Opens, Comes, Keeps, Loses, Goes, Closes}
use Rattle.as2_hub.specs.Places.{StandAfter, places}
use Rattle.as2_hub.specs.Rounds.{AnswerWhatWaited}
use Rattle.as2_hub.specs.Turns.{called_places, places_asked}
use Rattle.as2_front.specs.Rounds.{LosesDesk, PassesDesk}
use Rattle.as2_front.specs.Serving.{AnswersCalls}
use Rattle.as2_links.specs.Happenings.{Begins, Cuts, Ends, Hears, LinkHappening, LinkHappenings, Sends, if_so}
use Rattle.as2_links.specs.Links.{LinksStand, MayOpen, link_in, links_of}
use Rattle.as2_records.specs.Standing.{Medium, Standing}
use Rattle.as2_sending.specs.Hints.{why_of}
use Rattle.as2_sending.specs.declared.links.LinkFault.{LinkFault}
use Rattle.as2_station.specs.Said.{begin_event, outcome_event, said_to_outcome}
use Rattle.as2_station.specs.Theorem.{EndsByHistory, said_as}
use Rattle.as2_live.specs.declared.live.Live.{Live}
use Rattle.as2_live.specs.declared.tries.EndedTry.{EndedTry}
use Rattle.as2_live.specs.declared.tries.TryBegun.{TryBegun}
use Rattle.as2_live.specs.declared.tries.TryBegun.TheVariants as begun
use Rattle.as2_live.specs.declared.tries.TryBegun.TheVariants.{Begun, NoPlace}

-- ---- what happens

-- what happens to a live station
pub data LiveHappening : Type 0 where
  -- a connection is opened or closed, bytes come from it or go to it
  AtAPlace : (what : Happening) → LiveHappening
  -- at this moment these calls of the desk answer what the connections ask, the newest first
  Answers : (moment : ℕ) (round : List DeskCall) → LiveHappening
  -- this moment has come, and that was said to it
  Ticks : (moment : ℕ) (said : EventResult) → LiveHappening
  -- a command of these words was carried out
  Commanded : (words : List (List ℕ)) → LiveHappening
  -- bytes go over a link or come from it, or its partner sends no more
  AtALink : (what : LinkHappening) → LiveHappening
  -- a try begins at this moment, and that was said to it; where a request was handed out, a link is opened for it at that place
  BeginsTry : (l : ℕ) (what : Next) (moment : ℕ) (said : EventResult) → LiveHappening
  -- the link there is closed, what it brought is taken at this moment as the outcome of its try, and that was said to it
  EndsTry : (l : ℕ) (what : Next) (got : TryAnswer) (moment : ℕ) (said : EventResult) → LiveHappening

-- the newest first
abbrev pub LiveHistory : Type 0
LiveHistory = List LiveHappening

-- these happen at places
abbrev pub all_at_places : Happenings → LiveHistory
all_at_places = map AtAPlace

-- what of it happens at the connections
abbrev pub at_places : LiveHistory → Happenings
at_places [] = []
at_places (AtAPlace what ∷ h) = what ∷ at_places h
at_places (Answers moment round ∷ h) = Keeps round ∷ at_places h
at_places (Ticks moment said ∷ h) = at_places h
at_places (Commanded words ∷ h) = at_places h
at_places (AtALink what ∷ h) = at_places h
at_places (BeginsTry l what moment said ∷ h) = at_places h
at_places (EndsTry l what got moment said ∷ h) = at_places h

-- the link that is opened for a try, where its request was handed out
abbrev pub opened_for : ℕ → Next → EventResult → LinkHappenings
opened_for l what (Answered (Handed job)) = Begins l what job ∷ []
opened_for l what said = []

-- what of it happens at the links
abbrev pub at_links : LiveHistory → LinkHappenings
at_links [] = []
at_links (AtAPlace what ∷ h) = at_links h
at_links (Answers moment round ∷ h) = at_links h
at_links (Ticks moment said ∷ h) = at_links h
at_links (Commanded words ∷ h) = at_links h
at_links (AtALink what ∷ h) = what ∷ at_links h
at_links (BeginsTry l what moment said ∷ h) = opened_for l what said ++ at_links h
at_links (EndsTry l what got moment said ∷ h) = Ends l what got ∷ at_links h

-- that happened at a link, or nothing did
abbrev pub at_a_link : Bool → LinkHappening → LiveHistory
at_a_link is what = map AtALink (if_so is what)

-- ---- where it leads

-- a command makes it: a document is handed in or sent anew, or a moment has come
abbrev pub IsOfCommand : Event → Type 0
IsOfCommand (Submit organization partner content moment) = ⊤
IsOfCommand (Resend number moment) = ⊤
IsOfCommand (Tick moment) = ⊤
IsOfCommand other = ⊥

-- one event that a command makes, or none
abbrev pub IsOneAtMost : Trace → Type 0
IsOneAtMost [] = ⊤
IsOneAtMost (AnEvent event said ∷ []) = IsOfCommand event
IsOneAtMost (AMigration next_in ∷ []) = ⊥
IsOneAtMost (first ∷ second ∷ others) = ⊥

-- from the state s one event, with what was said to it, or none led the machine to a state that is left
pub record LeadsByOne (A : AgreedValues) (s : State) (Left : State → Type 0) : Type 0 where
  pub state : State
  pub left : Left state
  pub events : Trace
  pub one : IsOneAtMost events
  pub run : Run A s events state

-- From the state s what happened leads to t. Each round answers its calls one after the other, from the state that was left before. A
-- moment that has come is an event. So are a try that begins and its outcome. A command is one event or none. Nothing else changes the
-- state. The trace has the posts and the events, in the order in which they were taken.
abbrev pub LeadsTo : AgreedValues → State → LiveHistory → Trace → State → Type 0
LeadsTo A s [] trace t = (trace ≡ []) × (t ≡ s)
LeadsTo A s (AtAPlace (Opens c) ∷ h) trace t = LeadsTo A s h trace t
LeadsTo A s (AtAPlace (Comes c piece) ∷ h) trace t = LeadsTo A s h trace t
LeadsTo A s (AtAPlace (Goes c piece) ∷ h) trace t = LeadsTo A s h trace t
LeadsTo A s (AtAPlace (Closes c) ∷ h) trace t = LeadsTo A s h trace t
LeadsTo A s (AtAPlace (Keeps round) ∷ h) trace t = ⊥
LeadsTo A s (AtAPlace (Loses round) ∷ h) trace t = ⊥
LeadsTo A s (Answers moment round ∷ h) trace t = (mid : State) × (before : Trace) × (done : List RequestAndResponse) × LeadsTo A s h before mid
    × AnswersCalls A moment mid round done t × (trace ≡ before ++ stream_events moment done)
LeadsTo A s (Ticks moment said ∷ h) trace t = (mid : State) × (before : Trace) × LeadsTo A s h before mid
    × Run A mid (AnEvent (Tick moment) said ∷ []) t × (trace ≡ before ++ AnEvent (Tick moment) said ∷ [])
LeadsTo A s (Commanded words ∷ h) trace t = (mid : State) × (before events : Trace) × LeadsTo A s h before mid
    × IsOneAtMost events × Run A mid events t × (trace ≡ before ++ events)
LeadsTo A s (AtALink (Begins l what job) ∷ h) trace t = ⊥
LeadsTo A s (AtALink (Sends l piece) ∷ h) trace t = LeadsTo A s h trace t
LeadsTo A s (AtALink (Hears l piece) ∷ h) trace t = LeadsTo A s h trace t
LeadsTo A s (AtALink (Cuts l) ∷ h) trace t = LeadsTo A s h trace t
LeadsTo A s (AtALink (Ends l what got) ∷ h) trace t = ⊥
LeadsTo A s (BeginsTry l what moment said ∷ h) trace t = (mid : State) × (before : Trace) × LeadsTo A s h before mid
    × Run A mid (AnEvent (begin_event what moment) said ∷ []) t × (trace ≡ before ++ AnEvent (begin_event what moment) said ∷ [])
LeadsTo A s (EndsTry l what got moment said ∷ h) trace t = (mid : State) × (before : Trace) × LeadsTo A s h before mid
    × Run A mid (AnEvent (outcome_event what got moment) said ∷ []) t × (trace ≡ before ++ AnEvent (outcome_event what got moment) said ∷ [])

module _ {M : Medium} {K : Type 0} (shows : K → Standing M) where
  -- From the state s it led to one that the records now stand for; the trace is a run of the machine, and what stands of each document is its
  -- history.
  pub record LivesFrom (new : Live K) (A : AgreedValues) (h : LiveHistory) (s : State) : Type 0 where
    pub trace : Trace
    pub left : State
    pub rests : (shows new.desk.station).Rests left
    pub leads : LeadsTo A s h trace left
    pub run : Run A s trace left
    pub by_history : EndsByHistory A s trace left

module _ {M N : Medium} {K L : Type 0} (shows : K → Standing M) (shows_new : L → Standing N) where
  -- This happened in between. Whatever happened before, the connections stand as after it, and what waited was answered and nothing else.
  -- The links stand as after it, what happened at them was right, and there are as many places for them. The records, perhaps of another type, stand for the state that it led to.
  pub record LivesAcross (old : Live K) (history : LiveHistory) (new : Live L) : Type 0 where
    pub stands : (h : Happenings) → StandAfter (places old.hub) h → StandAfter (places new.hub) (at_places history ++ h)
    pub answer : (h : Happenings) → StandAfter (places old.hub) h → AnswerWhatWaited h → AnswerWhatWaited (at_places history ++ h)
    pub bounded : KeepsBounds old.hub new.hub
    pub linked : (h : LinkHappenings) → LinksStand old.links h → LinksStand new.links (at_links history ++ h)
    pub as_many : length (links_of new.links) ≡ length (links_of old.links)
    pub agreed : new.desk.agreements.now ≡ old.desk.agreements.now
    pub clean : (shows_new new.desk.station).IsClean → (shows old.desk.station).IsClean
    pub lives : (shows_new new.desk.station).IsClean → (s : State) → (shows old.desk.station).Rests s
        → LivesFrom shows_new new old.desk.agreements.now history s

  -- something happened in between
  abbrev pub LivesOnAcross : Live K → Live L → Type 0
  LivesOnAcross old new = (history : LiveHistory) × LivesAcross old history new

  -- Another live station has taken its place, over other records. What those stood for these stand for, and all else is as it was.
  pub record PassesLive (old : Live K) (new : Live L) : Type 0 where
    pub hub : new.hub ≡ old.hub
    pub links : new.links ≡ old.links
    pub desk : PassesDesk shows shows_new old.desk new.desk

-- of a place at which a try was begun, refused or failed
abbrev pub IfPlace : TryBegun → Type 0 → Type 0
IfPlace NoPlace P = ⊤
IfPlace Begun P = P
IfPlace (begun.Refused reason) P = P
IfPlace (begun.Failed fault) P = P

-- of the fault that came in place of a try's beginning
abbrev pub IfFailed : TryBegun → (StoreFault → Type 0) → Type 0
IfFailed Begun P = ⊤
IfFailed NoPlace P = ⊤
IfFailed (begun.Refused reason) P = ⊤
IfFailed (begun.Failed fault) P = P fault

module _ {M : Medium} {K : Type 0} (shows : K → Standing M) where
  -- a live station in a round that couldn't be committed
  pub record LosesLive (old new : Live K) : Type 0 where
    pub hub : new.hub ≡ old.hub
    pub links : new.links ≡ old.links
    pub desk : LosesDesk shows old.desk new.desk

  -- this happened in between, over records of one type
  abbrev pub LivesBy : Live K → LiveHistory → Live K → Type 0
  LivesBy old history new = LivesAcross shows shows old history new

  -- a try began at that place, was refused, or a fault came; or no link could be opened there for it, and nothing happened
  abbrev pub BeginsOn : ℕ → Next → ℕ → Live K → Live K → TryBegun → Type 0
  BeginsOn l what moment old new NoPlace = LivesBy old [] new × (new ≡ old) × ¬ (MayOpen old.links l what)
  BeginsOn l what moment old new Begun = (job : Job) × LivesBy old (BeginsTry l what moment (Answered (Handed job)) ∷ []) new
  BeginsOn l what moment old new (begun.Refused reason) = LivesBy old (BeginsTry l what moment (Answered (Refused reason)) ∷ []) new
  BeginsOn l what moment old new (begun.Failed fault) = LivesBy old (BeginsTry l what moment (run.Failed fault) ∷ []) new

  -- the link there ended, with the outcome of its try, and why it failed where it did; or there was none, and nothing happened
  abbrev pub EndsOn : ℕ → ℕ → LinkFault → Live K → Live K → Option EndedTry → Type 0
  EndsOn l moment fault old new None = LivesBy old [] new × (new.desk ≡ old.desk) × (is_some (link_in (slice_get (links_of old.links) l)) ≡ false)
  EndsOn l moment fault old new (Some ended) =
      (got : TryAnswer) × (ended.why ≡ why_of got fault)
      × LivesBy old (EndsTry l ended.what got moment (said_as said_to_outcome ended.said) ∷ []) new

  -- something happened in between
  abbrev pub LivesOn : Live K → Live K → Type 0
  LivesOn old new = (history : LiveHistory) × LivesBy old history new

  -- at this moment a round answered what waits at the places that it asks
  abbrev pub AnswersPlaces : Live K → ℕ → List ℕ → Live K → Type 0
  AnswersPlaces old moment named new = (round : List DeskCall) × (called_places round ≡ places_asked old.hub named)
      × LivesBy old (Answers moment round ∷ []) new

-- What the station comes to that serves many connections: the headline of the station holds of it.
use Rattle.std.specs.Prelude.{◌≡◌, ℕ, false, List, [], ◌∷◌, ◌++◌, ⊤}
use Rattle.as2_agreement.specs.Agreements.{AgreedValues}
use Rattle.as2_exchange.specs.Lines.{refusal}
use Rattle.as2_exchange.specs.Run.{Run}
use Rattle.as2_exchange.specs.State.{State}
use Rattle.as2_http.specs.Responses.{Unsaid}
use Rattle.as2_http.specs.Sending.{refusal_form}
use Rattle.as2_http.specs.Streams.{RequestAndResponse, stream_events}
use Rattle.as2_hub.specs.Calls.{DeskCall}
use Rattle.as2_hub.specs.Happenings.{Happenings, Opens, Comes, Keeps, Loses, Goes, Closes}
use Rattle.as2_hub.specs.Promises.{KeepsPromises}
use Rattle.as2_hub.specs.Rounds.{Scene}
use Rattle.as2_hub.specs.declared.beginning.Beginning.{Beginning}
use Rattle.as2_hub.specs.declared.beginning.Beginning.TheVariants as beginning
use Rattle.as2_hub.specs.declared.input.Input.{Input}
use Rattle.as2_messages.specs.Replies.{refusal_line}
use Rattle.as2_records.specs.Standing.{Medium, Standing}
use Rattle.as2_station.specs.Theorem.{EndsByHistory}
use Rattle.as2_front.specs.Answers.{AnswersRequest, GivesReply, conduct_by}
use Rattle.as2_front.specs.declared.desk.StationDesk.{StationDesk}

-- the calls of the rounds that were kept, of all connections, in the order in which they were made; the newest is the first
abbrev pub kept_calls : Happenings → List DeskCall
kept_calls [] = []
kept_calls (Keeps round ∷ h) = round ++ kept_calls h
kept_calls (Loses round ∷ h) = kept_calls h
kept_calls (Opens c ∷ h) = kept_calls h
kept_calls (Comes c piece ∷ h) = kept_calls h
kept_calls (Goes c piece ∷ h) = kept_calls h
kept_calls (Closes c ∷ h) = kept_calls h

-- no round was lost
abbrev pub LosesNone : Happenings → Type 0
LosesNone [] = ⊤
LosesNone (Keeps round ∷ h) = LosesNone h
LosesNone (Loses round ∷ h) = ⊥
LosesNone (Opens c ∷ h) = LosesNone h
LosesNone (Comes c piece ∷ h) = LosesNone h
LosesNone (Goes c piece ∷ h) = LosesNone h
LosesNone (Closes c ∷ h) = LosesNone h

module _ (A : AgreedValues) (moment : ℕ) where
  -- What a connection begins with gets that in the state s, which leaves t. A request gets its response and its reply. Bytes that no
  -- request begins with get their reply, and change nothing.
  abbrev pub GetsAnswer : State → State → Beginning → DeskCall → List RequestAndResponse → Type 0
  GetsAnswer s t (beginning.Request r) e now = (it : AnswersRequest A moment s t Unsaid r e.reply e.stays) × (now ≡ (r, it.response) ∷ [])
  GetsAnswer s t (beginning.NoRequest refused) e now =
      (now ≡ []) × (t ≡ s) × GivesReply moment (refusal_form refused) (refusal (refusal_line refused.reason)) false e.reply e.stays

  -- the calls were answered one after the other, from the state s on, which left t; and those are the requests of all, with what they got
  abbrev pub AnswersCalls : State → List DeskCall → List RequestAndResponse → State → Type 0
  AnswersCalls s [] done t = (done ≡ []) × (t ≡ s)
  AnswersCalls s (e ∷ earlier) done t = (mid : State) × (before now : List RequestAndResponse) × AnswersCalls s earlier before mid
      × GetsAnswer mid t e.asked e now × (done ≡ before ++ now)

module _ {M : Medium} {K : Type 0} (shows : K → Standing M) where
  -- Where the records stood for the state s, the calls of the rounds that were kept, and no other, were answered one after the other. Their
  -- posts, in that order, led the machine to the state that the records now stand for. What stands of each document is its history.
  pub record ServesFrom (old new : StationDesk K) (h : Happenings) (s : State) : Type 0 where
    pub done : List RequestAndResponse
    pub left : State
    pub rests : (shows new.station).Rests left
    pub answered : AnswersCalls old.agreements.now old.moment s (kept_calls h) done left
    pub run : Run old.agreements.now s (stream_events old.moment done) left
    pub by_history : EndsByHistory old.agreements.now s (stream_events old.moment done) left

  -- What is promised of many connections is kept, no round was lost, and the station served them.
  pub record ServesMany (inputs : List Input) (old new : Scene (StationDesk K)) : Type 0 where
    pub promised : KeepsPromises (conduct_by shows) inputs old new
    pub none_lost : LosesNone promised.happenings
    pub same : new.desk ≡ record old.desk { station = new.desk.station }
    pub clean : (shows new.desk.station).IsClean → (shows old.desk.station).IsClean
    pub serves : (shows new.desk.station).IsClean → (s : State) → (shows old.desk.station).Rests s
        → ServesFrom old.desk new.desk promised.happenings s

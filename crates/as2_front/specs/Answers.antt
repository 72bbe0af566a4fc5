-- How the station answers, as a desk of many connections.
use Rattle.std.specs.Prelude.{◌≡◌, ◌⊎◌, ℕ, not, Bool, false, List, [], ⊤}
use Rattle.as2_agreement.specs.Agreements.{AgreedValues}
use Rattle.as2_exchange.specs.Lines.{refusal}
use Rattle.as2_exchange.specs.State.{State}
use Rattle.as2_exchange.specs.declared.answer.HttpAnswer.{HttpAnswer}
use Rattle.as2_http.specs.Responses.{IsSafe, Responds, http_answer, is_for_station}
use Rattle.as2_http.specs.Sending.{form_of, refusal_form}
use Rattle.as2_http.specs.declared.response.Response.{Response}
use Rattle.as2_hub.specs.Conduct.{Conduct}
use Rattle.as2_hub.specs.declared.beginning.Beginning.{Beginning}
use Rattle.as2_hub.specs.declared.beginning.Beginning.TheVariants as beginning
use Rattle.as2_messages.specs.Replies.{IsReply, refusal_line}
use Rattle.as2_messages.specs.declared.reply.Form.{Form}
use Rattle.as2_messages.specs.declared.request.Request.{Request}
use Rattle.as2_records.specs.Standing.{Medium, Standing}
use Rattle.as2_front.specs.declared.desk.StationDesk.{StationDesk}

-- the reply that the answer is, and the connection stays open where it may; or nothing, since memory wasn't there, and it ends
abbrev pub GivesReply : ℕ → Form → HttpAnswer → Bool → List ℕ → Bool → Type 0
GivesReply moment form answer may_stay text stays = (IsReply moment form answer text × (stays ≡ may_stay)) ⊎ ((text ≡ []) × (stays ≡ false))

module _ (A : AgreedValues) (moment : ℕ) where
  -- In the state s the request gets a response, and that is its reply. The response leaves t, a state that is Safe where the records
  -- were asked.
  pub record AnswersRequest (s t : State) (Safe : State → Type 0) (r : Request) (text : List ℕ) (stays : Bool) : Type 0 where
    pub response : Response
    pub responds : Responds A moment s r response Safe t
    pub reply : GivesReply moment (form_of r) (http_answer response) (not r.last) text stays

  -- records that stand for a state stand for the one that is left; where they are clean then, they were
  pub record AnswersOver {M : Medium} (old new : Standing M) (r : Request) (text : List ℕ) (stays : Bool) : Type 0 where
    pub clean : new.IsClean → old.IsClean
    pub answers : new.IsClean → (s : State) → old.Rests s → (t : State) × new.Rests t × AnswersRequest s t (IsSafe new) r text stays

-- At its moment and over its agreements the station answers a request. It asks its records only for a post to its path. Bytes that no
-- request begins with get their reply, and change nothing.
abbrev pub AnswersAt : {M : Medium} {K : Type 0} → (K → Standing M) → StationDesk K → Beginning → List ℕ → Bool → StationDesk K → Type 0
AnswersAt shows d (beginning.Request r) text stays e =
    (e ≡ record d { station = e.station }) × (is_for_station r.method r.target ≡ false → e ≡ d)
    × AnswersOver d.agreements.now d.moment (shows d.station) (shows e.station) r text stays
AnswersAt shows d (beginning.NoRequest refused) text stays e =
    (e ≡ d) × GivesReply d.moment (refusal_form refused) (refusal (refusal_line refused.reason)) false text stays

-- what the station answers is kept at once, so that no round is lost
abbrev pub conduct_by : {M : Medium} {K : Type 0} → (K → Standing M) → Conduct (StationDesk K)
conduct_by {M} {K} shows = record {
  Kept = StationDesk K;
  kept = λ d. d;
  answers = AnswersAt shows;
  at_rest = λ d. ⊤;
  settles = λ d e. e ≡ d;
  may_lose = λ d. false;
}

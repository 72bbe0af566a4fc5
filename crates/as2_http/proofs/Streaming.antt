-- One piece of a stream: its requests, one after the other, and how the stream ends with it (`answer_piece`).
-- The plan: answers and open streams join at the end (`answers_join`, `go_on_join`). `Proceeds` is what the loop keeps: it holds before
-- the first request (`begins_piece`) and behind one more (`proceeds_on`). Then one lemma for each way out of the loop, `piece_..`: all but
-- `piece_last`, whose request is answered whole, are `ends_there`, with the case of `PieceEnds` that is theirs. A new way out is one more
-- such lemma; a new fault of writing a case of both `.._cut_by`.
use Rattle.std.proofs.Common.{◌≡◌, ℕ, true, false, List, [], ◌∷◌, ◌++◌, Option, Some, None, Result, Ok, Err, refl, sym, ap, ◌∙◌, subst, append_assoc, append-nil}
use Rattle.std.specs.Io.KnownBytes.{Appends}
use Rattle.as2_records.specs.Standing.{Medium, Standing}
use Rattle.as2_agreement.specs.Agreements.{AgreedValues}
use Rattle.as2_exchange.specs.Lines.{refusal}
use Rattle.as2_exchange.specs.State.{State}
use Rattle.as2_http.specs.Notes.{WritesAndNotes, SinkAndJournal, note, refusal_note}
use Rattle.as2_messages.specs.Parsing.{HasTaken}
use Rattle.as2_messages.specs.Replies.{IsReply, refusal_line}
use Rattle.as2_messages.specs.Requests.{BeginsRequest, BeginsNoRequest}
use Rattle.as2_http.specs.Responses.{Responds, Unsaid, http_answer}
use Rattle.as2_http.specs.Sending.{WritesReply, form_of, refusal_form}
use Rattle.as2_http.specs.Streams.{RequestAndResponse, ServesRequest, AnswersAll, StayOpen, RepliesTo, AnswersPiece, PieceEnds, in_reply, in_refusal, for_request, for_reply, for_refusal, end_by, notes}
use Rattle.as2_messages.specs.declared.request.Request.{Request}
use Rattle.as2_messages.specs.declared.framing.Refused.{Refused}
use Rattle.as2_messages.specs.declared.parser.RequestParser.{RequestParser}
use Rattle.as2_http.specs.declared.response.Response.{Response}
use Rattle.as2_http.specs.declared.sending.SendFault.{SendFault}
use Rattle.as2_http.specs.declared.sending.SendFault.TheVariants as send_fault
use Rattle.as2_http.specs.declared.stream.Served.{Served}
use Rattle.as2_http.specs.declared.stream.Served.TheVariants as served
use Rattle.as2_messages.proofs.Framed.{begins_append, refuses_append}
use Rattle.as2_http.proofs.Noting.{says_nil, says_one, says_trans, says_unwritten}

-- ---- requests, one after the other

-- these requests, and then those
module _ (A : AgreedValues) (moment : ℕ) (mid t : State) (rest left more : List ℕ) (later : List RequestAndResponse)
    (b : AnswersAll A moment mid rest later t more left) where
  pub answers_join : (s : State) (text replies : List ℕ) (done : List RequestAndResponse) → AnswersAll A moment s text done mid replies rest
      → AnswersAll A moment s text (done ++ later) t (replies ++ more) left
  answers_join s text replies [] a =
      subst (λ (r : List ℕ). AnswersAll A moment s text later t (r ++ more) left) (sym a.1)
      (subst (λ (x : List ℕ). AnswersAll A moment s x later t more left) a.2 (subst (λ (x : State). AnswersAll A moment x rest later t more left) a.0 b))
  answers_join s text replies (x ∷ done) a = (
    a.0,
    a.1,
    a.2,
    a.3 ++ more,
    a.4,
    ap (λ (r : List ℕ). r ++ more) a.5 ∙ append_assoc a.1 a.3 more,
    answers_join a.0 a.2 a.3 done a.6,
  )

pub go_on_join : (done later : List RequestAndResponse) → StayOpen done → StayOpen later → StayOpen (done ++ later)
go_on_join [] later a b = b
go_on_join (x ∷ done) later a b = (a.0, go_on_join done later a.1 b)

-- ---- what is answered

-- The requests of a piece so far were answered, and the rest of the piece is to be taken. `text` is what was held before it, the piece, and
-- `left`, which stands for any bytes behind it.
pub record Proceeds {M : Medium} (A : AgreedValues) (moment : ℕ) (s : State) (text rest left : List ℕ) (p : RequestParser) (c : Standing M)
    (before now : SinkAndJournal) : Type 0 where
  pub done : List RequestAndResponse
  pub mid : State
  pub replies : List ℕ
  pub held : List ℕ
  pub all : AnswersAll A moment s text done mid replies (held ++ rest ++ left)
  pub go_on : StayOpen done
  pub rests : c.Rests mid
  pub taken : HasTaken p held
  pub said : WritesAndNotes before now replies (notes moment done)

-- the request was answered in a text: its reply was written whole, and noted
pub record IsAnswered {M : Medium} (A : AgreedValues) (moment : ℕ) (mid : State) (r : Request) (c : Standing M) (now later : SinkAndJournal) : Type 0 where
  pub response : Response
  pub next : State
  pub rests : c.Rests next
  pub responds : Responds A moment mid r response Unsaid next
  pub text : List ℕ
  pub is : IsReply moment (form_of r) (http_answer response) text
  pub said : WritesAndNotes now later text (note moment r response)

-- a refusal was written, or as much of it as could be, and noted
pub record SendsRefusal {U : Type 0} (moment : ℕ) (refused : Refused) (now later : SinkAndJournal) (sent : Result U SendFault) : Type 0 where
  pub sends : WritesReply moment (refusal_form refused) (refusal (refusal_line refused.reason)) now.written later.written sent
  pub noted : Appends now.noted later.noted (refusal_note moment refused.reason)

-- the same, where it is known how the writing went
refused_so : {U : Type 0} {moment : ℕ} {refused : Refused} {now later : SinkAndJournal} {sent went : Result U SendFault} → sent ≡ went
    → SendsRefusal moment refused now later sent → SendsRefusal moment refused now later went
refused_so {U} {moment} {refused} {now} {later} is x = subst (λ (y : Result U SendFault). SendsRefusal moment refused now later y) is x

module _ {M : Medium} {U : Type 0} {A : AgreedValues} {moment : ℕ} {mid : State} {r : Request} {c : Standing M} {now later : SinkAndJournal} where
  -- .. and of a reply
  replied_so : {sent went : Result U SendFault} → sent ≡ went → RepliesTo A moment mid r c now later sent → RepliesTo A moment mid r c now later went
  replied_so is x = subst (λ (y : Result U SendFault). RepliesTo A moment mid r c now later y) is x

  pub replied_whole : {sent : Result U SendFault} {u : U} → sent ≡ Ok u → RepliesTo A moment mid r c now later sent → IsAnswered A moment mid r c now later
  replied_whole {u} is x =
      let p : RepliesTo A moment mid r c now later (Ok u) = replied_so is x in
      record {
        response = p.response;
        next = p.left;
        rests = p.rests;
        responds = p.responds;
        text = p.sends.0;
        is = p.sends.1;
        said = (p.sends.2, p.noted);
      }

-- ---- a piece

pub begins_piece : {M : Medium} {A : AgreedValues} {moment : ℕ} {s : State} {piece left : List ℕ} {p : RequestParser} {c : Standing M}
    {now : SinkAndJournal} (held : List ℕ)
    → c.Rests s → HasTaken p held → Proceeds A moment s (held ++ piece ++ left) piece left p c now now
begins_piece {s} {now} held rests taken =
    record { done = []; mid = s; replies = []; held = held; all = (refl, refl, refl); go_on = tt; rests = rests; taken = taken; said = says_nil now }

module _ {M : Medium} {A : AgreedValues} {moment : ℕ} {s : State} {text rest left : List ℕ} {p : RequestParser} {c : Standing M}
    {before now : SinkAndJournal} (w : Proceeds A moment s text rest left p c before now) where
  -- ---- one request more is answered

  module _ {r : Request} {next : List ℕ} {d : Standing M} {later : SinkAndJournal} (b : BeginsRequest (w.held ++ rest) r next)
      (a : IsAnswered A moment w.mid r d now later) where
    -- the request begins the rest of the text, too, where that goes on
    answered_there : ServesRequest A moment w.mid (w.held ++ rest ++ left) (r, a.response) a.next a.text (next ++ left)
    answered_there = record { begins = begins_append (w.held ++ rest) left r next b; responds = a.responds; replies = a.is }

    -- .. behind those that were answered
    with_one : AnswersAll A moment s text (w.done ++ (r, a.response) ∷ []) a.next (w.replies ++ a.text) (next ++ left)
    with_one =
        answers_join A moment w.mid a.next (w.held ++ rest ++ left) (next ++ left) a.text ((r, a.response) ∷ [])
        (a.next, a.text, next ++ left, [], answered_there, sym (append-nil a.text), (refl, refl, refl))
        s text w.replies w.done w.all

    said_of_one : WritesAndNotes before later (w.replies ++ a.text) (notes moment (w.done ++ (r, a.response) ∷ []))
    said_of_one = says_one moment before now later w.replies a.text w.done (r, a.response) w.said a.said

    pub proceeds_on : {q : RequestParser} → HasTaken q [] → r.last ≡ false → Proceeds A moment s text next left q d before later
    proceeds_on taken go = record {
      done = w.done ++ (r, a.response) ∷ [];
      mid = a.next;
      replies = w.replies ++ a.text;
      held = [];
      all = with_one;
      go_on = go_on_join w.done ((r, a.response) ∷ []) w.go_on (go, tt);
      rests = a.rests;
      taken = taken;
      said = said_of_one;
    }

    pub piece_last : {q : RequestParser} → r.last ≡ true → AnswersPiece A moment s text left q d before later (Some served.Closed)
    piece_last ends = record {
      done = w.done ++ (r, a.response) ∷ [];
      mid = a.next;
      last = a.next;
      replies = w.replies ++ a.text;
      rest = next ++ left;
      all = with_one;
      rests = a.rests;
      ends = ((w.done, (r, a.response), refl, w.go_on, ends), refl, said_of_one);
    }

  -- ---- the piece ends: no further request is answered whole

  -- what is written and noted more stands behind what was
  said_then : (later : SinkAndJournal) (text lines : List ℕ) → WritesAndNotes now later text lines
      → WritesAndNotes before later (w.replies ++ text) (notes moment w.done ++ lines)
  said_then later text lines = says_trans before now later w.replies text (notes moment w.done) lines w.said

  -- .. or it is noted alone
  noted_then : (later : SinkAndJournal) (lines : List ℕ) → WritesAndNotes now later [] lines
      → WritesAndNotes before later w.replies (notes moment w.done ++ lines)
  noted_then later lines = says_unwritten before now later w.replies (notes moment w.done) lines w.said

  -- the piece ends so, behind the requests that were answered
  ends_there : {q : RequestParser} {d : Standing M} {later : SinkAndJournal} {end : Option Served} (last : State) → d.Rests last
      → PieceEnds A moment w.done w.mid w.replies (w.held ++ rest ++ left) left q before later last end
      → AnswersPiece A moment s text left q d before later end
  ends_there last rests ends = record {
    done = w.done;
    mid = w.mid;
    last = last;
    replies = w.replies;
    rest = w.held ++ rest ++ left;
    all = w.all;
    rests = rests;
    ends = ends;
  }

  -- no request ends in the rest
  pub piece_open : {q : RequestParser} → HasTaken q (w.held ++ rest) → AnswersPiece A moment s text left q c before now None
  piece_open taken = ends_there w.mid w.rests (w.go_on, refl, w.said, (w.held ++ rest, refl, taken))

  -- nothing is left of the piece
  pub piece_taken : rest ≡ [] → AnswersPiece A moment s text left p c before now None
  piece_taken none = piece_open (subst (HasTaken p) (sym (append-nil w.held) ∙ ap (λ (t : List ℕ). w.held ++ t) (sym none)) w.taken)

  -- memory for a request was wanting
  pub piece_unread : {q : RequestParser} → AnswersPiece A moment s text left q c before now (Some served.Memory)
  piece_unread = ends_there w.mid w.rests (w.go_on, for_request refl w.said)

  -- a reply wasn't written whole
  module _ {U : Type 0} {r : Request} {next : List ℕ} {q : RequestParser} {d : Standing M} {later : SinkAndJournal}
      (b : BeginsRequest (w.held ++ rest) r next) where
    -- .. but the first bytes of it, or none
    cut_by : (fault : SendFault) → RepliesTo {U = U} A moment w.mid r d now later (Err fault)
        → AnswersPiece A moment s text left q d before later (Some (end_by fault))
    cut_by send_fault.Write x =
        let e = x.sends in
        let there = begins_append (w.held ++ rest) left r next b in
        let said = said_then later e.2.part (note moment r x.response) (e.2.appended, x.noted) in
        ends_there x.left x.rests (w.go_on, in_reply r (next ++ left) x.response e.0 e.2.part e.2.missing there x.responds e.1 e.2.cut said)
    cut_by send_fault.Memory x =
        let there = begins_append (w.held ++ rest) left r next b in
        let said = noted_then later (note moment r x.response) (x.sends, x.noted) in
        ends_there x.left x.rests (w.go_on, for_reply r (next ++ left) x.response there x.responds said)

    pub piece_cut : {sent : Result U SendFault} {fault : SendFault} → sent ≡ Err fault → RepliesTo A moment w.mid r d now later sent
        → AnswersPiece A moment s text left q d before later (Some (end_by fault))
    piece_cut {fault} is x = cut_by fault (replied_so is x)

  -- no request begins there, and a refusal is noted
  module _ {refused : Refused} (b : BeginsNoRequest (w.held ++ rest) refused) where
    refuses_there : BeginsNoRequest (w.held ++ rest ++ left) refused
    refuses_there = refuses_append (w.held ++ rest) left refused b

    -- it is written
    pub piece_refused : {U : Type 0} {q : RequestParser} {later : SinkAndJournal} {sent : Result U SendFault} {u : U} → sent ≡ Ok u
        → SendsRefusal moment refused now later sent
        → AnswersPiece A moment s text left q c before later (Some served.BadFraming)
    piece_refused {later} {u} is x =
        let e : SendsRefusal moment refused now later (Ok u) = refused_so is x in
        let said = said_then later e.sends.0 (refusal_note moment refused.reason) (e.sends.2, e.noted) in
        ends_there w.mid w.rests (
          w.go_on,
          refl,
          record { refused = refused; refuses = refuses_there; text = e.sends.0; is = e.sends.1; said = said },
        )

    -- .. or the first bytes of it are, or none
    refusal_cut_by : {U : Type 0} {q : RequestParser} {later : SinkAndJournal} (fault : SendFault)
        → SendsRefusal {U = U} moment refused now later (Err fault)
        → AnswersPiece A moment s text left q c before later (Some (end_by fault))
    refusal_cut_by {later} send_fault.Write x =
        let e = x.sends in
        let said = said_then later e.2.part (refusal_note moment refused.reason) (e.2.appended, x.noted) in
        ends_there w.mid w.rests (w.go_on, in_refusal refused e.0 e.2.part e.2.missing refuses_there refl e.1 e.2.cut said)
    refusal_cut_by {later} send_fault.Memory x =
        let said = noted_then later (refusal_note moment refused.reason) (x.sends, x.noted) in
        ends_there w.mid w.rests (w.go_on, for_refusal refused refuses_there refl said)

    pub piece_refusal_cut : {U : Type 0} {q : RequestParser} {later : SinkAndJournal} {sent : Result U SendFault} {fault : SendFault} → sent ≡ Err fault
        → SendsRefusal moment refused now later sent
        → AnswersPiece A moment s text left q c before later (Some (end_by fault))
    piece_refusal_cut {fault} is x = refusal_cut_by fault (refused_so is x)

-- A whole stream, read by read: the contracts of `answer_next` and `serve_stream`. One piece of it is in Streaming.antt.
-- The plan: what was answered is a run of the machine (`answers_run`; for the clause on posts `taken_on`). `BetweenReads` holds before the
-- first read (`between_first`) and behind a piece (`between_on`). Each end of the stream gives `Serves`: one in a piece by `ends_on` and
-- `serving_ends`, one outside it by a `serves_..` of its own; both make it by `serves_behind` alone, where a new field of it goes.
-- A new variant of `Served` is a case of `left_runs` and of `ends_on`, absurd where no piece can end so, and then a `serves_..` too.
use Rattle.std.proofs.Common.{◌≡◌, ℕ, List, [], ◌∷◌, ◌++◌, ◌⊎◌, ◌+◌, ◌<◌, ◌≤◌, length, Option, Some, None, refl, sym, ap, ◌∙◌, subst, append_assoc, append-nil, inl, inr, arith}
use Rattle.std.specs.Io.KnownBytes.{Appends, Consumes, IsAtEnd, Keeps}
use Rattle.as2_records.specs.Standing.{Medium, Standing}
use Rattle.as2_agreement.specs.Agreements.{AgreedValues}
use Rattle.as2_exchange.specs.Run.{Trace, Run}
use Rattle.as2_exchange.specs.State.{State}
use Rattle.as2_framing.specs.HeadText.{unblank}
use Rattle.as2_messages.specs.Requests.{IsOpen}
use Rattle.as2_http.specs.InputReads.{read_limit, ReadsNeeded}
use Rattle.as2_station.specs.Theorem.{EndsByHistory}
use Rattle.as2_station.proofs.ByHistory.{ends_by_history, run_then}
use Rattle.as2_http.specs.StreamReads.{NeedsMore, BetweenReads, AnswersNext, RunsPosts, Serves}
use Rattle.as2_http.specs.Notes.{WritesAndNotes, SinkAndJournal, note, refusal_note}
use Rattle.as2_messages.specs.Parsing.{HasTaken}
use Rattle.as2_http.specs.Responses.{RespondsTo, Responds, Unsaid}
use Rattle.as2_http.specs.Streams.{RequestAndResponse, AnswersAll, StayOpen, EndsLast, event_by, stream_events, AnswersPiece, StreamEnds, CutShort, in_reply, in_refusal, OutOfMemory, for_request, for_reply, for_refusal, notes}
use Rattle.as2_messages.specs.declared.request.Request.{Request}
use Rattle.as2_messages.specs.declared.framing.Method.{Method}
use Rattle.as2_messages.specs.declared.framing.Method.TheVariants as method
use Rattle.as2_messages.specs.declared.framing.Target.{Target}
use Rattle.as2_messages.specs.declared.framing.Target.TheVariants as target
use Rattle.as2_messages.specs.declared.parser.RequestParser.{RequestParser}
use Rattle.as2_http.specs.declared.response.Response.{Response}
use Rattle.as2_http.specs.declared.response.Response.TheVariants as response
use Rattle.as2_http.specs.declared.stream.Served.{Served}
use Rattle.as2_http.specs.declared.stream.Served.TheVariants as served
use Rattle.as2_messages.proofs.Framed.{begins_append}
use Rattle.as2_http.proofs.InputReads.{HasArrived, piece_of, nothing_of, at_end, gave_on, reads_none, read_on}
use Rattle.as2_http.proofs.Noting.{notes_of_both, says_join, says_nil, says_trans}
use Rattle.as2_messages.proofs.Parsing.{holds_open}
use Rattle.as2_http.proofs.Streaming.{answers_join, go_on_join}

-- ---- a run of the machine

pub events_join : (moment : ℕ) (one two : List RequestAndResponse) → stream_events moment (one ++ two) ≡ stream_events moment one ++ stream_events moment two
events_join moment [] two = refl
events_join moment (x ∷ one) two =
    let first = event_by x.0.method x.0.target moment x in
    ap (λ (t : Trace). first ++ t) (events_join moment one two) ∙ sym (append_assoc first (stream_events moment one) (stream_events moment two))

module _ (A : AgreedValues) (moment : ℕ) where
  -- what is said to a request, and then more events
  pub event_then : (s mid t : State) (r : Request) (x : Response) (m : Method) (at : Target) (more : Trace) → RespondsTo A moment m at s r x Unsaid mid
      → Run A mid more t → Run A s (event_by m at moment (r, x) ++ more) t
  event_then s mid t r (response.Answered a) method.Post target.Station more p run = (mid, p.0, run)
  event_then s mid t r (response.Failed f) method.Post target.Station more p run = (p.0, subst (λ (x : State). Run A x more t) p.1 run)
  event_then s mid t r response.OnlyPost method.Post target.Station more p run = absurd p
  event_then s mid t r response.NoPath method.Post target.Station more p run = absurd p
  event_then s mid t r x method.Post target.Other more p run = subst (λ (x : State). Run A x more t) p.1 run
  event_then s mid t r x method.Head at more p run = subst (λ (x : State). Run A x more t) p.1 run
  event_then s mid t r x method.Other at more p run = subst (λ (x : State). Run A x more t) p.1 run

  -- all that was answered is a run
  answers_run : (s t : State) (text replies rest : List ℕ) (done : List RequestAndResponse) → AnswersAll A moment s text done t replies rest
      → Run A s (stream_events moment done) t
  answers_run s t text replies rest [] a = a.0
  answers_run s t text replies rest (x ∷ done) a =
      event_then s a.0 t x.0 x.1 x.0.method x.0.target (stream_events moment done) a.4.responds (answers_run a.0 t a.2 a.3 rest done a.6)

  posts_run : {s t : State} (done : List RequestAndResponse) → Run A s (stream_events moment done) t → RunsPosts A moment s t
  posts_run {s} {t} done run = record { done = done; run = run; by_history = ends_by_history A s (stream_events moment done) t run }

  runs_join : {s mid t : State} → RunsPosts A moment s mid → RunsPosts A moment mid t → RunsPosts A moment s t
  runs_join {s} {mid} {t} a b =
      posts_run (a.done ++ b.done)
      (subst (λ (trace : Trace). Run A s trace t) (sym (events_join moment a.done b.done))
      (run_then A s mid t (stream_events moment a.done) (stream_events moment b.done) a.run b.run))

  pub runs_none : (s : State) → RunsPosts A moment s s
  runs_none s = posts_run [] refl

  -- nothing was taken
  runs_same : {s t : State} → t ≡ s → RunsPosts A moment s t
  runs_same {s} same = subst (λ (x : State). RunsPosts A moment s x) (sym same) (runs_none s)

  -- the request whose reply isn't written whole was taken, too
  one_runs : {mid t : State} (r : Request) (x : Response) → Responds A moment mid r x Unsaid t → RunsPosts A moment mid t
  one_runs {mid} {t} r x p = posts_run ((r, x) ∷ []) (event_then mid t t r x r.method r.target [] p refl)

  -- .. and stands by history behind the others
  one_behind : (s mid t : State) (done : List RequestAndResponse) → Run A s (stream_events moment done) mid → (r : Request) (x : Response)
      → Responds A moment mid r x Unsaid t → EndsByHistory A s (stream_events moment (done ++ (r, x) ∷ [])) t
  unfolding runs_join posts_run one_runs
  one_behind s mid t done run r x p = let all = runs_join (posts_run {s = s} done run) (one_runs {t = t} r x p) in all.by_history

  module _ {mid : State} {replies lines rest : List ℕ} {before after : SinkAndJournal} {t : State} where
    cut_runs : CutShort A moment mid replies lines rest before after t → RunsPosts A moment mid t
    cut_runs (in_reply r behind x text part missing b responds is cut written) = one_runs r x responds
    cut_runs (in_refusal refused text part missing b same is cut written) = runs_same same

    memory_runs : OutOfMemory A moment mid replies lines rest before after t → RunsPosts A moment mid t
    memory_runs (for_request same written) = runs_same same
    memory_runs (for_refusal refused b same written) = runs_same same
    memory_runs (for_reply r behind x b responds written) = one_runs r x responds

  module _ {M : Medium} {s : State} {text left : List ℕ} {p : RequestParser} {c : Standing M} {before after : SinkAndJournal} where
    -- what a piece took behind the requests that were answered whole is a run
    left_runs : (end : Option Served) (a : AnswersPiece A moment s text left p c before after end) → RunsPosts A moment a.mid a.last
    left_runs None a = runs_same a.ends.1
    left_runs (Some served.Closed) a = runs_same a.ends.1
    left_runs (Some served.BadFraming) a = runs_same a.ends.1
    left_runs (Some served.WriteFault) a = cut_runs a.ends.1
    left_runs (Some served.Memory) a = memory_runs a.ends.1
    left_runs (Some served.Truncated) a = absurd a.ends
    left_runs (Some served.ReadFault) a = absurd a.ends
    left_runs (Some served.TooLong) a = absurd a.ends

    -- .. and with them
    piece_runs : {end : Option Served} (a : AnswersPiece A moment s text left p c before after end) → RunsPosts A moment s a.last
    piece_runs {end} a = runs_join (posts_run a.done (answers_run s a.mid text a.replies a.rest a.done a.all)) (left_runs end a)

-- all that was taken of the stream so far is a run
abbrev pub TakenSoFar : {M : Medium} → AgreedValues → ℕ → State → Standing M → Type 0
TakenSoFar A moment s c = (t : State) × c.Rests t × RunsPosts A moment s t

pub taken_on : {M : Medium} {A : AgreedValues} {moment : ℕ} {s mid : State} {text left : List ℕ} {p : RequestParser} {c : Standing M}
    {before after : SinkAndJournal} {end : Option Served}
    → RunsPosts A moment s mid → AnswersPiece A moment mid text left p c before after end → TakenSoFar A moment s c
taken_on {A} {moment} runs a = (a.last, a.rests, runs_join A moment runs (piece_runs A moment a))

-- what is left, and how the stream came to it
abbrev pub LeavesServed : {M : Medium} → AgreedValues → ℕ → State → List ℕ → Option (List ℕ) → Standing M → SinkAndJournal → SinkAndJournal → ℕ → ℕ
    → Served → Type 0
LeavesServed A moment s input unread c before after calls later end = (t : State) × c.Rests t × Serves A moment s t input unread before after calls later end

-- ---- what was answered

-- the same requests stand in front of what comes behind
answers_append : (A : AgreedValues) (moment : ℕ) (s t : State) (text replies rest left : List ℕ) (done : List RequestAndResponse)
    → AnswersAll A moment s text done t replies rest → AnswersAll A moment s (text ++ left) done t replies (rest ++ left)
answers_append A moment s t text replies rest left [] a = (a.0, a.1, ap (λ (x : List ℕ). x ++ left) a.2)
answers_append A moment s t text replies rest left (x ∷ done) a = (
  a.0,
  a.1,
  a.2 ++ left,
  a.3,
  record { begins = begins_append text left x.0 a.2 a.4.begins; responds = a.4.responds; replies = a.4.replies },
  a.5,
  answers_append A moment a.0 t a.2 a.3 rest left done a.6,
)

last_on : (done later : List RequestAndResponse) → StayOpen done → EndsLast later → EndsLast (done ++ later)
last_on done later go l =
    (done ++ l.0, l.1, ap (λ (t : List RequestAndResponse). done ++ t) l.2 ∙ sym (append_assoc done l.0 (l.1 ∷ [])), go_on_join done l.0 go l.3, l.4)

module _ {A : AgreedValues} {moment : ℕ} {s t : State} {input : List ℕ} {unread : Option (List ℕ)} {before after : SinkAndJournal}
    {calls later : ℕ} {end : Served} where
  -- what is told of a stream, from the requests that were answered and how it ended behind them
  serves_behind : (done : List RequestAndResponse) (mid : State) (replies rest : List ℕ) → AnswersAll A moment s input done mid replies rest
      → StreamEnds A moment done mid replies rest unread before after t end → ReadsNeeded (NeedsMore A moment s) input unread calls later
      → Serves A moment s t input unread before after calls later end
  serves_behind done mid replies rest all ends reads =
      let run = answers_run A moment s mid input replies rest done all in
      record {
        done = done;
        mid = mid;
        replies = replies;
        rest = rest;
        all = all;
        run = run;
        by_history = ends_by_history A s (stream_events moment done) mid run;
        cut_by_history = one_behind A moment s mid t done run;
        ends = ends;
        reads = reads;
      }

-- ---- before the first read

module _ {M : Medium} {A : AgreedValues} {moment : ℕ} {s : State} {input : List ℕ} {unread : Option (List ℕ)} {now : SinkAndJournal}
    {calls : ℕ} (c : Standing M) (rests : c.Rests s) (known : unread ≡ Some input) where
  pub between_first : {p : RequestParser} → HasTaken p [] → BetweenReads A moment s input p c unread now now calls calls
  unfolding reads_none
  between_first taken = record {
    reads = reads_none (NeedsMore A moment s) input unread calls known;
    gave = tt;
    done = [];
    mid = s;
    replies = [];
    held = [];
    all = (refl, refl, refl);
    go_on = tt;
    rests = rests;
    taken = taken;
    said = says_nil now;
  }

  -- memory for the reads was wanting
  pub serves_nothing : LeavesServed A moment s input unread c now now calls calls served.Memory
  serves_nothing =
      let reads = reads_none (NeedsMore A moment s) input unread calls known in
      (s, rests, serves_behind [] s [] input (refl, refl, refl) (tt, for_request refl (says_nil now)) reads)

-- ---- between two reads

module _ {M : Medium} {A : AgreedValues} {moment : ℕ} {s : State} {input : List ℕ} {p : RequestParser} {c : Standing M}
    {unread : Option (List ℕ)} {before now : SinkAndJournal} {i j : ℕ} (w : BetweenReads A moment s input p c unread before now i j) where
  -- what was read needs more
  needs_more : NeedsMore A moment s w.reads.read
  needs_more =
      record { done = w.done; mid = w.mid; replies = w.replies; held = w.held; all = w.all; go_on = w.go_on; undecided = holds_open p w.held w.taken }

  -- so the next call was needed
  next_read : {after : Option (List ℕ)} {piece : List ℕ} {k : ℕ} → HasArrived w.reads.left piece after → length piece ≤ read_limit → k ≡ j + 1
      → ReadsNeeded (NeedsMore A moment s) input after i k
  next_read {after} {piece} {k} m most is = read_on (NeedsMore A moment s) input unread after i j k piece w.reads w.gave needs_more m most is

  -- the requests stand in front of the whole input
  in_input : AnswersAll A moment s input w.done w.mid w.replies (w.held ++ w.reads.left)
  in_input =
      subst (λ (t : List ℕ). AnswersAll A moment s t w.done w.mid w.replies (w.held ++ w.reads.left)) (sym w.reads.whole)
      (answers_append A moment s w.mid w.reads.read w.replies w.held w.reads.left w.done w.all)

  -- ---- a piece more: what is written and noted of it stands behind what was so far

  module _ (later : SinkAndJournal) (more lines own : List ℕ) where
    behind : (part : List ℕ) → WritesAndNotes now later (more ++ part) (lines ++ own)
        → WritesAndNotes before later (w.replies ++ more ++ part) (notes moment w.done ++ lines ++ own)
    behind part b =
        let both = says_trans before now later w.replies (more ++ part) (notes moment w.done) (lines ++ own) w.said b in (
          subst (Appends before.written later.written) (sym (append_assoc w.replies more part)) both.0,
          subst (Appends before.noted later.noted) (sym (append_assoc (notes moment w.done) lines own)) both.1,
        )

    -- .. of which no more is written
    behind_unwritten : WritesAndNotes now later more (lines ++ own)
        → WritesAndNotes before later (w.replies ++ more) (notes moment w.done ++ lines ++ own)
    behind_unwritten b =
        let both = says_trans before now later w.replies more (notes moment w.done) (lines ++ own) w.said b in
        (both.0, subst (Appends before.noted later.noted) (sym (append_assoc (notes moment w.done) lines own)) both.1)

  module _ {mid : State} {more lines rest : List ℕ} {later : SinkAndJournal} {t : State} where
    cut_on : CutShort A moment mid more lines rest now later t
        → CutShort A moment mid (w.replies ++ more) (notes moment w.done ++ lines) rest before later t
    cut_on (in_reply r next x text part missing b responds is cut said) =
        in_reply r next x text part missing b responds is cut (behind later more lines (note moment r x) part said)
    cut_on (in_refusal refused text part missing b same is cut said) =
        in_refusal refused text part missing b same is cut (behind later more lines (refusal_note moment refused.reason) part said)

    memory_on : OutOfMemory A moment mid more lines rest now later t
        → OutOfMemory A moment mid (w.replies ++ more) (notes moment w.done ++ lines) rest before later t
    memory_on (for_request same said) = for_request same (says_trans before now later w.replies more (notes moment w.done) lines w.said said)
    memory_on (for_reply r next x b responds said) = for_reply r next x b responds (behind_unwritten later more lines (note moment r x) said)
    memory_on (for_refusal refused b same said) =
        for_refusal refused b same (behind_unwritten later more lines (refusal_note moment refused.reason) said)

  module _ {after : Option (List ℕ)} {piece : List ℕ} (m : HasArrived w.reads.left piece after) where
    -- the requests of the stream so far, and those of the piece
    joined : {q : RequestParser} {d : Standing M} {later : SinkAndJournal} {end : Option Served}
        (a : AnswersPiece A moment w.mid (w.held ++ piece ++ m.left) m.left q d now later end)
        → AnswersAll A moment s input (w.done ++ a.done) a.mid (w.replies ++ a.replies) a.rest
    joined a =
        let same = ap (λ (t : List ℕ). w.held ++ t) m.whole ∙ sym (append_assoc w.held piece m.left) in
        answers_join A moment w.mid a.mid (w.held ++ piece ++ m.left) a.rest a.replies a.done a.all s input w.replies w.done
        (subst (λ (t : List ℕ). AnswersAll A moment s input w.done w.mid w.replies t) same in_input)

    -- how the piece ends is how the stream does
    ends_on : {q : RequestParser} {d : Standing M} {later : SinkAndJournal} (end : Served)
        (a : AnswersPiece A moment w.mid (w.held ++ piece ++ m.left) m.left q d now later (Some end))
        → StreamEnds A moment (w.done ++ a.done) a.mid (w.replies ++ a.replies) a.rest after before later a.last end
    ends_on {later} served.Closed a =
        (a.ends.1, says_join moment before now later w.replies a.replies w.done a.done w.said a.ends.2, inl (last_on w.done a.done w.go_on a.ends.0))
    ends_on served.Truncated a = absurd a.ends
    ends_on {later} served.BadFraming a =
        let e = a.ends.2 in
        let own = refusal_note moment e.refused.reason in (
          a.ends.1,
          go_on_join w.done a.done w.go_on a.ends.0,
          record {
            refused = e.refused;
            refuses = e.refuses;
            text = e.text;
            is = e.is;
            said = notes_of_both moment w.done a.done (λ (l : List ℕ). WritesAndNotes before later (w.replies ++ a.replies ++ e.text) (l ++ own))
                (behind later a.replies (notes moment a.done) own e.text e.said);
          },
        )
    ends_on served.ReadFault a = absurd a.ends
    ends_on {later} served.WriteFault a = (
      go_on_join w.done a.done w.go_on a.ends.0,
      notes_of_both moment w.done a.done (λ (l : List ℕ). CutShort A moment a.mid (w.replies ++ a.replies) l a.rest before later a.last)
          (cut_on a.ends.1),
    )
    ends_on {later} served.Memory a = (
      go_on_join w.done a.done w.go_on a.ends.0,
      notes_of_both moment w.done a.done (λ (l : List ℕ). OutOfMemory A moment a.mid (w.replies ++ a.replies) l a.rest before later a.last)
          (memory_on a.ends.1),
    )
    ends_on served.TooLong a = absurd a.ends

    module _ {k : ℕ} (most : length piece ≤ read_limit) (is : k ≡ j + 1) where
      -- The stream goes on, so nothing behind the piece is asked about; an end speaks of the whole input (`m.left`, below).
      between_on : {q : RequestParser} {d : Standing M} {later : SinkAndJournal} → 0 < length piece
          → AnswersPiece A moment w.mid (w.held ++ piece ++ []) [] q d now later None → BetweenReads A moment s input q d after before later i k
      unfolding next_read read_on
      between_on {d} {later} some a =
          let held = a.ends.3.0 in
          let rest_is : a.rest ≡ held = a.ends.3.1 ∙ append-nil held in
          let there = subst (λ (x : List ℕ). AnswersAll A moment w.mid x a.done a.mid a.replies held) (append-nil (w.held ++ piece))
          (subst (λ (x : List ℕ). AnswersAll A moment w.mid (w.held ++ piece ++ []) a.done a.mid a.replies x) rest_is a.all) in
          let first = answers_append A moment s w.mid w.reads.read w.replies w.held piece w.done w.all in
          record {
            reads = next_read m most is;
            gave = gave_on w.reads.pieces piece w.gave some;
            done = w.done ++ a.done;
            mid = a.mid;
            replies = w.replies ++ a.replies;
            held = held;
            all = answers_join A moment w.mid a.mid (w.held ++ piece) held a.replies a.done there s (w.reads.read ++ piece) w.replies w.done first;
            go_on = go_on_join w.done a.done w.go_on a.ends.0;
            rests = subst (λ (t : State). d.Rests t) a.ends.1 a.rests;
            taken = a.ends.3.2;
            said = says_join moment before now later w.replies a.replies w.done a.done w.said a.ends.2;
          }

      serving_ends : {q : RequestParser} {d : Standing M} {later : SinkAndJournal} (end : Served)
          → AnswersPiece A moment w.mid (w.held ++ piece ++ m.left) m.left q d now later (Some end)
          → LeavesServed A moment s input after d before later i k end
      serving_ends end a =
          let done = w.done ++ a.done in
          (a.last, a.rests, serves_behind done a.mid (w.replies ++ a.replies) a.rest (joined a) (ends_on end a) (next_read m most is))

      -- the piece is answered, whatever comes behind it
      pub next_answered : {q : RequestParser} {d : Standing M} {later : SinkAndJournal} (result : Option Served) → 0 < length piece
          → ((left : List ℕ) → AnswersPiece A moment w.mid (w.held ++ piece ++ left) left q d now later result)
          → AnswersNext A moment s input q d after before later i k result
      next_answered None some a = between_on some (a [])
      next_answered (Some end) some a = serving_ends end (a m.left)

  -- ---- no piece more: behind the replies so far, in the state that they left

  serves_as : {after : Option (List ℕ)} {k : ℕ} {end : Served}
      → StreamEnds A moment w.done w.mid w.replies (w.held ++ w.reads.left) after before now w.mid end → ReadsNeeded (NeedsMore A moment s) input after i k
      → LeavesServed A moment s input after c before now i k end
  serves_as ends reads = (w.mid, w.rests, serves_behind w.done w.mid w.replies (w.held ++ w.reads.left) in_input ends reads)

  module _ {k : ℕ} (after : Option (List ℕ)) (consumed : Consumes unread after []) (done : IsAtEnd after) (is : k ≡ j + 1) where
    -- nothing is left to be read, so what is held is the rest of the input
    all_held : w.held ≡ w.held ++ w.reads.left
    all_held = sym (append-nil w.held) ∙ ap (λ (t : List ℕ). w.held ++ t) (sym (at_end unread after w.reads.left consumed done w.reads.known))

    last_read : ReadsNeeded (NeedsMore A moment s) input after i k
    last_read = next_read (piece_of unread after w.reads.left [] consumed w.reads.known) (omega arith) is

    serves_closed : ((text : List ℕ) → HasTaken p text → unblank text ≡ []) → LeavesServed A moment s input after c before now i k served.Closed
    serves_closed blank =
        let still = subst IsOpen all_held (holds_open p w.held w.taken) in
        let nothing = subst (λ (t : List ℕ). unblank t ≡ []) all_held (blank w.held w.taken) in
        serves_as {end = served.Closed} (refl, w.said, inr (w.go_on, still, nothing)) last_read

    serves_truncated : ((text : List ℕ) → HasTaken p text → ¬ (unblank text ≡ [])) → LeavesServed A moment s input after c before now i k served.Truncated
    serves_truncated some =
        let still = subst IsOpen all_held (holds_open p w.held w.taken) in
        let something = subst (λ (t : List ℕ). ¬ (unblank t ≡ [])) all_held (some w.held w.taken) in
        serves_as {end = served.Truncated} (refl, w.said, w.go_on, still, something) last_read

    -- the input ended
    pub serves_ended : {end : Served} → (end ≡ served.Closed → (text : List ℕ) → HasTaken p text → unblank text ≡ [])
        → (end ≡ served.Truncated → (text : List ℕ) → HasTaken p text → ¬ (unblank text ≡ [])) → (end ≡ served.Closed) ⊎ (end ≡ served.Truncated)
        → LeavesServed A moment s input after c before now i k end
    serves_ended blank some one =
        let so = λ (x : Served). LeavesServed A moment s input after c before now i k x in
        elim one [
          | inl same ↦ subst so (sym same) (serves_closed (blank same))
          | inr same ↦ subst so (sym same) (serves_truncated (some same))
        ]

  -- a read failed
  pub serves_fault : {after : Option (List ℕ)} {k : ℕ} → Keeps unread after → k ≡ j + 1
      → LeavesServed A moment s input after c before now i k served.ReadFault
  unfolding nothing_of
  serves_fault {after} kept is =
      let m = nothing_of unread after w.reads.left kept w.reads.known in
      serves_as {end = served.ReadFault} (refl, w.said, w.go_on, (w.held, w.reads.left, refl, holds_open p w.held w.taken, m.kept))
      (next_read m (omega arith) is)

  -- as many reads were made as may be
  pub serves_long : LeavesServed A moment s input unread c before now i j served.TooLong
  serves_long =
      serves_as {end = served.TooLong} (refl, w.said, w.go_on, (w.held, w.reads.left, refl, holds_open p w.held w.taken, w.reads.known)) w.reads

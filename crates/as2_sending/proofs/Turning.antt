-- Turns, one after the other, and their lines.
use Rattle.std.proofs.Common.{◌≡◌, ◌⊎◌, inl, inr, ℕ, true, List, [], ◌∷◌, ◌++◌, Option, Some, None, Ok, Err, refl, sym, ap, ◌∙◌, subst, append_assoc, append-nil, map}
use Rattle.std.proofs.lemmas.List.{map-append}
use Rattle.std.proofs.KnownBytes.{Appends-nil, Appends-trans}
use Rattle.std.proofs.lemmas.Bool.{false≢true}
use Rattle.std.proofs.lemmas.Grind.{flat_map-append}
use Rattle.std.specs.Io.KnownBytes.{Appends}
use Rattle.as2_records.specs.Standing.{Medium, Standing}
use Rattle.as2_exchange.specs.Agreement.{Agreements, Text}
use Rattle.as2_exchange.specs.Run.{Trace, Run, Answered}
use Rattle.as2_exchange.specs.State.{State}
use Rattle.as2_exchange.specs.Step.{step}
use Rattle.as2_exchange.specs.Due.{next}
use Rattle.as2_exchange.specs.declared.answer.Answer.TheVariants.{Job as Handed, Refused}
use Rattle.as2_exchange.specs.declared.answer.Job.{Job}
use Rattle.as2_exchange.specs.declared.answer.Refusal.{Refusal}
use Rattle.as2_exchange.specs.declared.event.TryAnswer.{TryAnswer}
use Rattle.as2_exchange.specs.declared.fault.StoreFault.{StoreFault}
use Rattle.as2_exchange.specs.declared.fault.StoreFault.TheVariants.{Full}
use Rattle.as2_exchange.specs.declared.next.Next.{Next}
use Rattle.as2_exchange.specs.declared.next.Next.TheVariants.{Receipt, Document}
use Rattle.as2_records.specs.Standing.{may_come}
use Rattle.as2_sending.specs.Exchanges.{Exchange, Exchanges, exchange_of, exchanges}
use Rattle.as2_sending.specs.Hints.{hint_if, why_of}
use Rattle.as2_sending.specs.Lines.{turn_line, trace_lines, line_of}
use Rattle.as2_station.specs.Heads.{asks_store}
use Rattle.as2_station.specs.Said.{answer_of, begin_event, outcome_event}
use Rattle.as2_station.proofs.ByHistory.{ends_by_history}
use Rattle.as2_http.specs.Responses.{IsSafe}
use Rattle.as2_sending.specs.Turns.{Turn, BeginsTry, TakesTurn, TakesTurns, turn_events, SendingEnds, SendingIsRefused, SendingFails, at_begin_refused, at_outcome_refused, at_next_failed, at_begin_failed, at_outcome_failed, Sends, BeginsTo, ClosesTo, TurnsTo, exchanged_by, hint_of, hints}
use Rattle.as2_sending.specs.declared.links.LinkFault.{LinkFault}
use Rattle.as2_sending.specs.declared.sent.Sent.{Sent}
use Rattle.as2_sending.specs.declared.sent.Sent.TheVariants as sent
use Rattle.as2_station.specs.declared.said.Became.{Became}
use Rattle.as2_station.specs.declared.said.Became.TheVariants as became
use Rattle.as2_sending.proofs.Answering.{begin_answered, outcome_answered}

-- ---- the records are asked

pub begin_asks : (A : Agreements) (m : ℕ) (what : Next) → asks_store A (begin_event what m) ≡ true
begin_asks A m (Receipt n) = refl
begin_asks A m (Document n) = refl

pub outcome_asks : (A : Agreements) (m : ℕ) (what : Next) (got : TryAnswer) → asks_store A (outcome_event what got m) ≡ true
outcome_asks A m (Receipt n) got = refl
outcome_asks A m (Document n) got = refl

-- ---- a begin

pub begins_to : {M : Medium} (A : Agreements) (m : ℕ) (s : State) (what : Next) (c : Standing M) (job : Job) (t : State) → next s m ≡ Some what
    → step A s (begin_event what m) ≡ Some (Handed job, t) → c.Rests t → IsSafe c t → BeginsTo A m s what c (Ok job)
begins_to A m s what c job t is h rests safe = (t, record { is_next = is; begun = h }, rests, safe)

pub begin_refused : {M : Medium} (A : Agreements) (m : ℕ) (s : State) (what : Next) (c : Standing M) (reason : Refusal) (t : State) → next s m ≡ Some what
    → step A s (begin_event what m) ≡ Some (Refused reason, t) → c.Rests t → BeginsTo A m s what c (Err (sent.Refused reason))
begin_refused A m s what c reason t is h rests = (_, t, (at_begin_refused what is h refl, refl), rests, refl)

-- a fault that is not Full
may_be : (f : StoreFault) → (f ≡ Full → ⊥) → (f ≡ Full) ⊎ (may_come f ≡ true) → may_come f ≡ true
may_be f none either = elim either [ inl full ↦ absurd (none full) | inr may ↦ may ]

pub begin_fails : {M : Medium} (A : Agreements) (m : ℕ) (s : State) (what : Next) (c : Standing M) (f : StoreFault) → next s m ≡ Some what → c.Rests s
    × (f ≡ Full → step A s (begin_event what m) ≡ None) → (f ≡ Full) ⊎ (may_come f ≡ true)
    → BeginsTo A m s what c (Err (sent.Failed f))
begin_fails A m s what c f is left either =
    (_, s, (at_begin_failed what is refl refl, may_be f (λ full. begin_answered A m s what (left.1 full)) either, refl), left.0, refl)

-- ---- an outcome

-- what went over the link in a try
pub one_exchange : (what : Next) (job : Job) (got : TryAnswer) (m : ℕ)
    → exchange_of (Answered (Handed job)) (outcome_event what got m) ≡ record { job = job; got = got } ∷ []
one_exchange (Receipt n) job got m = refl
one_exchange (Document n) job got m = refl

one_made : (what : Next) (job : Job) (got : TryAnswer) (m : ℕ)
    → exchange_of (Answered (Handed job)) (outcome_event what got m) ++ [] ≡ record { job = job; got = got } ∷ []
one_made what job got m = append-nil (exchange_of (Answered (Handed job)) (outcome_event what got m)) ∙ one_exchange what job got m

pub closes_to : {M : Medium} (A : Agreements) (m : ℕ) (s : State) (what : Next) (got : TryAnswer) (job : Job) (mid : State) (c : Standing M)
    (became : Became) (t : State) → step A mid (outcome_event what got m) ≡ Some (answer_of became, t) → c.Rests t → IsSafe c t
    → ClosesTo A m s what (record { job = job; got = got }) mid c (Ok became)
closes_to A m s what got job mid c became t h rests safe = (t, h, rests, safe)

pub outcome_refused : {M : Medium} (A : Agreements) (m : ℕ) (s : State) (what : Next) (got : TryAnswer) (job : Job) (mid : State) (c : Standing M)
    (reason : Refusal) (t : State) → BeginsTry A m s what job mid → step A mid (outcome_event what got m) ≡ Some (Refused reason, t) → c.Rests t
    → ClosesTo A m s what (record { job = job; got = got }) mid c (Err (sent.Refused reason))
outcome_refused A m s what got job mid c reason t b h rests = (_, t, (at_outcome_refused what job got mid b h refl, refl), rests, one_made what job got m)

pub outcome_fails : {M : Medium} (A : Agreements) (m : ℕ) (s : State) (what : Next) (got : TryAnswer) (job : Job) (mid : State) (c : Standing M)
    (f : StoreFault) → BeginsTry A m s what job mid
    → c.Rests mid × (f ≡ Full → step A mid (outcome_event what got m) ≡ None) → (f ≡ Full) ⊎ (may_come f ≡ true)
    → ClosesTo A m s what (record { job = job; got = got }) mid c (Err (sent.Failed f))
outcome_fails A m s what got job mid c f b left either = (
  _,
  mid,
  (at_outcome_failed what job got b refl, may_be f (λ full. outcome_answered A m mid what got (left.1 full)) either, refl),
  left.0,
  one_made what job got m,
)

-- ---- a turn

-- it ends as it begins, or with its outcome: nothing is written, and nothing hinted
pub begin_ends : {M : Medium} (U : Type 0) (A : Agreements) (m : ℕ) (s : State) (what : Next) (c : Standing M) (now : Option (List ℕ)) (Seen : Text
    → List Exchange → Type 0) (end : Sent) → Seen [] [] → BeginsTo A m s what c (Err end) → TurnsTo {U = U} A m s c now now Seen (Err end)
begin_ends U A m s what c now Seen end none w = (w.0, w.1, [], w.2, w.3, Appends-nil now, subst (Seen []) (sym w.4) none)

pub close_ends : {M : Medium} (U : Type 0) (A : Agreements) (m : ℕ) (s : State) (what : Next) (x : Exchange) (mid : State) (c : Standing M)
    (now : Option (List ℕ)) (Seen : Text → List Exchange → Type 0) (end : Sent) → Seen [] (x ∷ []) → ClosesTo A m s what x mid c (Err end)
    → TurnsTo {U = U} A m s c now now Seen (Err end)
close_ends U A m s what x mid c now Seen end made w = (w.0, w.1, [], w.2, w.3, Appends-nil now, subst (Seen []) (sym w.4) made)

pub turn_told : {M : Medium} (U : Type 0) (A : Agreements) (m : ℕ) (s : State) (what : Next) (got : TryAnswer) (fault : LinkFault) (job : Job)
    (mid : State) (c : Standing M) (before after : Option (List ℕ)) (Seen : Text → List Exchange → Type 0) (became : Became) (u : U)
    → BeginsTry A m s what job mid → ClosesTo A m s what (record { job = job; got = got }) mid c (Ok became) → Appends before after (turn_line what became)
    → Seen (hint_if what became (why_of got fault)) (record { job = job; got = got } ∷ []) → TurnsTo {U = U} A m s c before after Seen (Ok u)
turn_told U A m s what got fault job mid c before after Seen became u b w written seen =
    (record { what = what; job = job; got = got; fault = fault; became = became }, w.0, record { mid = mid; begins = b; closes = w.1 }, w.2, written, seen)

pub turn_untold : {M : Medium} (U : Type 0) (A : Agreements) (m : ℕ) (s : State) (what : Next) (got : TryAnswer) (fault : LinkFault) (job : Job)
    (mid : State) (c : Standing M) (before after : Option (List ℕ)) (Seen : Text → List Exchange → Type 0) (became : Became) (part missing : Text)
    → BeginsTry A m s what job mid → ClosesTo A m s what (record { job = job; got = got }) mid c (Ok became) → turn_line what became ≡ part ++ missing
    → Appends before after part → Seen [] (record { job = job; got = got } ∷ [])
    → TurnsTo {U = U} A m s c before after Seen (Err sent.Unwritten)
turn_untold U A m s what got fault job mid c before after Seen became part missing b w cut written made = (
  _,
  w.0,
  part,
  record {
    turn = record { what = what; job = job; got = got; fault = fault; became = became };
    takes = record { mid = mid; begins = b; closes = w.1 };
    are = refl;
    missing = missing;
    cut = cut;
  },
  w.2,
  written,
  subst (Seen []) (sym (one_made what job got m)) made,
)

pub nothing_next : {M : Medium} (U : Type 0) (A : Agreements) (m : ℕ) (s : State) (c : Standing M) (now : Option (List ℕ)) (Seen : Text → List Exchange
    → Type 0) → Seen [] [] → next s m ≡ None → c.Rests s → TurnsTo {U = U} A m s c now now Seen (Err sent.Done)
nothing_next U A m s c now Seen nothing none rests = ([], s, [], (none, refl, refl, refl), rests, Appends-nil now, nothing)

pub next_fails : {M : Medium} (U : Type 0) (A : Agreements) (m : ℕ) (s : State) (c : Standing M) (now : Option (List ℕ)) (Seen : Text → List Exchange
    → Type 0) (f : StoreFault) → Seen [] [] → may_come f ≡ true → c.Rests s → TurnsTo {U = U} A m s c now now Seen (Err (sent.Failed f))
next_fails U A m s c now Seen f none may rests = ([], s, [], (at_next_failed refl refl, may, refl), rests, Appends-nil now, none)

-- ---- runs

not_full : (f : StoreFault) → may_come f ≡ true → f ≡ Full → ⊥
not_full f may full = false≢true (subst (λ (x : StoreFault). may_come x ≡ true) full may)

all_run : (A : Agreements) (m : ℕ) (s mid t : State) (done : List Turn) (last : Trace) → TakesTurns A m s done mid → Run A mid last t
    → Run A s (turn_events m done ++ last) t
all_run A m s mid t [] last all run = subst (λ (x : State). Run A x last t) all run
all_run A m s mid t (x ∷ done) last all run = (all.1.mid, all.1.begins.begun, (all.0, all.1.closes, all_run A m all.0 mid t done last all.2 run))

refused_run : (A : Agreements) (m : ℕ) (s t : State) (last : Trace) (r : _) → SendingIsRefused A m s last t r → Run A s last t
refused_run A m s t last r (at_begin_refused what is h are) = subst (λ (x : Trace). Run A s x t) (sym are) (t, h, refl)
refused_run A m s t last r (at_outcome_refused what job got mid b h are) = subst (λ (x : Trace). Run A s x t) (sym are) (mid, b.begun, (t, h, refl))

failed_run : (A : Agreements) (m : ℕ) (s t : State) (last : Trace) (f : StoreFault) → may_come f ≡ true → SendingFails A m s last t f → Run A s last t
failed_run A m s t last f may (at_next_failed same none) = subst (λ (x : Trace). Run A s x t) (sym none) same
failed_run A m s t last f may (at_begin_failed what is same are) = subst (λ (x : Trace). Run A s x t) (sym are) (λ full. absurd (not_full f may full), same)
failed_run A m s t last f may (at_outcome_failed what job got b are) =
    subst (λ (x : Trace). Run A s x t) (sym are) (t, b.begun, (λ full. absurd (not_full f may full), refl))

end_run : (A : Agreements) (m : ℕ) (s t : State) (last : Trace) (text : Text) (end : Sent) → SendingEnds A m s last t text end → Run A s last t
end_run A m s t last text sent.Done e = subst (λ (x : Trace). Run A s x t) (sym e.2) e.1
end_run A m s t last text (sent.Refused r) e = refused_run A m s t last r e.0
end_run A m s t last text (sent.Failed f) e = failed_run A m s t last f e.1 e.0
end_run A m s t last text sent.Unwritten e = subst (λ (x : Trace). Run A s x t) (sym e.are) (e.takes.mid, e.takes.begins.begun, (t, e.takes.closes, refl))

-- ---- all turns

-- the turns so far
pub record SentSoFar {M : Medium} (A : Agreements) (m : ℕ) (s : State) (c : Standing M) (before now : Option (List ℕ))
    (Seen : Text → List Exchange → Type 0) : Type 0 where
  pub done : List Turn
  pub mid : State
  pub all : TakesTurns A m s done mid
  pub rests : c.Rests mid
  pub written : Appends before now (trace_lines (turn_events m done))
  pub seen : Seen (hints done) (map exchanged_by done)

pub sends_first : {M : Medium} (A : Agreements) (m : ℕ) (s : State) (c : Standing M) (now : Option (List ℕ)) (Seen : Text → List Exchange → Type 0)
    → Seen [] [] → c.Rests s → SentSoFar A m s c now now Seen
sends_first A m s c now Seen none rests = record { done = []; mid = s; all = refl; rests = rests; written = Appends-nil now; seen = none }

all_more : (A : Agreements) (m : ℕ) (s mid t : State) (done : List Turn) (x : Turn) → TakesTurns A m s done mid → TakesTurn A m mid x t
    → TakesTurns A m s (done ++ x ∷ []) t
all_more A m s mid t [] x all takes = (t, subst (λ (y : State). TakesTurn A m y x t) all takes, refl)
all_more A m s mid t (y ∷ done) x all takes = (all.0, all.1, all_more A m all.0 mid t done x all.2 takes)

-- an outcome's answer says what became of its try
told : (what : Next) (got : TryAnswer) (m : ℕ) (b : Became) → line_of (outcome_event what got m) (answer_of b) ≡ turn_line what b
told (Receipt n) got m (became.Settled d) = refl
told (Receipt n) got m became.Delivered = refl
told (Receipt n) got m became.TryFailed = refl
told (Receipt n) got m became.AlreadySettled = refl
told (Document n) got m (became.Settled d) = refl
told (Document n) got m became.Delivered = refl
told (Document n) got m became.TryFailed = refl
told (Document n) got m became.AlreadySettled = refl

untold : (what : Next) (m : ℕ) (job : Job) → line_of (begin_event what m) (Handed job) ≡ []
untold (Receipt n) m job = refl
untold (Document n) m job = refl

first_line : (m : ℕ) (x : Turn) (more : List Turn) → trace_lines (turn_events m (x ∷ more)) ≡ turn_line x.what x.became ++ trace_lines (turn_events m more)
first_line m x more =
    ap (λ (l : Text). l ++ (line_of (outcome_event x.what x.got m) (answer_of x.became) ++ trace_lines (turn_events m more))) (untold x.what m x.job)
    ∙ ap (λ (l : Text). l ++ trace_lines (turn_events m more)) (told x.what x.got m x.became)

lines_more : (m : ℕ) (done : List Turn) (x : Turn)
    → trace_lines (turn_events m (done ++ x ∷ [])) ≡ trace_lines (turn_events m done) ++ turn_line x.what x.became
lines_more m [] x = first_line m x [] ∙ append-nil (turn_line x.what x.became)
lines_more m (y ∷ done) x =
    first_line m y (done ++ x ∷ [])
    ∙ ap (λ (l : Text). turn_line y.what y.became ++ l) (lines_more m done x)
    ∙ sym (append_assoc (turn_line y.what y.became) (trace_lines (turn_events m done)) (turn_line x.what x.became))
    ∙ ap (λ (l : Text). l ++ turn_line x.what x.became) (sym (first_line m y done))

hints_more : (done : List Turn) (x : Turn) → hints (done ++ x ∷ []) ≡ hints done ++ hint_of x
hints_more done x = flat_map-append hint_of done (x ∷ []) ∙ ap (λ (l : Text). hints done ++ l) (append-nil (hint_of x))

-- what went over links in turns, and behind them
exchanges_of : (m : ℕ) (done : List Turn) (last : Trace) → exchanges (turn_events m done ++ last) ≡ map exchanged_by done ++ exchanges last
exchanges_of m [] last = refl
exchanges_of m (x ∷ done) last =
    ap (λ (made : List Exchange). made ++ exchanges (turn_events m done ++ last)) (one_exchange x.what x.job x.got m)
    ∙ ap (λ (made : List Exchange). exchanged_by x ∷ made) (exchanges_of m done last)

-- what was seen before, and what is behind it
abbrev pub Joins : (Text → List Exchange → Type 0) → (Text → List Exchange → Type 0) → (Text → List Exchange → Type 0) → Type 0
Joins Before Behind Both = (a b : Text) (made more : List Exchange) → Before a made → Behind b more → Both (a ++ b) (made ++ more)

module _ {L : Type 0} (answers : L → Job → TryAnswer → L → Type 0) where
  exchanges_more : (first second third : L) (made more : List Exchange) → Exchanges answers first made second → Exchanges answers second more third
      → Exchanges answers first (made ++ more) third
  exchanges_more first second third [] more same then = subst (λ (l : L). Exchanges answers l more third) same then
  exchanges_more first second third (x ∷ made) more one then = (one.0, one.1, exchanges_more one.0 second third made more one.2 then)

  -- texts that were written where something holds, and what went over links
  pub joined : (P Q R : Type 0) (before mid after : Option (List ℕ)) (first second third : L) → (R → P × Q)
      → Joins (λ text made. (P → Appends before mid text) × Exchanges answers first made second) (λ text made. (Q → Appends mid after text)
      × Exchanges answers second made third)
      (λ text made. (R → Appends before after text) × Exchanges answers first made third)
  joined P Q R before mid after first second third parts a b made more one other = (
    λ r. let both = parts r in Appends-trans before mid after a b (one.0 both.0) (other.0 both.1),
    exchanges_more first second third made more one.1 other.1,
  )

module _ {M : Medium} (U : Type 0) (A : Agreements) (m : ℕ) (s : State) (c d : Standing M) (before now later : Option (List ℕ))
    (So Behind Then : Text → List Exchange → Type 0) (joins : Joins So Behind Then) where
  pub sends_on : (u : U) (w : SentSoFar A m s c before now So) → TurnsTo {U = U} A m w.mid d now later Behind (Ok u) → SentSoFar A m s d before later Then
  sends_on u w x = record {
    done = w.done ++ x.0 ∷ [];
    mid = x.1;
    all = all_more A m s w.mid x.1 w.done x.0 w.all x.2;
    rests = x.3;
    written = subst (Appends before later) (sym (lines_more m w.done x.0))
        (Appends-trans before now later (trace_lines (turn_events m w.done)) (turn_line x.0.what x.0.became) w.written x.4);
    seen = subst (λ (made : List Exchange). Then (hints (w.done ++ x.0 ∷ [])) made) (sym (map-append exchanged_by w.done (x.0 ∷ [])))
        (subst (λ (text : Text). Then text (map exchanged_by w.done ++ exchanged_by x.0 ∷ [])) (sym (hints_more w.done x.0))
        (joins (hints w.done) (hint_of x.0) (map exchanged_by w.done) (exchanged_by x.0 ∷ []) w.seen x.5));
  }

  pub sends_ended : (end : Sent) (w : SentSoFar A m s c before now So) → TurnsTo {U = U} A m w.mid d now later Behind (Err end) → (t : State) × d.Rests t
      × Sends A m s t before later Then end
  sends_ended end w x = (
    x.1,
    x.4,
    record {
      done = w.done;
      mid = w.mid;
      all = w.all;
      last = x.0;
      rest = x.2;
      ends = x.3;
      run = all_run A m s w.mid x.1 w.done x.0 w.all (end_run A m w.mid x.1 x.0 x.2 end x.3);
      by_history = ends_by_history A s (turn_events m w.done ++ x.0) x.1 (all_run A m s w.mid x.1 w.done x.0 w.all (end_run A m w.mid x.1 x.0 x.2 end x.3));
      written = Appends-trans before now later (trace_lines (turn_events m w.done)) x.2 w.written x.5;
      seen = subst (λ (made : List Exchange). Then (hints w.done) made) (sym (exchanges_of m w.done x.0))
          (subst (λ (text : Text). Then text (map exchanged_by w.done ++ exchanges x.0)) (append-nil (hints w.done))
          (joins (hints w.done) [] (map exchanged_by w.done) (exchanges x.0) w.seen x.6));
    },
  )

-- it is given up, as if what is next couldn't be told
pub sends_given_up : {M : Medium} (A : Agreements) (m : ℕ) (s : State) (c : Standing M) (before now : Option (List ℕ)) (Seen : Text → List Exchange
    → Type 0) (f : StoreFault) → may_come f ≡ true → SentSoFar A m s c before now Seen
    → (t : State) × c.Rests t × Sends A m s t before now Seen (sent.Failed f)
sends_given_up A m s c before now Seen f may w =
    sends_ended ℕ A m s c c before now now Seen (λ text made. (text ≡ []) × (made ≡ [])) Seen
    (λ a b made more seen is. subst (λ (text : Text). Seen text (made ++ more)) (sym (append-nil a) ∙ ap (λ (l : Text). a ++ l) (sym is.0))
    (subst (Seen a) (sym (append-nil made) ∙ ap (λ (l : List Exchange). made ++ l) (sym is.1)) seen))
    (sent.Failed f) w (next_fails ℕ A m w.mid c now (λ text made. (text ≡ []) × (made ≡ [])) f (refl, refl) may w.rests)

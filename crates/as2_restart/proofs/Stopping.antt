-- What a list of events leaves to a crash.
use Rattle.std.proofs.Common.{◌≡◌, ◌⊎◌, ◌∙◌, ℕ, Bool, true, false, List, [], ◌∷◌, Option, Some, None, Result, Ok, Err, refl, sym, ap, subst, inl, inr}
use Rattle.std.specs.Prelude.{option_map, is_none}
use Rattle.sqlite_trees.specs.Tree.{Trees}
use Rattle.sqlite.specs.Store.{Ghosts}
use Rattle.sqlite.specs.Held.{Held, state}
use Rattle.sqlite.specs.State.{State as Connected, HasCleanDisk}
use Rattle.as2_exchange.specs.Agreement.{Agreements, Text}
use Rattle.as2_exchange.specs.Posts.{PostReading, Refuses, IsReceipt, IsDocument, post_reading}
use Rattle.as2_exchange.specs.Run.{EventResult, Answered, Failed, AnEvent, Trace, Run, MayFail}
use Rattle.as2_exchange.specs.State.{State, Digests, AllDigests, state_digests, known_digests}
use Rattle.as2_exchange.specs.Step.{post, step}
use Rattle.as2_exchange.specs.Documents.{submit}
use Rattle.as2_exchange.specs.Lines.{refusal}
use Rattle.as2_exchange.specs.declared.answer.Answer.{Answer}
use Rattle.as2_exchange.specs.declared.answer.Answer.TheVariants.{Http, Refused}
use Rattle.as2_exchange.specs.declared.answer.Refusal.{Refusal}
use Rattle.as2_exchange.specs.declared.event.Event.{Event}
use Rattle.as2_exchange.specs.declared.event.Event.TheVariants.{Post, Submit, Begin, Outcome, Resend, BeginReceipt, OutcomeReceipt, Tick}
use Rattle.as2_exchange.specs.declared.fault.StoreFault.{StoreFault}
use Rattle.as2_store.specs.Calls.{Keeps, TablesLast}
use Rattle.as2_store.specs.Stands.{Rests}
use Rattle.as2_kept.specs.Instance.{tables_standing}
use Rattle.as2_station.specs.Heads.{asks_store, submit_refusal, takes_store}
use Rattle.as2_station.specs.Steps.{LeavesAnswered, TakesEvent}
use Rattle.as2_station.specs.Traces.{TakesEvents, event_result, trace}
use Rattle.as2_exchange.proofs.Steady.{step_steady}
use Rattle.as2_station.proofs.ByHistory.{ends_by_history}
use Rattle.as2_station.proofs.HandedIn.{refuses}
use Rattle.as2_station.proofs.Playing.{taken_clean}
use Rattle.as2_restart.specs.Restarts.{Counts, IsUnanswered, IsHeld, LeadsToFound, this_one, later_one}

-- ---- what isn't asked of the store leaves the state

some_once : {X : Type 0} → (a b : X) → Some a ≡ Some b → a ≡ b
some_once a b e = cc

left_of : (x y : Answer × State) → Some x ≡ Some y → y.1 ≡ x.1
left_of x y e = sym (ap (λ (p : Answer × State). p.1) (some_once x y e))

unread_post : (A : Agreements) (s t : State) (m : ℕ) (a : Answer) (r : PostReading) → takes_store r ≡ false → post A s m r ≡ Some (a, t) → t ≡ s
unread_post A s t m a (Refuses line) none is = left_of (Http (refusal line), s) (a, t) is
unread_post A s t m a (IsReceipt r) none is = absurd cc
unread_post A s t m a (IsDocument p) none is = absurd cc

not_handed_in : (A : Agreements) (s t : State) (organization partner content : Text) (m : ℕ) (a : Answer) (o : Option Refusal)
    → submit_refusal A organization partner content ≡ o → asks_store A (Submit organization partner content m) ≡ false
    → submit A s organization partner content m ≡ Some (a, t) → t ≡ s
not_handed_in A s t organization partner content m a None refused none is = absurd (let two : true ≡ false = ap is_none (sym refused) ∙ none in cc)
not_handed_in A s t organization partner content m a (Some reason) refused none is =
    left_of (Refused reason, s) (a, t) (sym (refuses A s organization partner content m reason refused) ∙ is)

unasked : (A : Agreements) (s t : State) (e : Event) (a : Answer) → state_digests s ≡ AllDigests → asks_store A e ≡ false → step A s e ≡ Some (a, t) → t ≡ s
unasked A s t (Post head body m) a knows none is =
    unread_post A s t m a (post_reading A AllDigests head body) none (subst (λ (k : Digests). post A s m (post_reading A k head body) ≡ Some (a, t)) knows is)
unasked A s t (Submit organization partner content m) a knows none is =
    not_handed_in A s t organization partner content m a (submit_refusal A organization partner content) refl none is
unasked A s t (Begin n m) a knows none is = absurd cc
unasked A s t (Outcome n got m) a knows none is = absurd cc
unasked A s t (Resend n m) a knows none is = absurd cc
unasked A s t (BeginReceipt n m) a knows none is = absurd cc
unasked A s t (OutcomeReceipt n got m) a knows none is = absurd cc
unasked A s t (Tick m) a knows none is = absurd cc

-- ---- one event

next_is : {X : Type 0} (o : Option (X × State)) (a : X) (t u : State) → o ≡ Some (a, t) → option_map (λ (came : X × State). came.1) o ≡ Some u → u ≡ t
next_is o a t u is next = let same : Some t ≡ Some u = sym (ap (option_map (λ came. came.1)) is) ∙ next in cc

module _ (A : Agreements) (e : Event) (old new : Connected) (clean : HasCleanDisk new) where
  -- an answer is left by every crash
  pub answered_lasts : (a : Answer) → TakesEvent A e (λ a. a) (tables_standing old) (tables_standing new) (Ok a) → (s t : State) → Rests old s
      → TablesLast old s
      → step A s e ≡ Some (a, t) → Rests new t → TablesLast new t
  answered_lasts a it s t rests lasts is rested = by new.is_open refl (asks_store A e) refl
    where
      by : (opened : Bool) → new.is_open ≡ opened → (asks : Bool) → asks_store A e ≡ asks → TablesLast new t
      by true opened asks asked = record { each = (it.lasts opened t rested).each }
      by false opened true asked = absurd (let two : true ≡ false = sym (it.does.is_open clean asked) ∙ opened in cc)
      by false opened false asked = record {
        each = λ db may. elim (it.does.crash.crash clean db may) [
          | inl before ↦ subst (Keeps db) (sym (unasked A s t e a rests.knows asked is)) (lasts.each db before)
          | inr more ↦ elim (more.stands s rests tt) [
            | inl same ↦ subst (Keeps db) (sym (unasked A s t e a rests.knows asked is)) same
            | inr next ↦ subst (Keeps db) (next_is (step A s e) a t next.state is next.is) next.keeps
          ]
        ];
      }

-- ---- all of them

-- what is told leads from s to t, perhaps with one more done
abbrev Fits : Agreements → Trace → State → State → Type 0
Fits A told s t = (events : Trace) × Counts A told events × Run A s events t

-- a state that what is told leads to is kept, from s or, where that may have been committed last, from u
abbrev Goes : Agreements → Trace → State → Option State → Trees → Type 0
Goes A told s None db = (t : State) × Fits A told s t × Keeps db t
Goes A told s (Some u) db = ((t : State) × Fits A told s t × Keeps db t) ⊎ ((t : State) × Run A u told t × IsUnanswered A told × Keeps db t)

-- the connection holds s; or it was shut as u was being committed
abbrev At : State → Option State → Connected → Type 0
At s None c = Rests c s × TablesLast c s
At s (Some u) c = (c.is_open ≡ false) × Rests c s × Rests c u × ((db : Trees) → c.may_leave db → Keeps db s ⊎ Keeps db u)

at_rest : (s : State) (o : Option State) (c : Connected) → At s o c → Rests c s
at_rest s None c it = it.0
at_rest s (Some u) c it = it.1

-- with one event before
counts_too : (A : Agreements) (e : Event) (said : EventResult) (told events : Trace) → Counts A told events
    → Counts A (AnEvent e said ∷ told) (AnEvent e said ∷ events)
counts_too A e said told events (inl same) = inl (ap (λ (l : Trace). AnEvent e said ∷ l) same)
counts_too A e said told events (inr one) = inr (later_one (AnEvent e said) told events one)

answered_first : (A : Agreements) (e : Event) (a : Answer) (told : Trace) (s next t : State) → step A s e ≡ Some (a, next) → Fits A told next t
    → Fits A (AnEvent e (Answered a) ∷ told) s t
answered_first A e a told s next t is it = (AnEvent e (Answered a) ∷ it.0, counts_too A e (Answered a) told it.0 it.1, (next, is, it.2))

failed_first : (A : Agreements) (e : Event) (f : StoreFault) (told : Trace) (s t : State) → MayFail A s e f → Fits A told s t
    → Fits A (AnEvent e (Failed f) ∷ told) s t
failed_first A e f told s t may it = (AnEvent e (Failed f) ∷ it.0, counts_too A e (Failed f) told it.0 it.1, (may, it.2))

done_first : (A : Agreements) (e : Event) (f : StoreFault) (a : Answer) (told : Trace) (s u t : State) → step A s e ≡ Some (a, u) → Run A u told t
    → IsUnanswered A told → Fits A (AnEvent e (Failed f) ∷ told) s t
done_first A e f a told s u t is run out = (AnEvent e (Answered a) ∷ told, inr (this_one e f a told out), (u, is, run))

-- where a fault shut the connection, the state that was being committed may stand
shut_at : (A : Agreements) (e : Event) (f : StoreFault) (old new : Connected) (s : State) (came : Option (Answer × State)) → step A s e ≡ came
    → HasCleanDisk new → TakesEvent A e (λ a. a) (tables_standing old) (tables_standing new) (Err f) → Rests old s → TablesLast old s
    → (db : Trees) → new.may_leave db → Keeps db s ⊎ ((u : State) × (a : Answer) × (came ≡ Some (a, u)) × Keeps db u)
shut_at A e f old new s came is clean it rests lasts db may = elim (it.does.crash.crash clean db may) [
  | inl before ↦ inl (lasts.each db before)
  | inr more ↦ elim (more.stands s rests tt) [
    | inl same ↦ inl same
    | inr next ↦ inr (by came is next.state next.is next.keeps)
  ]
]
  where
    by : (o : Option (Answer × State)) → step A s e ≡ o → (u : State) → option_map (λ (came : Answer × State). came.1) (step A s e) ≡ Some u → Keeps db u
        → (v : State) × (a : Answer) × (o ≡ Some (a, v)) × Keeps db v
    by None none u next keeps = absurd (let two : None ≡ Some u = sym (ap (option_map (λ (came : Answer × State). came.1)) none) ∙ next in cc)
    by (Some y) some u next keeps = (y.1, y.0, refl, subst (Keeps db) (next_is (step A s e) y.0 y.1 u some next) keeps)

module _ (A : Agreements) (x : Event) (told : Trace) (old mid : Connected) (clean : HasCleanDisk mid) (db : Trees) where
  -- after a fault, over a connection that held s
  failed_goes : (f : StoreFault) → TakesEvent A x (λ a. a) (tables_standing old) (tables_standing mid) (Err f) → (s : State) → Rests old s → TablesLast old s
      → ((o : Option State) → At s o mid → Goes A told s o db) → Goes A (AnEvent x (Failed f) ∷ told) s None db
  failed_goes f it s rests lasts go = by mid.is_open refl (step A s x) refl
    where
      now : Rests mid s × MayFail A s x f
      now = it.does.failed clean s rests tt

      whole : TablesLast mid s → Goes A (AnEvent x (Failed f) ∷ told) s None db
      whole held = let later = go None (now.0, held) in (later.0, failed_first A x f told s later.0 now.1 later.1, later.2)

      by : (opened : Bool) → mid.is_open ≡ opened → (came : Option (Answer × State)) → step A s x ≡ came → Goes A (AnEvent x (Failed f) ∷ told) s None db
      by true opened came is = whole (record { each = (it.lasts opened s now.0).each })
      by false opened None is =
          whole (record {
            each = λ d may. elim
                (shut_at A x f old mid s None is clean it rests lasts d may) [ inl k ↦ k | inr n ↦ absurd (let none : None ≡ Some (n.1, n.0) = n.2 in cc) ];
          })
      by false opened (Some y) is =
          let rested : Rests mid y.1 = record {
            autocommit = now.0.autocommit;
            stands = λ yes. absurd (let two : true ≡ false = sym yes ∙ opened in cc);
            committed = λ yes. absurd (let two : true ≡ false = sym yes ∙ opened in cc);
            knows = ap known_digests (step_steady A s x y is).0 ∙ now.0.knows;
          } in
          let at : At s (Some y.1) mid = (
            opened,
            now.0,
            rested,
            λ d may. elim
                (shut_at A x f old mid s (Some y) is clean it rests lasts d may) [
                  | inl k ↦ inl k
                  | inr n ↦ inr
                      (subst (Keeps d) (left_of y (n.1, n.0) n.2) n.3)
                ],
          ) in
          elim (go (Some y.1) at) [
            | inl k ↦ (k.0, failed_first A x f told s k.0 now.1 k.1, k.2)
            | inr k ↦ (k.0, done_first A x f y.0 told s y.1 k.0 is k.1 k.2, k.3)
          ]

  -- after an answer, over a connection that was shut as u was being committed
  answered_shut : (a : Answer) → TakesEvent A x (λ a. a) (tables_standing old) (tables_standing mid) (Ok a) → (s u : State) → At s (Some u) old
      → ((t : State) (o : Option State) → At t o mid → Goes A told t o db) → Goes A (AnEvent x (Answered a) ∷ told) s (Some u) db
  answered_shut a it s u at go = by mid.is_open refl (asks_store A x) refl
    where
      now : LeavesAnswered (tables_standing mid) (step A s x) a
      now = it.does.answered clean s at.1 tt

      other : LeavesAnswered (tables_standing mid) (step A u x) a
      other = it.does.answered clean u at.2 tt

      by : (opened : Bool) → mid.is_open ≡ opened → (asks : Bool) → asks_store A x ≡ asks → Goes A (AnEvent x (Answered a) ∷ told) s (Some u) db
      by true opened asks asked = let later =
          go now.next None (now.rests, record { each = (it.lasts opened now.next now.rests).each }) in inl
          (later.0, answered_first A x a told s now.next later.0 now.step later.1, later.2)
      by false opened true asked = absurd (let two : true ≡ false = sym (it.does.is_open clean asked) ∙ opened in cc)
      by false opened false asked =
          let same = unasked A s now.next x a at.1.knows asked now.step in
          let as_well = unasked A u other.next x a at.2.knows asked other.step in
          let next : At now.next (Some other.next) mid = (
            opened,
            now.rests,
            other.rests,
            λ d may. elim (it.does.crash.crash clean d may) [
              | inl before ↦ elim (at.3 d before) [ inl k ↦ inl (subst (Keeps d) (sym same) k) | inr k ↦ inr (subst (Keeps d) (sym as_well) k) ]
              | inr more ↦ absurd (let two : true ≡ false = sym more.was_open ∙ at.0 in cc)
            ],
          ) in
          elim (go now.next (Some other.next) next) [
            | inl k ↦ inl (k.0, answered_first A x a told s now.next k.0 now.step k.1, k.2)
            | inr k ↦ inr (k.0, (other.next, other.step, k.1), (asked, k.2), k.3)
          ]

  -- after a fault, over such a connection
  failed_shut : (f : StoreFault) → TakesEvent A x (λ a. a) (tables_standing old) (tables_standing mid) (Err f) → (s u : State) → At s (Some u) old
      → ((o : Option State) → At s o mid → Goes A told s o db) → Goes A (AnEvent x (Failed f) ∷ told) s (Some u) db
  failed_shut f it s u at go = by mid.is_open refl
    where
      now : Rests mid s × MayFail A s x f
      now = it.does.failed clean s at.1 tt

      other : Rests mid u × MayFail A u x f
      other = it.does.failed clean u at.2 tt

      by : (opened : Bool) → mid.is_open ≡ opened → Goes A (AnEvent x (Failed f) ∷ told) s (Some u) db
      by true opened = let later =
          go None (now.0, record { each = (it.lasts opened s now.0).each }) in inl (later.0, failed_first A x f told s later.0 now.1 later.1, later.2)
      by false opened =
          let next : At s (Some u) mid = (
            opened,
            now.0,
            other.0,
            λ d may. elim (it.does.crash.crash clean d may) [
              | inl before ↦ at.3 d before
              | inr more ↦ absurd
                  (let two : true ≡ false = sym more.was_open ∙ at.0 in cc)
            ],
          ) in
          elim (go (Some u) next) [ inl k ↦ inl (k.0, failed_first A x f told s k.0 now.1 k.1, k.2) | inr k ↦ inr (k.0, (other.1, k.1), k.2, k.3) ]

module _ {S : Type 0} (g : Ghosts S) (A : Agreements) where
  goes_on : (es : List Event) (rs : List (Result Answer StoreFault)) (old new : Held S)
      → TakesEvents (λ (h : Held S). tables_standing (state g h)) A es rs old new
      → HasCleanDisk (state g new) → (s : State) (o : Option State) → At s o (state g old)
      → (db : Trees) → (state g new).may_leave db → Goes A (trace es rs) s o db
  goes_on [] [] old new same clean s None at db may = (s, ([], inl refl, refl), at.1.each db (subst (λ (h : Held S). (state g h).may_leave db) same may))
  goes_on [] [] old new same clean s (Some u) at db may =
      elim (at.3 db (subst (λ (h : Held S). (state g h).may_leave db) same may)) [ inl k ↦ inl (s, ([], inl refl, refl), k) | inr k ↦ inr (u, refl, tt, k) ]
  goes_on [] (q ∷ rs) old new none clean s o at db may = absurd none
  goes_on (x ∷ es) [] old new none clean s o at db may = absurd none
  goes_on (x ∷ es) (Ok a ∷ rs) old new it clean s None at db may =
      let mid = taken_clean (λ (h : Held S). tables_standing (state g h)) A es rs it.0 new it.4 clean in
      let now = it.1.does.answered mid s at.0 tt in
      let held = answered_lasts A x (state g old) (state g it.0) mid a it.1 s now.next at.0 at.1 now.step now.rests in
      let later = goes_on es rs it.0 new it.4 clean now.next None (now.rests, held) db may in
      (later.0, answered_first A x a (trace es rs) s now.next later.0 now.step later.1, later.2)
  goes_on (x ∷ es) (Ok a ∷ rs) old new it clean s (Some u) at db may =
      answered_shut A x (trace es rs) (state g old) (state g it.0)
      (taken_clean (λ (h : Held S). tables_standing (state g h)) A es rs it.0 new it.4 clean) db a it.1 s u at
      (λ t o there. goes_on es rs it.0 new it.4 clean t o there db may)
  goes_on (x ∷ es) (Err f ∷ rs) old new it clean s None at db may =
      failed_goes A x (trace es rs) (state g old) (state g it.0)
      (taken_clean (λ (h : Held S). tables_standing (state g h)) A es rs it.0 new it.4 clean) db f it.1 s at.0 at.1
      (λ o there. goes_on es rs it.0 new it.4 clean s o there db may)
  goes_on (x ∷ es) (Err f ∷ rs) old new it clean s (Some u) at db may =
      failed_shut A x (trace es rs) (state g old) (state g it.0)
      (taken_clean (λ (h : Held S). tables_standing (state g h)) A es rs it.0 new it.4 clean) db f it.1 s u at
      (λ o there. goes_on es rs it.0 new it.4 clean s o there db may)

  -- whatever stops the computer after these events, they lead to what is found, perhaps with one more done
  pub leaves : (es : List Event) (rs : List (Result Answer StoreFault)) (old new : Held S)
      → TakesEvents (λ (h : Held S). tables_standing (state g h)) A es rs old new
      → HasCleanDisk (state g new) → (s : State) → IsHeld (state g old) s → LeadsToFound A (trace es rs) s (state g new)
  leaves es rs old new taken clean s held db may =
      let it = goes_on es rs old new taken clean s None (held.rests, held.lasts) db may in
      (it.0, record { events = it.1.0; counts = it.1.1; run = it.1.2; by_history = ends_by_history A s it.1.0 it.0 it.1.2 }, it.2)

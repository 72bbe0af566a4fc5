-- The places that a round asks, one after the other.
-- The plan: what `ask_all` does from turn to turn is `Going`; the places that are asked, as their definition has them, are asked one by one
-- (`asked_one_by_one`), and `asks_at` says what the call for one place leaves.
use Rattle.std.proofs.Common.{◌≡◌, ◌∙◌, inl, inr, ℕ, zero, suc, ◌+◌, ◌<◌, ◌≤◌, ◌==◌, ◌&&◌, not, cond, if◌then◌else◌, Bool, true, false, List, [], ◌∷◌, ◌++◌, length, take, filter, Option, Some, None, is_some, is_none, true≢false, refl, sym, ap, subst, arith, append_assoc, append-nil}
use Rattle.std.specs.Prelude.{slice_get, slice_set}
use Rattle.std.specs.Int.{from_bool}
use Rattle.std.proofs.lemmas.Bool.Decides.{eqb_tells}
use Rattle.std.proofs.lemmas.List.Elements.{filter_agree}
use Rattle.as2_hub.specs.Bounded.{HoldsNoMore}
use Rattle.as2_hub.specs.Calls.{DeskCall, calls_at}
use Rattle.as2_hub.specs.Conduct.{Conduct}
use Rattle.as2_hub.specs.Places.{StandAmid, is_ready_in, places, without_reply}
use Rattle.as2_hub.specs.Rounds.{AsksPlace, AsksPlaces, MakesCalls, Scene, scene}
use Rattle.as2_hub.specs.Talks.{AnswersWaiting, AsksDesk, HoldsReply, HoldsRest, before_call, is_ready, unanswered_of}
use Rattle.as2_hub.specs.declared.beginning.Beginning.{Beginning}
use Rattle.as2_hub.specs.declared.desk.Reply.{Reply}
use Rattle.as2_hub.specs.declared.hub.Hub.{Hub}
use Rattle.as2_hub.specs.Turns.{AsksAt, called_places, each_once, is_ready_at, places_asked, without_place}
use Rattle.as2_hub.specs.declared.talk.Talk.{Talk}
use Rattle.as2_hub.proofs.Calling.{calls_none, calls_then}
use Rattle.as2_hub.proofs.Reading.{rest_same}
use Rattle.as2_hub.proofs.Standing.{called, differs, get_set_other, placed, same, set_same}
use Rattle.as2_hub.proofs.Waiting.{differs_set}
use Rattle.as2_hub.proofs.Within.{less_same, less_then}

-- ---- the ready places, one after the other

-- so many of these places at most: the first that is ready, and then those of the others that are, without that one
abbrev pub asked_next : (ℕ → Bool) → ℕ → List ℕ → List ℕ
asked_next ready zero named = []
asked_next ready (suc n) [] = []
asked_next ready (suc n) (c ∷ named) = cond (ready c) (c ∷ asked_next (λ d. ready d && not (d == c)) n named) (asked_next ready (suc n) named)

and_swap : (a b : Bool) → (a && b) ≡ (b && a)
and_swap true true = refl
and_swap true false = refl
and_swap false true = refl
and_swap false false = refl

filters : (f g : ℕ → Bool) (xs : List ℕ) → filter g (filter f xs) ≡ filter (λ d. f d && g d) xs
filters f g [] = refl
filters f g (x ∷ xs) = go (f x) (filters f g xs)
  where
    go : (b : Bool) → filter g (filter f xs) ≡ filter (λ d. f d && g d) xs → filter g (cond b (x ∷ filter f xs) (filter f xs))
        ≡ cond (b && g x) (x ∷ filter (λ d. f d && g d) xs) (filter (λ d. f d && g d) xs)
    go true later = ap (λ (l : List ℕ). cond (g x) (x ∷ l) l) later
    go false later = later

filters_swap : (f g : ℕ → Bool) (xs : List ℕ) → filter g (filter f xs) ≡ filter f (filter g xs)
filters_swap f g xs = filters f g xs ∙ filter_agree (λ d. f d && g d) (λ d. g d && f d) (λ d. and_swap (f d) (g d)) xs ∙ sym (filters g f xs)

-- a test that a place doesn't pass leaves it out anyhow
left_out : (g : ℕ → Bool) (x : ℕ) (xs : List ℕ) → g x ≡ false → filter g (without_place x xs) ≡ filter g xs
left_out g x xs off = filters (λ d. not (d == x)) g xs ∙ filter_agree (λ d. not (d == x) && g d) g agree xs
  where
    agree : (d : ℕ) → (not (d == x) && g d) ≡ g d
    agree d = elim (eqb_tells d x) as (λ w. (not (d == x) && g d) ≡ g d) [
      | inl here ↦ ap (λ (b : Bool). not b && g d) here.0 ∙ sym (ap g here.1 ∙ off)
      | inr other ↦ ap (λ (b : Bool). not b && g d) other.0
    ]

once_filtered : (g : ℕ → Bool) (xs : List ℕ) → filter g (each_once xs) ≡ each_once (filter g xs)
once_filtered g [] = refl
once_filtered g (x ∷ xs) = go (g x) refl (once_filtered g xs)
  where
    go : (b : Bool) → g x ≡ b → filter g (each_once xs) ≡ each_once (filter g xs)
        → cond b (x ∷ filter g (without_place x (each_once xs))) (filter g (without_place x (each_once xs))) ≡ each_once
        (cond b (x ∷ filter g xs) (filter g xs))
    go true is later = ap (λ (l : List ℕ). x ∷ l) (filters_swap (λ d. not (d == x)) g (each_once xs) ∙ ap (without_place x) later)
    go false is later = left_out g x (each_once xs) is ∙ later

asked_one_by_one : (f : ℕ → Bool) (n : ℕ) (xs : List ℕ) → take n (each_once (filter f xs)) ≡ asked_next f n xs
asked_one_by_one f zero xs = refl
asked_one_by_one f (suc n) [] = refl
asked_one_by_one f (suc n) (x ∷ xs) = go (f x) (asked_one_by_one (λ d. f d && not (d == x)) n xs) (asked_one_by_one f (suc n) xs)
  where
    go : (b : Bool) → take n (each_once (filter (λ d. f d && not (d == x)) xs)) ≡ asked_next (λ d. f d && not (d == x)) n xs
        → take (suc n) (each_once (filter f xs)) ≡ asked_next f (suc n) xs
        → take (suc n) (each_once (cond b (x ∷ filter f xs) (filter f xs)))
        ≡ cond b (x ∷ asked_next (λ d. f d && not (d == x)) n xs) (asked_next f (suc n) xs)
    go true one later = ap (λ (l : List ℕ). x ∷ l)
        (ap (λ (l : List ℕ). take n l) (once_filtered (λ d. not (d == x)) (filter f xs) ∙ ap each_once (filters f (λ d. not (d == x)) xs)) ∙ one)
    go false one later = later

asked_alike : (f g : ℕ → Bool) (n : ℕ) (xs : List ℕ) → ((c : ℕ) → f c ≡ g c) → asked_next f n xs ≡ asked_next g n xs
asked_alike f g zero xs alike = refl
asked_alike f g (suc n) [] alike = refl
asked_alike f g (suc n) (x ∷ xs) alike =
    ap (λ (b : Bool). cond b (x ∷ asked_next (λ d. f d && not (d == x)) n xs) (asked_next f (suc n) xs)) (alike x)
    ∙ ap (λ (l : List ℕ). cond (g x) (x ∷ l) (asked_next f (suc n) xs))
    (asked_alike (λ d. f d && not (d == x)) (λ d. g d && not (d == x)) n xs (λ d. ap (λ (b : Bool). b && not (d == x)) (alike d)))
    ∙ ap (λ (l : List ℕ). cond (g x) (x ∷ asked_next (λ d. g d && not (d == x)) n xs) l) (asked_alike f g (suc n) xs alike)

asked_no_more : (f : ℕ → Bool) (n : ℕ) → asked_next f n [] ≡ []
asked_no_more f zero = refl
asked_no_more f (suc n) = refl

-- a place that isn't ready is passed over, and of one that is the others are asked next
passed_over : (f : ℕ → Bool) (n c : ℕ) (named : List ℕ) → f c ≡ false → asked_next f (suc n) (c ∷ named) ≡ asked_next f (suc n) named
passed_over f n c named off =
    ap (λ (b : Bool). cond b (c ∷ asked_next (λ d. f d && not (d == c)) n named) (asked_next f (suc n) named)) off

taken_next : (f : ℕ → Bool) (n c : ℕ) (named : List ℕ) → f c ≡ true
    → asked_next f (suc n) (c ∷ named) ≡ c ∷ asked_next (λ d. f d && not (d == c)) n named
taken_next f n c named on =
    ap (λ (b : Bool). cond b (c ∷ asked_next (λ d. f d && not (d == c)) n named) (asked_next f (suc n) named)) on

pub called_append : (later earlier : List DeskCall) → called_places (later ++ earlier) ≡ called_places earlier ++ called_places later
called_append [] earlier = sym (append-nil (called_places earlier))
called_append (e ∷ later) earlier = ap (λ (l : List ℕ). l ++ e.place ∷ []) (called_append later earlier)
    ∙ append_assoc (called_places earlier) (called_places later) (e.place ∷ [])

-- where a reply is held at a place, it alone isn't ready any more
pub ready_elsewhere : (talks : List (Option Talk)) (at : ℕ) (t : Talk) → at < length talks → is_ready t ≡ false
    → (c : ℕ) → is_ready_at (slice_set talks at (Some t)) c ≡ (is_ready_at talks c && not (c == at))
ready_elsewhere talks at t within off =
    placed talks at (Some t) (λ c o. is_ready_in o ≡ (is_ready_at talks c && not (c == at))) within
    (off ∙ sym (ap (λ (b : Bool). is_ready_at talks at && not b) (same at) ∙ and_none (is_ready_at talks at)))
    (λ c ne. sym (ap (λ (b : Bool). is_ready_at talks c && not b) (differs c at (λ is. ne (sym is))) ∙ and_all (is_ready_at talks c)))
  where
    and_none : (b : Bool) → (b && false) ≡ false
    and_none true = refl
    and_none false = refl

    and_all : (b : Bool) → (b && true) ≡ b
    and_all true = refl
    and_all false = refl

-- what waits is ready, where no reply is held or to be written
ready_of : (t : Talk) (b : Beginning) → t.reply ≡ None → t.output.items ≡ [] → t.waiting ≡ Some b → is_ready t ≡ true
ready_of t b silent empty waits =
    ap (λ (r : Option Reply). is_none r && length t.output.items == 0 && is_some t.waiting) silent
    ∙ ap (λ (l : List ℕ). true && length l == 0 && is_some t.waiting) empty
    ∙ ap (λ (w : Option Beginning). true && true && is_some w) waits

pub no_more_than_one : (b : Bool) → from_bool b ≤ 1
no_more_than_one true = omega arith
no_more_than_one false = omega arith

module _ {S : Type 0} (D : Conduct S) where
  -- ---- one place

  -- nothing changed
  asks_same : (desk later : S) (old new : Hub) (at : ℕ) (t next : Talk) → slice_get (places old) at ≡ Some (Some t)
      → places new ≡ slice_set (places old) at (Some next) → later ≡ desk → next ≡ t → places new ≡ places old
  asks_same desk later old new at t next is sets same_desk same_talk =
      sets ∙ set_same (places old) at (Some next) (is ∙ ap (λ (x : Talk). Some (Some x)) (sym same_talk))

  abbrev makes_none : (desk later : S) (old new : Hub) → later ≡ desk → places new ≡ places old → MakesCalls D desk later (places old) (places new)
  makes_none desk later old new same_desk same_places = record {
    calls = [];
    chain = same_desk;
    goes_on = λ h round it. subst (λ (l : List (Option Talk)). StandAmid l h round) (sym same_places) it;
    others = λ c none. ap (λ (l : List (Option Talk)). slice_get l c) same_places;
    back = λ may c. ap (λ (l : List (Option Talk)). without_reply (slice_get l c)) same_places;
    on = record { may_lose = ap D.may_lose same_desk; keeps = λ may. ap D.kept same_desk };
  }

  -- nothing waits there
  pub asks_nobody : (desk : S) (old new : Hub) (at : ℕ) → is_ready_at (places old) at ≡ false → places new ≡ places old
      → AsksPlace D at (scene desk old) (scene desk new) false
  asks_nobody desk old new at off sets = record { made = makes_none desk desk old new refl sets; turn = (off, refl, sets) }

  -- the call of a place leaves the others
  others_than : (talks : List (Option Talk)) (at : ℕ) (next : Talk) (e : DeskCall) → e.place ≡ at → (c : ℕ) → calls_at c (e ∷ []) ≡ []
      → slice_get (slice_set talks at (Some next)) c ≡ slice_get talks c
  others_than talks at next e place c none = get_set_other talks at c (Some next) (λ is. go (e.place == c) (here is) none)
    where
      here : c ≡ at → (e.place == c) ≡ true
      here is = ap (λ (k : ℕ). e.place == k) (is ∙ sym place) ∙ same e.place

      some_calls : (e : DeskCall) → e ∷ [] ≡ [] → ⊥
      some_calls e is = cc

      go : (b : Bool) → b ≡ true → (if b then e ∷ [] else []) ≡ [] → ⊥
      go true on nothing = absurd (some_calls e nothing)
      go false on nothing = absurd (true≢false (sym on))

  -- that call was made for a talk
  held_by : (desk later : S) (t next : Talk) (at : ℕ) (it : AnswersWaiting D desk later t next)
      → HoldsReply (record { place = at; asked = it.asked; reply = it.reply.text.items; stays = it.reply.stays }) next
  held_by desk later t next at it = record {
    reply = it.reply;
    held = ap (λ (x : Talk). x.reply) it.held;
    text = refl;
    stays = refl;
    last = it.last;
    empty = ap (λ (x : Talk). x.output.items) it.held ∙ it.empty;
  }

  rest_asked : (desk later : S) (t next : Talk) (it : AnswersWaiting D desk later t next) (input : List ℕ) (calls : List DeskCall) → HoldsRest t input calls
      → HoldsRest (before_call it.asked next) input calls
  rest_asked desk later t next it input calls rest =
      rest_same t (before_call it.asked next) input calls (ap (λ (x : Talk). x.parser) it.held) (sym it.waits) (ap (λ (x : Talk). x.is_spent) it.held)
      (ap (λ (x : Talk). x.taken) it.held) (ap (λ (x : Talk). x.behind) it.held) rest

  differs_asked : (desk later : S) (t next : Talk) → AnswersWaiting D desk later t next → D.may_lose desk ≡ true
      → record next { reply = None } ≡ record t { reply = None }
  differs_asked desk later t next it may =
      ap (λ (x : Talk). record x { reply = None }) it.held ∙ ap (λ (w : Option Beginning). record t { waiting = w; reply = None }) (it.back may)

  pub asks_at : (desk later : S) (old new : Hub) (at : ℕ) (t next : Talk) (b : Bool) → at < length (places old)
      → slice_get (places old) at ≡ Some (Some t) → places new ≡ slice_set (places old) at (Some next) → AsksDesk D desk later t next b
      → AsksPlace D at (scene desk old) (scene later new) b
  asks_at desk later old new at t next true within is sets it =
      let e : DeskCall = record { place = at; asked = it.asked; reply = it.reply.text.items; stays = it.reply.stays } in
      record {
        made = record {
          calls = e ∷ [];
          chain = (desk, refl, it.answered);
          goes_on = λ h round amid. subst (λ (l : List (Option Talk)). StandAmid l h (e ∷ round)) (sym sets)
              (called (places old) at t next e h round within is refl it.silent (held_by desk later t next at it)
              (rest_asked desk later t next it) (ap (λ (x : Talk). x.output) it.held) amid);
          others = λ c none. ap (λ (l : List (Option Talk)). slice_get l c) sets ∙ others_than (places old) at next e refl c none;
          back = λ may c. ap (λ (l : List (Option Talk)). without_reply (slice_get l c)) sets
              ∙ differs_set (places old) at (Some next) within
              (ap (λ (x : Talk). Some (Some x)) (differs_asked desk later t next it may) ∙ sym (ap without_reply is)) c;
          on = it.on;
        };
        turn = (
          refl,
          ap is_ready_in is ∙ ready_of t it.asked it.silent it.empty it.waits,
          λ c. ap (λ (l : List (Option Talk)). is_ready_at l c) sets ∙ ready_elsewhere (places old) at next within (ap is_ready it.held) c,
        );
      }
  asks_at desk later old new at t next false within is sets it =
      let same_places = asks_same desk later old new at t next is sets it.1 it.2 in
      record { made = makes_none desk later old new it.1 same_places; turn = (ap is_ready_in is ∙ it.0, refl, same_places) }

  pub unread_asked : (desk later : S) (t next : Talk) (b : Bool) → AsksDesk D desk later t next b → unanswered_of next ≡ unanswered_of t
  unread_asked desk later t next true it = ap unanswered_of it.held
  unread_asked desk later t next false it = ap unanswered_of it.2

  -- ---- as far as a round has come

  -- these calls were made; and the places that are asked are theirs, and so many more at most of those that remain
  pub record Going (old now : Scene S) (named remaining : List ℕ) (left : ℕ) : Type 0 where
    pub made : MakesCalls D old.desk now.desk (places old.hub) (places now.hub)
    pub asked : places_asked old.hub named ≡ called_places made.calls ++ asked_next (is_ready_at (places now.hub)) left remaining
    pub unread : HoldsNoMore (places old.hub) (places now.hub)
    pub bounds : now.hub.bounds ≡ old.hub.bounds

  pub going_first : (old : Scene S) (named : List ℕ) → Going old old named named old.hub.bounds.requests
  going_first old named = record {
    made = calls_none D old.desk (places old.hub);
    asked = asked_one_by_one (is_ready_at (places old.hub)) old.hub.bounds.requests named;
    unread = less_same (places old.hub);
    bounds = refl;
  }

  -- a place was asked, of those that remain
  asked_of_rest : (old new : List (Option Talk)) (calls : List DeskCall) (b : Bool) (left later at : ℕ) (more : List ℕ) → 0 < left → left ≡ later + from_bool b
      → AsksAt at old new calls b → asked_next (is_ready_at old) left (at ∷ more) ≡ called_places calls ++ asked_next (is_ready_at new) later more
  asked_of_rest old new calls true left later at more some count it =
      let one : left ≡ suc later = omega arith in
      ap (λ (k : ℕ). asked_next (is_ready_at old) k (at ∷ more)) one
      ∙ taken_next (is_ready_at old) later at more it.1
      ∙ ap (λ (l : List ℕ). at ∷ l) (asked_alike (λ d. is_ready_at old d && not (d == at)) (is_ready_at new) later more (λ c. sym (it.2 c)))
      ∙ ap (λ (l : List ℕ). l ++ asked_next (is_ready_at new) later more) (sym it.0)
  asked_of_rest old new calls false (suc n) later at more some count it =
      let none : suc n ≡ later = omega arith in
      passed_over (is_ready_at old) n at more it.0
      ∙ ap (λ (k : ℕ). asked_next (is_ready_at old) k more) none
      ∙ ap (λ (l : List (Option Talk)). asked_next (is_ready_at l) later more) (sym it.2)
      ∙ ap (λ (l : List DeskCall). called_places l ++ asked_next (is_ready_at new) later more) (sym it.1)
  asked_of_rest old new calls false zero later at more some count it = absurd (omega (arith, some))

  pub going_on : (old mid new : Scene S) (named remaining more : List ℕ) (left later at : ℕ) (b : Bool) → 0 < left → left ≡ later + from_bool b
      → remaining ≡ at ∷ more → AsksPlace D at mid new b
      → HoldsNoMore (places mid.hub) (places new.hub) → new.hub.bounds ≡ mid.hub.bounds
      → Going old mid named remaining left → Going old new named more later
  going_on old mid new named remaining more left later at b some count cut one less bounds it = record {
    made = calls_then D old.desk mid.desk new.desk (places old.hub) (places mid.hub) (places new.hub) it.made one.made;
    asked =
        it.asked
        ∙ ap (λ (l : List ℕ). called_places it.made.calls ++ asked_next (is_ready_at (places mid.hub)) left l) cut
        ∙ ap (λ (l : List ℕ). called_places it.made.calls ++ l)
        (asked_of_rest (places mid.hub) (places new.hub) one.made.calls b left later at more some count one.turn)
        ∙ sym (append_assoc (called_places it.made.calls) (called_places one.made.calls) (asked_next (is_ready_at (places new.hub)) later more))
        ∙ ap (λ (l : List ℕ). l ++ asked_next (is_ready_at (places new.hub)) later more) (sym (called_append one.made.calls it.made.calls));
    unread = less_then (places old.hub) (places mid.hub) (places new.hub) it.unread less;
    bounds = bounds ∙ it.bounds;
  }

  -- no more are asked, since so many were, or none remain
  pub going_none_left : (old now : Scene S) (named remaining : List ℕ) (left : ℕ) → left ≡ 0 → Going old now named remaining left
      → AsksPlaces D named old now
  going_none_left old now named remaining left none it = record {
    made = it.made;
    turns = sym (it.asked
        ∙ ap (λ (k : ℕ). called_places it.made.calls ++ asked_next (is_ready_at (places now.hub)) k remaining) none
        ∙ append-nil (called_places it.made.calls));
  }

  pub going_all : (old now : Scene S) (named remaining : List ℕ) (left : ℕ) → remaining ≡ [] → Going old now named remaining left
      → AsksPlaces D named old now
  going_all old now named remaining left none it = record {
    made = it.made;
    turns = sym (it.asked
        ∙ ap (λ (l : List ℕ). called_places it.made.calls ++ asked_next (is_ready_at (places now.hub)) left l) none
        ∙ ap (λ (l : List ℕ). called_places it.made.calls ++ l) (asked_no_more (is_ready_at (places now.hub)) left)
        ∙ append-nil (called_places it.made.calls));
  }

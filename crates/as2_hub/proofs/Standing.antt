-- What a change at one place leaves at all of them.
use Rattle.std.proofs.Common.{◌≡◌, ◌≢◌, inl, inr, ℕ, zero, suc, ◌+◌, ◌<◌, ◌≤◌, ◌==◌, Bool, true, false, get_or, List, [], ◌∷◌, ◌++◌, length, if◌then◌else◌, Option, Some, None, IsTrue, refl, sym, ap, subst, ◌∙◌, arith, append_assoc, append-nil, replicate, min, ◌-◌, ◌&&◌, is_some, is_none}
use Rattle.std.specs.Prelude.{slice_get, slice_set}
use Rattle.std.proofs.lemmas.Bool.{cases_lt}
use Rattle.std.proofs.lemmas.Option.{slice_get_past, slice_get_read}
use Rattle.as2_hub.specs.Calls.{DeskCall, calls_at, replies_of}
use Rattle.as2_hub.specs.Happenings.{Happenings, Opens, Comes, Keeps, Loses, Goes, Closes, is_open_after, bytes_from, calls_of, written_to}
use Rattle.as2_hub.specs.Talks.{HoldsRest, HoldsReply, Pends, before_call, before_calls, talk_room, unanswered_of}
use Rattle.as2_hub.specs.declared.hub.Hub.{Hub}
use Rattle.as2_hub.specs.Places.{TalkStands, PlaceStands, StandAmid, StandAfter, IsVacantAfter, room_in, room_left}
use Rattle.as2_hub.specs.declared.talk.Talk.{Talk}
use Rattle.as2_hub.proofs.Reading.{rest_same}

pub differs : (a c : ℕ) → a ≢ c → (a == c) ≡ false
differs a c ne = grind arith

pub same : (a : ℕ) → (a == a) ≡ true
same a = grind arith

-- a list with one place set has there what was set, and elsewhere what it had
pub placed : (talks : List (Option Talk)) (at : ℕ) (v : Option Talk) (P : ℕ → Option (Option Talk) → Type 0) → at < length talks → P at (Some v)
    → ((c : ℕ) → at ≢ c → P c (slice_get talks c)) → (c : ℕ) → P c (slice_get (slice_set talks at v) c)
placed [] at v P within here other c = absurd (omega (arith, within))
placed (x ∷ talks) zero v P within here other zero = here
placed (x ∷ talks) zero v P within here other (suc c) = other (suc c) (λ is. omega (arith, is))
placed (x ∷ talks) (suc at) v P within here other zero = other zero (λ is. omega (arith, is))
placed (x ∷ talks) (suc at) v P within here other (suc c) =
    placed talks at v (λ k. P (suc k)) (omega (arith, within)) here (λ k ne. other (suc k) (λ is. ne (omega (arith, is)))) c

pub get_set_same : (talks : List (Option Talk)) (at : ℕ) (v : Option Talk) → at < length talks → slice_get (slice_set talks at v) at ≡ Some v
get_set_same [] at v within = absurd (omega (arith, within))
get_set_same (x ∷ talks) zero v within = refl
get_set_same (x ∷ talks) (suc at) v within = get_set_same talks at v (omega (arith, within))

pub get_set_other : (talks : List (Option Talk)) (at c : ℕ) (v : Option Talk) → ¬ (c ≡ at) → slice_get (slice_set talks at v) c ≡ slice_get talks c
get_set_other [] at c v ne = refl
get_set_other (x ∷ talks) zero zero v ne = absurd (ne refl)
get_set_other (x ∷ talks) zero (suc c) v ne = refl
get_set_other (x ∷ talks) (suc at) zero v ne = refl
get_set_other (x ∷ talks) (suc at) (suc c) v ne = get_set_other talks at c v (λ is. ne (ap suc is))

pub set_same : (talks : List (Option Talk)) (at : ℕ) (v : Option Talk) → slice_get talks at ≡ Some v → slice_set talks at v ≡ talks
set_same [] at v is = refl
set_same (x ∷ talks) zero v is = let e : v ≡ x = cc in ap (λ (y : Option Talk). y ∷ talks) e
set_same (x ∷ talks) (suc at) v is = ap (λ (l : List (Option Talk)). x ∷ l) (set_same talks at v is)

pub put_back : (talks : List (Option Talk)) (at : ℕ) (o : Option Talk) → at < length talks → o ≡ get_or talks at o → slice_set talks at o ≡ talks
put_back talks at o within found = set_same talks at o (slice_get_read talks (length talks) at o refl within found)

-- what stands at a place goes by these alone
record Alike (c : ℕ) (h g : Happenings) : Type 0 where
  open_is : is_open_after c g ≡ is_open_after c h
  input_is : bytes_from c g ≡ bytes_from c h
  calls_is : calls_of c g ≡ calls_of c h
  written_is : written_to c g ≡ written_to c h

alike : (c : ℕ) (h g : Happenings) (round : List DeskCall) → Alike c h g → (o : Option (Option Talk)) → PlaceStands c h round o → PlaceStands c g round o
alike c h g round same None it = (same.open_is ∙ it.0, it.1)
alike c h g round same (Some None) it = (same.open_is ∙ it.0, it.1)
alike c h g round same (Some (Some t)) it = record {
  is_open = same.open_is ∙ it.is_open;
  rest = subst (λ (x : List ℕ). HoldsRest (before_calls (calls_at c round) t) x (calls_of c g)) (sym same.input_is)
      (subst (λ (x : List DeskCall). HoldsRest (before_calls (calls_at c round) t) (bytes_from c h) x) (sym same.calls_is) it.rest);
  written = ap replies_of same.calls_is ∙ it.written ∙ ap (λ (x : List ℕ). x ++ t.output.items) (sym same.written_is);
  pends = it.pends;
}

opens_else : (a c : ℕ) (h : Happenings) → a ≢ c → Alike c h (Opens a ∷ h)
opens_else a c h ne = let no = differs a c ne in record {
  open_is = ap (λ (b : Bool). if b then true else is_open_after c h) no;
  input_is = ap (λ (b : Bool). if b then [] else bytes_from c h) no;
  calls_is = ap (λ (b : Bool). if b then [] else calls_of c h) no;
  written_is = ap (λ (b : Bool). if b then [] else written_to c h) no;
}

comes_else : (a c : ℕ) (piece : List ℕ) (h : Happenings) → a ≢ c → Alike c h (Comes a piece ∷ h)
comes_else a c piece h ne =
    record {
      open_is = refl;
      input_is = ap (λ (b : Bool). if b then bytes_from c h ++ piece else bytes_from c h) (differs a c ne);
      calls_is = refl;
      written_is = refl;
    }

goes_else : (a c : ℕ) (piece : List ℕ) (h : Happenings) → a ≢ c → Alike c h (Goes a piece ∷ h)
goes_else a c piece h ne =
    record {
      open_is = refl;
      input_is = refl;
      calls_is = refl;
      written_is = ap (λ (b : Bool). if b then written_to c h ++ piece else written_to c h) (differs a c ne);
    }

closes_else : (a c : ℕ) (h : Happenings) → a ≢ c → Alike c h (Closes a ∷ h)
closes_else a c h ne = record {
  open_is = ap (λ (b : Bool). if b then false else is_open_after c h) (differs a c ne);
  input_is = refl;
  calls_is = refl;
  written_is = refl;
}

-- ---- one place

-- a connection is opened there
pub opened : (talks : List (Option Talk)) (at : ℕ) (t : Talk) (h : Happenings) → at < length talks → HoldsRest t [] [] → t.output.items ≡ [] → t.reply ≡ None
    → StandAfter talks h → StandAfter (slice_set talks at (Some t)) (Opens at ∷ h)
unfolding StandAmid
opened talks at t h within rest empty silent it = placed talks at (Some t) (λ c o. PlaceStands c (Opens at ∷ h) [] o) within
    (record {
      is_open = ap (λ (b : Bool). if b then true else is_open_after at h) (same at);
      rest = subst (λ (b : Bool). HoldsRest t (if b then [] else bytes_from at h) (if b then [] else calls_of at h)) (sym (same at)) rest;
      written = ap (λ (b : Bool). replies_of (if b then [] else calls_of at h)) (same at) ∙ sym empty
          ∙ ap (λ (b : Bool). (if b then [] else written_to at h) ++ t.output.items) (sym (same at));
      pends = silent;
    })
    (λ c ne. alike c h (Opens at ∷ h) [] (opens_else at c h ne) (slice_get talks c) (it c))

-- it is closed
shut : (c : ℕ) (h : Happenings) → IsVacantAfter c (Closes c ∷ h) []
shut c h = (ap (λ (b : Bool). if b then false else is_open_after c h) (same c), refl)

pub closed : (talks : List (Option Talk)) (at : ℕ) (h : Happenings) → at < length talks → StandAfter talks h
    → StandAfter (slice_set talks at None) (Closes at ∷ h)
unfolding StandAmid
closed talks at h within it = placed talks at None (λ c o. PlaceStands c (Closes at ∷ h) [] o) within (shut at h)
    (λ c ne. alike c h (Closes at ∷ h) [] (closes_else at c h ne) (slice_get talks c) (it c))

-- .. where no such place is
pub closed_past : (talks : List (Option Talk)) (at : ℕ) (h : Happenings) → length talks ≤ at → StandAfter talks h → StandAfter talks (Closes at ∷ h)
unfolding StandAmid
closed_past talks at h past it c = elim (cases_lt c (length talks)) as (λ x. PlaceStands c (Closes at ∷ h) [] (slice_get talks c)) [
  | inl lt ↦ alike c h (Closes at ∷ h) [] (closes_else at c h (λ is. omega (arith, is, lt))) (slice_get talks c) (it c)
  | inr ge ↦
      let none = slice_get_past talks c ge in
      let before : IsVacantAfter c h [] = subst (λ (o : Option (Option Talk)). PlaceStands c h [] o) none (it c) in
      subst (λ (o : Option (Option Talk)). PlaceStands c (Closes at ∷ h) [] o) (sym none) (closes_none (at == c) (is_open_after c h) before.0, refl)
]
  where
    closes_none : (b was : Bool) → was ≡ false → (if b then false else was) ≡ false
    closes_none true was is = refl
    closes_none false was is = is

-- bytes came from it
pub heard : (talks : List (Option Talk)) (at : ℕ) (t new : Talk) (piece : List ℕ) (h : Happenings) → at < length talks → slice_get talks at ≡ Some (Some t)
    → ((input : List ℕ) (calls : List DeskCall) → HoldsRest t input calls → HoldsRest new (input ++ piece) calls) → new.output ≡ t.output → new.reply ≡ t.reply
    → StandAfter talks h → StandAfter (slice_set talks at (Some new)) (Comes at piece ∷ h)
unfolding StandAmid
heard talks at t new piece h within is more output reply it =
    let was : TalkStands at h [] t = subst (λ (o : Option (Option Talk)). PlaceStands at h [] o) is (it at) in
    placed talks at (Some new) (λ c o. PlaceStands c (Comes at piece ∷ h) [] o) within
    (record {
      is_open = was.is_open;
      rest = subst (λ (b : Bool). HoldsRest new (if b then bytes_from at h ++ piece else bytes_from at h) (calls_of at h)) (sym (same at))
          (more (bytes_from at h) (calls_of at h) was.rest);
      written = was.written ∙ ap (λ v. written_to at h ++ v.items) (sym output);
      pends = reply ∙ was.pends;
    })
    (λ c ne. alike c h (Comes at piece ∷ h) [] (comes_else at c piece h ne) (slice_get talks c) (it c))

-- bytes went to it
pub gone : (talks : List (Option Talk)) (at : ℕ) (t new : Talk) (piece : List ℕ) (h : Happenings) → at < length talks → slice_get talks at ≡ Some (Some t)
    → new ≡ record t { output = new.output } → t.output.items ≡ piece ++ new.output.items
    → StandAfter talks h → StandAfter (slice_set talks at (Some new)) (Goes at piece ∷ h)
unfolding StandAmid
gone talks at t new piece h within is others cut it =
    let was : TalkStands at h [] t = subst (λ (o : Option (Option Talk)). PlaceStands at h [] o) is (it at) in
    placed talks at (Some new) (λ c o. PlaceStands c (Goes at piece ∷ h) [] o) within
    (record {
      is_open = was.is_open;
      rest = subst (λ (x : Talk). HoldsRest x (bytes_from at h) (calls_of at h)) (sym others)
          (rest_same t (record t { output = new.output }) (bytes_from at h) (calls_of at h) refl refl refl refl refl was.rest);
      written = was.written ∙ ap (λ (x : List ℕ). written_to at h ++ x) cut ∙ sym (append_assoc (written_to at h) piece new.output.items)
          ∙ ap (λ (b : Bool). (if b then written_to at h ++ piece else written_to at h) ++ new.output.items) (sym (same at));
      pends = ap (λ (x : Talk). x.reply) others ∙ was.pends;
    })
    (λ c ne. alike c h (Goes at piece ∷ h) [] (goes_else at c piece h ne) (slice_get talks c) (it c))

-- ---- a round

-- a call for another connection
call_else : (c : ℕ) (h : Happenings) (e : DeskCall) (round : List DeskCall) → e.place ≢ c → (o : Option (Option Talk)) → PlaceStands c h round o
    → PlaceStands c h (e ∷ round) o
call_else c h e round ne None it = (it.0, ap (λ (b : Bool). if b then e ∷ calls_at c round else calls_at c round) (differs e.place c ne) ∙ it.1)
call_else c h e round ne (Some None) it = (it.0, ap (λ (b : Bool). if b then e ∷ calls_at c round else calls_at c round) (differs e.place c ne) ∙ it.1)
call_else c h e round ne (Some (Some t)) it = record {
  is_open = it.is_open;
  rest = subst (λ (b : Bool). HoldsRest (before_calls (if b then e ∷ calls_at c round else calls_at c round) t) (bytes_from c h) (calls_of c h))
      (sym (differs e.place c ne)) it.rest;
  written = it.written;
  pends = subst (λ (b : Bool). Pends (if b then e ∷ calls_at c round else calls_at c round) t) (sym (differs e.place c ne)) it.pends;
}

-- a connection without a reply had no call in the round
no_call : (calls : List DeskCall) (t : Talk) → t.reply ≡ None → Pends calls t → calls ≡ []
no_call [] t silent it = refl
no_call (e ∷ []) t silent it = absurd (not_none t.reply it.reply silent it.held)
  where
    not_none : {A : Type 0} (o : Option A) (x : A) → o ≡ None → o ≡ Some x → ⊥
    not_none o x is was = cc
no_call (e ∷ f ∷ more) t silent it = absurd it

-- the request of a connection was answered
pub called : (talks : List (Option Talk)) (at : ℕ) (t new : Talk) (e : DeskCall) (h : Happenings) (round : List DeskCall) → at < length talks
    → slice_get talks at ≡ Some (Some t) → e.place ≡ at
    → t.reply ≡ None → HoldsReply e new
    → ((input : List ℕ) (calls : List DeskCall) → HoldsRest t input calls → HoldsRest (before_call e.asked new) input calls) → new.output ≡ t.output
    → StandAmid talks h round → StandAmid (slice_set talks at (Some new)) h (e ∷ round)
unfolding StandAmid
called talks at t new e h round within is place silent holds rest output it =
    let was : TalkStands at h round t = subst (λ (o : Option (Option Talk)). PlaceStands at h round o) is (it at) in
    let none : calls_at at round ≡ [] = no_call (calls_at at round) t silent was.pends in
    let here : (e.place == at) ≡ true = ap (λ (k : ℕ). k == at) place ∙ same at in
    let before : HoldsRest t (bytes_from at h) (calls_of at h) =
    subst (λ (l : List DeskCall). HoldsRest (before_calls l t) (bytes_from at h) (calls_of at h)) none was.rest in
    placed talks at (Some new) (λ c o. PlaceStands c h (e ∷ round) o) within
    (record {
      is_open = was.is_open;
      rest = subst (λ (b : Bool). HoldsRest (before_calls (if b then e ∷ calls_at at round else calls_at at round) new) (bytes_from at h) (calls_of at h))
          (sym here) (rest (bytes_from at h) (calls_of at h) before);
      written = was.written ∙ ap (λ v. written_to at h ++ v.items) (sym output);
      pends = subst (λ (b : Bool). Pends (if b then e ∷ calls_at at round else calls_at at round) new) (sym here)
          (subst (λ (x : List DeskCall). Pends (e ∷ x) new) (sym none) holds);
    })
    (λ c ne. call_else c h e round (λ eq. ne (sym place ∙ eq)) (slice_get talks c) (it c))

-- the round was kept, for a connection
pub settled_talk : (c : ℕ) (h : Happenings) (round : List DeskCall) (t new : Talk)
    → ((e : DeskCall) (input : List ℕ) (calls : List DeskCall) → HoldsReply e t → HoldsRest (before_call e.asked t) input calls → HoldsRest new input (e ∷ calls)
    × (new.output.items ≡ e.reply))
    → (t.reply ≡ None → new ≡ t) → new.reply ≡ None
    → TalkStands c h round t → TalkStands c (Keeps round ∷ h) [] new
settled_talk c h round t new keeps silent over it = go (calls_at c round) refl it.pends it.rest
  where
    go : (l : List DeskCall) → calls_at c round ≡ l → Pends l t → HoldsRest (before_calls l t) (bytes_from c h) (calls_of c h)
        → TalkStands c (Keeps round ∷ h) [] new
    go [] none p rest = record {
      is_open = it.is_open;
      rest = subst (λ (l : List DeskCall). HoldsRest new (bytes_from c h) (l ++ calls_of c h)) (sym none)
          (subst (λ (x : Talk). HoldsRest x (bytes_from c h) (calls_of c h)) (sym (silent p)) rest);
      written = ap (λ (l : List DeskCall). replies_of (l ++ calls_of c h)) none ∙ it.written
          ∙ ap (λ (x : Talk). written_to c h ++ x.output.items) (sym (silent p));
      pends = over;
    }
    go (e ∷ []) one p rest = let now = keeps e (bytes_from c h) (calls_of c h) p rest in record {
      is_open = it.is_open;
      rest = subst (λ (l : List DeskCall). HoldsRest new (bytes_from c h) (l ++ calls_of c h)) (sym one) now.0;
      written = ap (λ (l : List DeskCall). replies_of (l ++ calls_of c h)) one
          ∙ ap (λ (x : List ℕ). x ++ e.reply) (it.written ∙ ap (λ (x : List ℕ). written_to c h ++ x) p.empty ∙ append-nil (written_to c h))
          ∙ ap (λ (x : List ℕ). written_to c h ++ x) (sym now.1);
      pends = over;
    }
    go (e ∷ f ∷ more) some p rest = absurd p

-- .. where nobody is
pub settled_vacant : (c : ℕ) (h : Happenings) (round : List DeskCall) → IsVacantAfter c h round → IsVacantAfter c (Keeps round ∷ h) []
settled_vacant c h round it = (it.0, refl)

-- a round was lost
loses_alike : (c : ℕ) (h : Happenings) (round : List DeskCall) → Alike c h (Loses round ∷ h)
loses_alike c h round = record { open_is = refl; input_is = refl; calls_is = refl; written_is = refl }

pub lost : (talks : List (Option Talk)) (h : Happenings) (round : List DeskCall) → StandAfter talks h → StandAfter talks (Loses round ∷ h)
unfolding StandAmid
lost talks h round it c = alike c h (Loses round ∷ h) [] (loses_alike c h round) (slice_get talks c) (it c)

-- nobody is at any place
pub vacant : (n : ℕ) → StandAfter (replicate n None) []
unfolding StandAmid
vacant n c = go n c
  where
    go : (n k : ℕ) → PlaceStands c [] [] (slice_get (replicate n None) k)
    go zero k = (refl, refl)
    go (suc n) zero = (refl, refl)
    go (suc n) (suc k) = go n k

-- ---- a round that is kept ends at one place after the other

-- below that place the round has ended, and from there on it hasn't
pub record Halfway (k : ℕ) (talks : List (Option Talk)) (h : Happenings) (round : List DeskCall) : Type 0 where
  pub below : (c : ℕ) → c < k → PlaceStands c (Keeps round ∷ h) [] (slice_get talks c)
  pub above : (c : ℕ) → k ≤ c → PlaceStands c h round (slice_get talks c)

pub halfway_none : (talks : List (Option Talk)) (h : Happenings) (round : List DeskCall) → StandAmid talks h round → Halfway 0 talks h round
unfolding StandAmid
halfway_none talks h round it = record { below = λ c less. absurd (omega (arith, less)); above = λ c le. it c }

pub halfway_more : (k : ℕ) (old new : List (Option Talk)) (h : Happenings) (round : List DeskCall)
    → (PlaceStands k h round (slice_get old k) → PlaceStands k (Keeps round ∷ h) [] (slice_get new k))
    → ((c : ℕ) → ¬ (c ≡ k) → slice_get new c ≡ slice_get old c)
    → Halfway k old h round → Halfway (k + 1) new h round
halfway_more k old new h round here others it = record {
  below = λ c less. elim (cases_lt c k) as (λ x. PlaceStands c (Keeps round ∷ h) [] (slice_get new c)) [
    | inl lt ↦ subst (λ (o : Option (Option Talk)). PlaceStands c (Keeps round ∷ h) [] o) (sym (others c (λ is. omega (arith, is, lt))))
        (it.below c lt)
    | inr ge ↦
        let at : k ≡ c = omega (arith, less, ge) in
        subst (λ (x : ℕ). PlaceStands x (Keeps round ∷ h) [] (slice_get new x)) at (here (it.above k (omega arith)))
  ];
  above = λ c le. subst (λ (o : Option (Option Talk)). PlaceStands c h round o) (sym (others c (λ is. omega (arith, is, le)))) (it.above c (omega (arith, le)));
}

pub halfway_all : (talks : List (Option Talk)) (h : Happenings) (round : List DeskCall) → Halfway (length talks) talks h round
    → StandAfter talks (Keeps round ∷ h)
unfolding StandAmid
halfway_all talks h round it c = elim (cases_lt c (length talks)) as (λ x. PlaceStands c (Keeps round ∷ h) [] (slice_get talks c)) [
  | inl lt ↦ it.below c lt
  | inr ge ↦
      let none = slice_get_past talks c ge in
      subst (λ (o : Option (Option Talk)). PlaceStands c (Keeps round ∷ h) [] o) (sym none)
      (settled_vacant c h round (subst (λ (o : Option (Option Talk)). PlaceStands c h round o) none (it.above c ge)))
]

-- .. at a place
pub settled_place : (c : ℕ) (h : Happenings) (round : List DeskCall) (t new : Talk) (o o' : Option (Option Talk)) → o ≡ Some (Some t)
    → o' ≡ Some (Some new)
    → ((e : DeskCall) (input : List ℕ) (calls : List DeskCall) → HoldsReply e t → HoldsRest (before_call e.asked t) input calls → HoldsRest new input (e ∷ calls)
    × (new.output.items ≡ e.reply))
    → (t.reply ≡ None → new ≡ t) → new.reply ≡ None
    → PlaceStands c h round o → PlaceStands c (Keeps round ∷ h) [] o'
settled_place c h round t new o o' was is keeps silent over it =
    subst (λ (x : Option (Option Talk)). PlaceStands c (Keeps round ∷ h) [] x) (sym is)
    (settled_talk c h round t new keeps silent over (subst (λ (x : Option (Option Talk)). PlaceStands c h round x) was it))

-- .. where nobody is
pub settled_none : (c : ℕ) (h : Happenings) (round : List DeskCall) (o : Option (Option Talk)) → o ≡ Some None → PlaceStands c h round o
    → PlaceStands c (Keeps round ∷ h) [] o
settled_none c h round o is it = subst (λ (x : Option (Option Talk)). PlaceStands c (Keeps round ∷ h) [] x) (sym is)
    (settled_vacant c h round (subst (λ (x : Option (Option Talk)). PlaceStands c h round x) is it))

-- what was found at a place is there
pub there : (talks : List (Option Talk)) (at : ℕ) (o : Option Talk) (t : Talk) → at < length talks → o ≡ get_or talks at o → o ≡ Some t
    → slice_get talks at ≡ Some (Some t)
there talks at o t within found is = slice_get_read talks (length talks) at o refl within found ∙ ap (λ (x : Option Talk). Some x) is

pub nobody_there : (talks : List (Option Talk)) (at : ℕ) (o : Option Talk) → at < length talks → o ≡ get_or talks at o → o ≡ None
    → slice_get talks at ≡ Some None
nobody_there talks at o within found is = slice_get_read talks (length talks) at o refl within found ∙ ap (λ (x : Option Talk). Some x) is

pub within_of : (talks : List (Option Talk)) (at : ℕ) → ¬ (slice_get talks at ≡ None) → at < length talks
within_of talks at some = elim (cases_lt at (length talks)) [ inl lt ↦ lt | inr ge ↦ absurd (some (slice_get_past talks at ge)) ]

-- no more is heard than there is room for
if_room : (b : Bool) (most unread : ℕ) → 0 < (if b then most - unread else 0) → unread + (if b then most - unread else 0) ≤ most
if_room true most unread some = omega (arith, some)
if_room false most unread some = absurd (omega (arith, some))

pub room_within : (hub : Hub) (t : Talk) (n : ℕ) (o : Option (Option Talk)) → o ≡ Some (Some t) → 0 < n → n ≤ room_in hub o
    → unanswered_of t + n ≤ hub.bounds.bytes_of_one
room_within hub t n o is some le =
    let within : n ≤ min (talk_room hub.bounds.bytes_of_one t) (room_left hub) = subst (λ (x : Option (Option Talk)). n ≤ room_in hub x) is le in
    let room : n ≤ talk_room hub.bounds.bytes_of_one t = omega (arith, within) in
    let all = if_room (is_some t.parser && is_none t.waiting) hub.bounds.bytes_of_one (unanswered_of t) (omega (arith, some, room)) in
    omega (arith, room, all)

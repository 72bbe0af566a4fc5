-- What a round leaves as it was.
use Rattle.std.proofs.Common.{◌≡◌, ◌∙◌, inl, inr, ℕ, zero, suc, ◌+◌, ◌<◌, ◌≤◌, ◌&&◌, Bool, true, false, true≢false, List, [], ◌∷◌, length, get_or, Option, Some, None, is_some, refl, sym, ap, subst, arith}
use Rattle.std.specs.Prelude.{slice_get, slice_set}
use Rattle.std.proofs.lemmas.Bool.{cases_lt}
use Rattle.std.proofs.lemmas.Option.{slice_get_past}
use Rattle.as2_hub.specs.Calls.{DeskCall, calls_at}
use Rattle.as2_hub.specs.Happenings.{Happenings}
use Rattle.as2_hub.specs.Places.{DiffersByReplies, PlaceStands, StandAfter, StandAmid, ChangesOnlyIfKept, holds_reply_in, without_reply}
use Rattle.as2_hub.specs.Rounds.{LeavesOthers}
use Rattle.as2_hub.specs.Talks.{Pends}
use Rattle.as2_hub.specs.declared.desk.Reply.{Reply}
use Rattle.as2_hub.specs.declared.talk.Talk.{Talk}
use Rattle.as2_hub.proofs.Standing.{placed, put_back}

-- ---- another reply alone

pub differs_set : (talks : List (Option Talk)) (at : ℕ) (v : Option Talk) → at < length talks → without_reply (Some v) ≡ without_reply (slice_get talks at)
    → DiffersByReplies talks (slice_set talks at v)
differs_set talks at v within here = placed talks at v (λ c o. without_reply o ≡ without_reply (slice_get talks c)) within here (λ c ne. refl)

pub differs_put_back : (talks : List (Option Talk)) (at : ℕ) (o : Option Talk) → at < length talks → o ≡ get_or talks at o
    → DiffersByReplies talks (slice_set talks at o)
differs_put_back talks at o within found c = ap (λ (l : List (Option Talk)). without_reply (slice_get l c)) (put_back talks at o within found)

pub differs_same : (talks : List (Option Talk)) → DiffersByReplies talks talks
differs_same talks c = refl

-- ---- as far as a round has ended

pub record EndedBelow (k : ℕ) (is_kept : Bool) (old now : List (Option Talk)) : Type 0 where
  pub below : (c : ℕ) → c < k → ChangesOnlyIfKept is_kept (slice_get old c) (slice_get now c)
  pub above : (c : ℕ) → k ≤ c → slice_get now c ≡ slice_get old c

pub ended_none : (is_kept : Bool) (talks : List (Option Talk)) → EndedBelow 0 is_kept talks talks
ended_none is_kept talks = record { below = λ c less. absurd (omega (arith, less)); above = λ c le. refl }

pub ended_more : (k : ℕ) (is_kept : Bool) (old now next : List (Option Talk)) → ChangesOnlyIfKept is_kept (slice_get now k) (slice_get next k)
    → ((c : ℕ) → ¬ (c ≡ k) → slice_get next c ≡ slice_get now c) → EndedBelow k is_kept old now → EndedBelow (k + 1) is_kept old next
ended_more k is_kept old now next here others it = record {
  below = λ c less. elim (cases_lt c k) as (λ x. ChangesOnlyIfKept is_kept (slice_get old c) (slice_get next c)) [
    | inl lt ↦ (λ off. others c (λ is. omega (arith, is, lt)) ∙ it.below c lt off)
    | inr ge ↦
        let at : k ≡ c = omega (arith, less, ge) in
        subst (λ (x : ℕ). ChangesOnlyIfKept is_kept (slice_get old x) (slice_get next x)) at
        (subst (λ (o : Option (Option Talk)). ChangesOnlyIfKept is_kept o (slice_get next k)) (it.above k (omega arith)) here)
  ];
  above = λ c le. others c (λ is. omega (arith, is, le)) ∙ it.above c (omega (arith, le));
}

pub ended_all : (k : ℕ) (is_kept : Bool) (old now : List (Option Talk)) → length old ≤ k → EndedBelow k is_kept old now
    → (c : ℕ) → ChangesOnlyIfKept is_kept (slice_get old c) (slice_get now c)
ended_all k is_kept old now all it c = elim (cases_lt c k) as (λ x. ChangesOnlyIfKept is_kept (slice_get old c) (slice_get now c)) [
  | inl lt ↦ it.below c lt
  | inr ge ↦
      let none = slice_get_past old c (omega (arith, all, ge)) in
      (λ off. it.above c ge ∙ none ∙ sym (ap without_reply none))
]

-- at a place
pub waits_here : (is_kept : Bool) (t new : Talk) (o o' : Option (Option Talk)) → o ≡ Some (Some t) → o' ≡ Some (Some new)
    → (is_kept ≡ false → new ≡ record t { reply = None }) → (t.reply ≡ None → new ≡ t) → ChangesOnlyIfKept is_kept o o'
waits_here is_kept t new o o' was is loses silent off =
    is ∙ ap (λ (x : Talk). Some (Some x)) (go is_kept refl (subst (λ (x : Option (Option Talk)). (is_kept && holds_reply_in x) ≡ false) was off))
    ∙ sym (ap without_reply was)
  where
    nothing : (r : Option Reply) → is_some r ≡ false → r ≡ None
    nothing None is = refl
    nothing (Some r) is = absurd (true≢false is)

    bare : t.reply ≡ None → t ≡ record t { reply = None }
    bare none = ap (λ (r : Option Reply). record t { reply = r }) none

    go : (b : Bool) → is_kept ≡ b → (b && is_some t.reply) ≡ false → new ≡ record t { reply = None }
    go false lost none = loses lost
    go true kept none = silent (nothing t.reply none) ∙ bare (nothing t.reply none)

pub waits_vacant : (is_kept : Bool) (o : Option (Option Talk)) → o ≡ Some None → ChangesOnlyIfKept is_kept o o
waits_vacant is_kept o is off = is ∙ sym (ap without_reply is)

-- ---- a whole round

-- between two rounds nobody holds a reply
bare_place : (c : ℕ) (h : Happenings) (o : Option (Option Talk)) → PlaceStands c h [] o → without_reply o ≡ o
bare_place c h None it = refl
bare_place c h (Some None) it = refl
bare_place c h (Some (Some t)) it = ap (λ (r : Option Reply). Some (Some (record t { reply = r }))) (sym it.pends)

-- .. nor does one for whom no call was made
silent_place : (c : ℕ) (h : Happenings) (calls : List DeskCall) (o : Option (Option Talk)) → calls_at c calls ≡ [] → PlaceStands c h calls o
    → holds_reply_in o ≡ false
silent_place c h calls None none it = refl
silent_place c h calls (Some None) none it = refl
silent_place c h calls (Some (Some t)) none it = ap is_some (subst (λ (l : List DeskCall). Pends l t) none it.pends)

same_lists : (xs ys : List (Option Talk)) → ((c : ℕ) → slice_get xs c ≡ slice_get ys c) → xs ≡ ys
same_lists [] [] each = refl
same_lists [] (y ∷ ys) each = absurd (none_some y (each zero))
  where
    none_some : (y : Option Talk) → None ≡ Some y → ⊥
    none_some y is = cc
same_lists (x ∷ xs) [] each = absurd (some_none x (each zero))
  where
    some_none : (x : Option Talk) → Some x ≡ None → ⊥
    some_none x is = cc
same_lists (x ∷ xs) (y ∷ ys) each = ap (λ (z : Option Talk). z ∷ xs) (inside x y (each zero))
    ∙ ap (λ (l : List (Option Talk)). y ∷ l) (same_lists xs ys (λ c. each (suc c)))
  where
    inside : (x y : Option Talk) → Some x ≡ Some y → x ≡ y
    inside x y is = cc

-- where a round is kept, the places without a call are as they were
pub left_silent : (h : Happenings) (calls : List DeskCall) (old mid new : List (Option Talk)) → StandAfter old h → StandAmid mid h calls
    → ((c : ℕ) → calls_at c calls ≡ [] → slice_get mid c ≡ slice_get old c) → ((c : ℕ) → ChangesOnlyIfKept true (slice_get mid c) (slice_get new c))
    → LeavesOthers true calls old new
unfolding StandAmid
left_silent h calls old mid new before amid others waits = λ c none.
    waits c (silent_place c h calls (slice_get mid c) none (amid c)) ∙ ap without_reply (others c none) ∙ bare_place c h (slice_get old c) (before c)

-- where it is lost, all places are
pub left_all : (h : Happenings) (calls : List DeskCall) (old mid new : List (Option Talk)) → StandAfter old h
    → DiffersByReplies old mid → ((c : ℕ) → ChangesOnlyIfKept false (slice_get mid c) (slice_get new c)) → LeavesOthers false calls old new
unfolding StandAmid
left_all h calls old mid new before differs waits =
    same_lists new old (λ c. waits c refl ∙ differs c ∙ bare_place c h (slice_get old c) (before c))

-- What a change at a place leaves of the bounds.
use Rattle.std.proofs.Common.{◌≡◌, ◌∙◌, ℕ, zero, suc, ◌+◌, ◌*◌, ◌-◌, ◌<◌, ◌≤◌, min, List, [], ◌∷◌, length, get_or, replicate, Option, Some, None, sum_by, refl, sym, ap, subst, arith}
use Rattle.std.specs.Prelude.{slice_get, slice_set}
use Rattle.std.proofs.lemmas.List.{length-replicate, length-set}
use Rattle.std.proofs.lemmas.List.Folds.{sum_by-replicate}
use Rattle.std.proofs.lemmas.List.Sums.{sum_by-cons, sum_by-set}
use Rattle.std.proofs.lemmas.Option.{get_or_from_slice_get}
use Rattle.as2_hub.specs.Bounded.{IsWithinBounds, KeepsBounds, HoldsNoMore, unanswered_in}
use Rattle.as2_hub.specs.Places.{place_unanswered, places, room_in, room_left}
use Rattle.as2_hub.specs.Talks.{talk_room, unanswered_of}
use Rattle.as2_hub.specs.declared.bounds.Bounds.{Bounds}
use Rattle.as2_hub.specs.declared.hub.Hub.{Hub}
use Rattle.as2_hub.specs.declared.talk.Talk.{Talk}
use Rattle.as2_hub.proofs.Standing.{placed, put_back, room_within}

-- ---- no more than before

pub less_same : (talks : List (Option Talk)) → HoldsNoMore talks talks
less_same talks = record { same_places = refl; unread = λ c. omega arith }

pub less_then : (a b c : List (Option Talk)) → HoldsNoMore a b → HoldsNoMore b c → HoldsNoMore a c
less_then a b c one two = record { same_places = two.same_places ∙ one.same_places; unread = λ k. omega (arith, one.unread k, two.unread k) }

-- one place is set, to nobody or to whom no more is unread
pub less_set : (talks : List (Option Talk)) (at : ℕ) (v : Option Talk) → at < length talks → place_unanswered v ≤ unanswered_in (slice_get talks at)
    → HoldsNoMore talks (slice_set talks at v)
less_set talks at v within le = record {
  same_places = length-set talks at v;
  unread = placed talks at v (λ c o. unanswered_in o ≤ unanswered_in (slice_get talks c)) within le (λ c ne. omega arith);
}

-- of a hub to another, whose bounds are the same
pub record Lessened (old new : Hub) : Type 0 where
  pub less : HoldsNoMore (places old) (places new)
  pub bounds : new.bounds ≡ old.bounds

pub lessened_same : (hub : Hub) → Lessened hub hub
lessened_same hub = record { less = less_same (places hub); bounds = refl }

pub lessened_then : (a b c : Hub) → Lessened a b → HoldsNoMore (places b) (places c) → c.bounds ≡ b.bounds → Lessened a c
lessened_then a b c one less same = record { less = less_then (places a) (places b) (places c) one.less less; bounds = same ∙ one.bounds }

-- what was found at a place is put back
pub less_put_back : (talks : List (Option Talk)) (at : ℕ) (o : Option Talk) → at < length talks → o ≡ get_or talks at o
    → HoldsNoMore talks (slice_set talks at o)
less_put_back talks at o within found = subst (λ (l : List (Option Talk)). HoldsNoMore talks l) (sym (put_back talks at o within found)) (less_same talks)

sum_less : (old new : List (Option Talk)) → ((c : ℕ) → unanswered_in (slice_get new c) ≤ unanswered_in (slice_get old c))
    → sum_by place_unanswered new ≤ sum_by place_unanswered old
sum_less old [] le = omega arith
sum_less [] (y ∷ new) le =
    let head : place_unanswered y ≤ 0 = le zero in
    omega (arith, head, sum_less [] new (λ c. le (suc c)), sum_by-cons place_unanswered y new)
sum_less (x ∷ old) (y ∷ new) le =
    let head : place_unanswered y ≤ place_unanswered x = le zero in
    omega (arith, head, sum_less old new (λ c. le (suc c)), sum_by-cons place_unanswered x old, sum_by-cons place_unanswered y new)

-- ---- the bounds

within_less : (old new : Hub) → new.bounds ≡ old.bounds → HoldsNoMore (places old) (places new) → IsWithinBounds old → IsWithinBounds new
within_less old new same less it =
    let one : new.bounds.bytes_of_one ≡ old.bounds.bytes_of_one = ap (λ (b : Bounds). b.bytes_of_one) same in
    let all : new.bounds.bytes_of_all ≡ old.bounds.bytes_of_all = ap (λ (b : Bounds). b.bytes_of_all) same in
    record {
      connections = less.same_places ∙ it.connections ∙ ap (λ (b : Bounds). b.connections) (sym same);
      of_one = λ c. omega (arith, one, less.unread c, it.of_one c);
      of_all = omega (arith, all, it.of_all, sum_less (places old) (places new) less.unread);
    }

-- so many bytes of a connection came, for which there was room
within_more : (old new : Hub) (at n : ℕ) (t next : Talk) → at < length (places old) → slice_get (places old) at ≡ Some (Some t) → new.bounds ≡ old.bounds
    → places new ≡ slice_set (places old) at (Some next) → unanswered_of next ≤ unanswered_of t + n → n ≤ room_in old (slice_get (places old) at) → 0 < n
    → IsWithinBounds old → IsWithinBounds new
within_more old new at n t next within is same sets more room some it =
    let talks = places old in
    let one : new.bounds.bytes_of_one ≡ old.bounds.bytes_of_one = ap (λ (b : Bounds). b.bytes_of_one) same in
    let all : new.bounds.bytes_of_all ≡ old.bounds.bytes_of_all = ap (λ (b : Bounds). b.bytes_of_all) same in
    let fits : unanswered_of t + n ≤ old.bounds.bytes_of_one = room_within old t n (slice_get (places old) at) is some room in
    let left : n ≤ min (talk_room old.bounds.bytes_of_one t) (room_left old) = subst (λ (o : Option (Option Talk)). n ≤ room_in old o) is room in
    let was : get_or (places old) at (Some t) ≡ Some t = get_or_from_slice_get (places old) at (Some t) (Some t) is in
    let before : place_unanswered (get_or (places old) at (Some t)) ≡ unanswered_of t = ap place_unanswered was in
    let sum = sum_by-set place_unanswered (places old) at (Some next) (Some t) within in
    let set : sum_by place_unanswered (places new) ≡ sum_by place_unanswered (slice_set (places old) at (Some next)) = ap (sum_by place_unanswered) sets in
    record {
      connections = ap length sets ∙ length-set (places old) at (Some next) ∙ it.connections ∙ ap (λ (b : Bounds). b.connections) (sym same);
      of_one = λ c.
          let here : unanswered_in (slice_get (slice_set (places old) at (Some next)) c) ≤ old.bounds.bytes_of_one =
          placed (places old) at (Some next) (λ k o. unanswered_in o ≤ old.bounds.bytes_of_one) within (omega (arith, more, fits)) (λ k ne. it.of_one k) c in
          let there : unanswered_in (slice_get (places new) c) ≡ unanswered_in (slice_get (slice_set (places old) at (Some next)) c) =
          ap (λ (l : List (Option Talk)). unanswered_in (slice_get l c)) sets in
          omega (arith, one, here, there);
      of_all = omega (arith, all, it.of_all, sum, set, before, more, left, some);
    }

pub bounded_same : (hub : Hub) → KeepsBounds hub hub
bounded_same hub = record { bounds = refl; within = λ it. it }

pub bounded_less : (old new : Hub) → new.bounds ≡ old.bounds → HoldsNoMore (places old) (places new) → KeepsBounds old new
bounded_less old new same less = record { bounds = same; within = within_less old new same less }

pub bounded_more : (old new : Hub) (at n : ℕ) (t next : Talk) → at < length (places old) → slice_get (places old) at ≡ Some (Some t) → new.bounds ≡ old.bounds
    → places new ≡ slice_set (places old) at (Some next) → unanswered_of next ≤ unanswered_of t + n → n ≤ room_in old (slice_get (places old) at) → 0 < n
    → KeepsBounds old new
bounded_more old new at n t next within is same sets more room some =
    record { bounds = same; within = within_more old new at n t next within is same sets more room some }

-- nobody is at any place
pub within_vacant : (hub : Hub) → places hub ≡ replicate hub.bounds.connections None → IsWithinBounds hub
within_vacant hub empty = record {
  connections = ap length empty ∙ length-replicate hub.bounds.connections None;
  of_one = λ c.
      let none : unanswered_in (slice_get (places hub) c) ≡ 0 =
      ap (λ (l : List (Option Talk)). unanswered_in (slice_get l c)) empty ∙ nothing hub.bounds.connections c in
      omega (arith, none);
  of_all =
      let none : sum_by place_unanswered (places hub) ≡ hub.bounds.connections * 0 =
      ap (sum_by place_unanswered) empty ∙ sum_by-replicate place_unanswered hub.bounds.connections None in
      omega (arith, none);
}
  where
    nothing : (n c : ℕ) → unanswered_in (slice_get (replicate n None) c) ≡ 0
    nothing zero c = refl
    nothing (suc n) zero = refl
    nothing (suc n) (suc c) = nothing n c

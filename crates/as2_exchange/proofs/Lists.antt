-- One more element of a list, and elements that are changed.
use Rattle.std.proofs.Common.{◌≡◌, Bool, true, false, List, [], ◌∷◌, ◌++◌, map, Some, None, refl}
use Rattle.std.specs.Prelude.{cond, fold}
use Rattle.std.specs.List.{AllByRecursion, IsDistinct, find}

pub all_push : {X : Type 0} (P : X → Type 0) (xs : List X) (x : X) → AllByRecursion P xs → P x → AllByRecursion P (xs ++ x ∷ [])
all_push P [] x h p = (p, h)
all_push P (y ∷ xs) x h p = (h.0, all_push P xs x h.1 p)

pub all_weaken : {X : Type 0} (P Q : X → Type 0) → ((x : X) → P x → Q x) → (xs : List X) → AllByRecursion P xs → AllByRecursion Q xs
all_weaken P Q f [] h = h
all_weaken P Q f (x ∷ xs) h = (f x h.0, all_weaken P Q f xs h.1)

pub distinct_push : {X : Type 0} (e : X → X → Bool) (xs : List X) (x : X) → IsDistinct e xs → AllByRecursion (λ y. e y x ≡ false) xs
    → IsDistinct e (xs ++ x ∷ [])
unfolding IsDistinct
distinct_push e [] x h p = (p, h)
distinct_push e (y ∷ xs) x h p = (all_push (λ z. e y z ≡ false) xs x h.0 p.0, distinct_push e xs x h.1 p.1)

pub map_last : {X Y : Type 0} (g : X → Y) (xs : List X) (x : X) → map g (xs ++ x ∷ []) ≡ map g xs ++ g x ∷ []
map_last g [] x = refl
map_last g (y ∷ xs) x = λ i. g y ∷ map_last g xs x i

-- a change that leaves what is looked at
pub map_kept : {X Y : Type 0} (g : X → Y) (f : X → X) → ((x : X) → g (f x) ≡ g x) → (xs : List X) → map g (map f xs) ≡ map g xs
map_kept g f kept [] = refl
map_kept g f kept (x ∷ xs) = λ i. kept x i ∷ map_kept g f kept xs i

pub all_map : {X : Type 0} (P : X → Type 0) (f : X → X) → ((x : X) → P x → P (f x)) → (xs : List X) → AllByRecursion P xs → AllByRecursion P (map f xs)
all_map P f kept [] h = h
all_map P f kept (x ∷ xs) h = (kept x h.0, all_map P f kept xs h.1)

-- what isn't found stands nowhere in the list
pub none_found : {X Y : Type 0} (g : X → Y) (test : Y → Bool) (xs : List X) → find (λ x. test (g x)) xs ≡ None → AllByRecursion (λ y. test y ≡ false) (map g xs)
none_found g test [] h = tt
none_found g test (x ∷ xs) h = by (test (g x)) refl h (none_found g test xs)
  where
    by : (b : Bool) → test (g x) ≡ b → cond b (Some x) (find (λ y. test (g y)) xs) ≡ None
        → (find (λ y. test (g y)) xs ≡ None → AllByRecursion (λ y. test y ≡ false) (map g xs)) → AllByRecursion (λ y. test y ≡ false) (map g (x ∷ xs))
    by true is none rest = absurd (cc)
    by false is none rest = (is, rest none)

pub fold_last : {X Y : Type 0} (f : Y → X → Y) (a : Y) (xs : List X) (x : X) → fold f a (xs ++ x ∷ []) ≡ f (fold f a xs) x
fold_last f a [] x = refl
fold_last f a (y ∷ xs) x = fold_last f (f a y) xs x

-- The one entry of a number.
use Rattle.std.proofs.Common.{◌≡◌, ℕ, ◌==◌, Bool, true, false, cond, List, [], ◌∷◌, map, Some, refl, sym, ap, ◌∙◌, subst, arith}
use Rattle.std.specs.Prelude.{if◌then◌else◌}
use Rattle.std.specs.List.{find, AllByRecursion, IsDistinct}
use Rattle.std.proofs.lemmas.Bool.Decides.{nat_tests}
use Rattle.as2_exchange.specs.State.{State, received_entry, change_received}
use Rattle.as2_exchange.specs.declared.inbox.InEntry.{InEntry}
use Rattle.as2_exchange.specs.Recording.{requeued_by_repeat}
use Rattle.as2_exchange.proofs.Finds.{all_found}
use Rattle.as2_exchange.proofs.Decisions.{number_is}
use Rattle.as2_exchange.proofs.Refusing.{left_as_is, untouched}
use Rattle.as2_exchange.specs.Recording.{requeued_receipt}
use Rattle.as2_posts.specs.Answers.{is_requeued}

same_number : (n : ℕ) → (n == n) ≡ true
same_number n = grind (arith, nat_tests)

-- an entry that is found is the one of its number
pub found_number : {X : Type 0} (number : X → ℕ) (p : X → Bool) (xs : List X) (e : X) → IsDistinct (λ a b. a == b) (map number xs) → find p xs ≡ Some e
    → find (λ x. number x == number e) xs ≡ Some e
unfolding IsDistinct
found_number number p [] e apart found = absurd cc
found_number {X} number p (x ∷ xs) e apart found = go (p x) found (found_number number p xs e apart.1)
  where
    this : (b : Bool) → b ≡ true → x ≡ e → cond b (Some x) (find (λ y. number y == number e) xs) ≡ Some e
    this true is same = ap Some same
    this false is same = absurd cc

    other : (b : Bool) → b ≡ false → find (λ y. number y == number e) xs ≡ Some e → cond b (Some x) (find (λ y. number y == number e) xs) ≡ Some e
    other true is there = absurd cc
    other false is there = there

    go : (b : Bool) → cond b (Some x) (find p xs) ≡ Some e → (find p xs ≡ Some e → find (λ y. number y == number e) xs ≡ Some e)
        → find (λ y. number y == number e) (x ∷ xs) ≡ Some e
    go true is rest =
        let same : x ≡ e = cc in
        this (number x == number e) (subst (λ (y : X). (number x == number y) ≡ true) same (same_number (number x))) same
    go false is rest = other (number x == number e) (all_found (λ y. (number x == y) ≡ false) number p xs e apart.0 is) (rest is)

alike_step : {X : Type 0} (number : X → ℕ) (f g : X → X) (n : ℕ) (d x : X) (xs : List X) (b : Bool) → (number x == n) ≡ b
    → AllByRecursion (λ k. (number x == k) ≡ false) (map number xs)
    → (find (λ y. number y == n) xs ≡ Some d → map (λ y. if number y == n then f y else y) xs ≡ map (λ y. if number y == n then g y else y) xs)
    → cond b (Some x) (find (λ y. number y == n) xs) ≡ Some d → f d ≡ g d
    → ((if b then f x else x) ∷ map (λ y. if number y == n then f y else y) xs) ≡ (if b then g x else x) ∷ map (λ y. if number y == n then g y else y) xs
alike_step number f g n d x xs true is apart rest found same =
    let this : x ≡ d = cc in
    let fixed : f x ≡ g x = subst (λ z. f z ≡ g z) (sym this) same in
    let others = subst (λ j. AllByRecursion (λ k. (j == k) ≡ false) (map number xs)) (number_is (number x) n is) apart in
    let left = untouched number f n xs others ∙ sym (untouched number g n xs others) in
    λ i. fixed i ∷ left i
alike_step number f g n d x xs false is apart rest found same = ap (λ ys. x ∷ ys) (rest found)

-- changes that do the same to the only element of a number
pub changes_alike : {X : Type 0} (number : X → ℕ) (f g : X → X) (n : ℕ) (d : X) (xs : List X) → IsDistinct (λ a b. a == b) (map number xs)
    → find (λ x. number x == n) xs ≡ Some d → f d ≡ g d
    → map (λ x. if number x == n then f x else x) xs ≡ map (λ x. if number x == n then g x else x) xs
unfolding IsDistinct
changes_alike number f g n d [] apart found same = refl
changes_alike number f g n d (x ∷ xs) apart found same =
    alike_step number f g n d x xs (number x == n) refl apart.0 (λ there. changes_alike number f g n d xs apart.1 there same) found same

again : (m : ℕ) (e : InEntry) → is_requeued e ≡ true → requeued_receipt m e ≡ requeued_by_repeat m e
again m e h = rw h refl

not_again : (m : ℕ) (e : InEntry) → is_requeued e ≡ false → requeued_by_repeat m e ≡ e
not_again m e h = rw h refl

-- a receipt that a repeat queues again
pub sent_anew : (s : State) (m : ℕ) (e : InEntry) → IsDistinct (λ a b. a == b) (map (λ (x : InEntry). x.number) s.inbox) → received_entry s e.number ≡ Some e
    → is_requeued e ≡ true
    → change_received s e.number (requeued_receipt m) ≡ change_received s e.number (requeued_by_repeat m)
sent_anew s m e apart found is =
    ap (λ (es : List InEntry). record s { inbox = es })
    (changes_alike (λ (x : InEntry). x.number) (requeued_receipt m) (requeued_by_repeat m) e.number e s.inbox apart found (again m e is))

-- a receipt that it leaves
pub left_alone : (s : State) (m : ℕ) (e : InEntry) → IsDistinct (λ a b. a == b) (map (λ (x : InEntry). x.number) s.inbox) → received_entry s e.number ≡ Some e
    → is_requeued e ≡ false → change_received s e.number (requeued_by_repeat m) ≡ s
left_alone s m e apart found not =
    ap (λ (es : List InEntry). record s { inbox = es })
    (left_as_is (λ (x : InEntry). x.number) (requeued_by_repeat m) e.number e s.inbox apart found (not_again m e not))

-- The least of numbers.
use Rattle.std.proofs.Common.{◌≡◌, ℕ, ◌≤◌, Bool, true, false, ◌||◌, List, [], ◌∷◌, Option, Some, None, refl, sym, subst, arith}
use Rattle.std.specs.Prelude.{◌==◌, nat_le, if◌then◌else◌}
use Rattle.std.specs.List.{AllByRecursion, list_any}
use Rattle.std.proofs.lemmas.Bool.Decides.{nat_tests}
use Rattle.as2_exchange.specs.Due.{IsLeast, IsNext, least, smaller, next, next_of, due_receipts, due_documents}
use Rattle.as2_exchange.specs.State.{State}
use Rattle.as2_exchange.proofs.Decisions.{same_number}
use Rattle.as2_exchange.proofs.Lists.{all_weaken}

first_counts : (n : ℕ) (b : Bool) → ((n == n) || b) ≡ true
first_counts n b = rw same_number refl

behind_counts : (a b : Bool) → b ≡ true → (a || b) ≡ true
behind_counts true b h = refl
behind_counts false b h = h

at_most : (n k : ℕ) → nat_le n k ≡ true → n ≤ k
at_most n k h = grind (arith, nat_tests)

more_than : (n k : ℕ) → nat_le n k ≡ false → k ≤ n
more_than n k h = grind (arith, nat_tests)

through : (n k : ℕ) → n ≤ k → (x : ℕ) → k ≤ x → n ≤ x
through n k h x g = omega arith

of_two : (n k : ℕ) (ns : List ℕ) (b : Bool) → nat_le n k ≡ b → IsLeast ns (Some k) → IsLeast (n ∷ ns) (Some (if b then n else k))
of_two n k ns true is h =
    (first_counts n (list_any (λ x. x == n) ns), (omega arith, all_weaken (λ x. k ≤ x) (λ x. n ≤ x) (through n k (at_most n k is)) ns h.1))
of_two n k ns false is h = (behind_counts (n == k) (list_any (λ x. x == k) ns) h.0, (more_than n k is, h.1))

one_more : (n : ℕ) (ns : List ℕ) (o : Option ℕ) → IsLeast ns o → IsLeast (n ∷ ns) (Some (smaller n o))
one_more n ns None h = (first_counts n (list_any (λ x. x == n) ns), (omega arith, subst (AllByRecursion (λ k. n ≤ k)) (sym h) tt))
one_more n ns (Some k) h = of_two n k ns (nat_le n k) refl h

least_is : (ns : List ℕ) → IsLeast ns (least ns)
least_is [] = refl
least_is (n ∷ ns) = one_more n ns (least ns) (least_is ns)

next_by : (s : State) (m : ℕ) (r d : Option ℕ) → IsLeast (due_receipts s m) r → IsLeast (due_documents s m) d → IsNext s m (next_of r d)
next_by s m (Some n) d h g = h
next_by s m None (Some n) h g = (h, g)
next_by s m None None h g = (h, g)

pub next_is : (s : State) (m : ℕ) → IsNext s m (next s m)
next_is s m = next_by s m (least (due_receipts s m)) (least (due_documents s m)) (least_is (due_receipts s m)) (least_is (due_documents s m))

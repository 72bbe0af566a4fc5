-- In every state of a run, its invariants hold.
use Rattle.std.proofs.Common.{◌≡◌, ℕ, ◌+◌, ◌<◌, ◌≤◌, Bool, true, false, List, [], ◌∷◌, ◌++◌, map, None, refl, sym, ap, ◌∙◌, subst, arith}
use Rattle.std.specs.Prelude.{nat_lt, ◌==◌}
use Rattle.std.specs.List.{AllByRecursion, IsDistinct, find}
use Rattle.std.specs.Str.{bytes_eq}
use Rattle.std.proofs.lemmas.Bool.{false≢true}
use Rattle.std.proofs.lemmas.Bool.Decides.{nat_tests}
use Rattle.std.proofs.lemmas.Slice.Eq.{bytes_eq-Decides}
use Rattle.as2_exchange.specs.Agreement.{Agreements}
use Rattle.as2_exchange.specs.Readings.{value_of, out_id}
use Rattle.as2_exchange.specs.State.{Posted, InEntry, OutEntry, end_of_numbers, same_key, is_settled}
use Rattle.as2_exchange.specs.Invariants.{IsCounter, AreNumbers, IsRecorded, IsInbox, is_by_receipt, IsEntry, IsOutbox}
use Rattle.as2_exchange.proofs.Identifiers.{out_id-injective}
use Rattle.as2_exchange.proofs.Documents.{KeepsNames}
use Rattle.as2_exchange.proofs.Lists.{all_push, all_weaken, all_map, distinct_push, map_last, map_kept, none_found}

-- ---- numbers

below_more : (n x : ℕ) → x < n → x < n + 1
below_more n x h = omega arith

other_number : (n x : ℕ) → x < n → (x == n) ≡ false
other_number n x h = grind (arith, nat_tests)

no_greater : (n x : ℕ) → x < n → nat_lt n x ≡ false
no_greater n x h = grind (arith, nat_tests)

pub numbers_push : (n : ℕ) (ns : List ℕ) → AreNumbers n ns → AreNumbers (n + 1) (ns ++ n ∷ [])
numbers_push n ns h = record {
  below = all_push (λ x. x < n + 1) ns n (all_weaken (λ x. x < n) (λ x. x < n + 1) (below_more n) ns h.below) (omega arith);
  distinct = distinct_push (λ a b. a == b) ns n h.distinct (all_weaken (λ x. x < n) (λ x. (x == n) ≡ false) (other_number n) ns h.below);
  in_order = distinct_push (λ a b. nat_lt b a) ns n h.in_order (all_weaken (λ x. x < n) (λ x. nat_lt n x ≡ false) (no_greater n) ns h.below);
}

counted : (n : ℕ) → n < end_of_numbers → IsCounter n → IsCounter (n + 1)
counted n small h = record { least = omega (arith, h.least); most = omega arith }

-- ---- the inbox

pub inbox_push : (n : ℕ) (es : List InEntry) (e : InEntry) → n < end_of_numbers → e.number ≡ n → IsRecorded e.posted
    → find (λ (x : InEntry). same_key x.posted e.posted) es ≡ None → IsInbox n es → IsInbox (n + 1) (es ++ e ∷ [])
inbox_push n es e small num good new h = record {
  counter = counted n small h.counter;
  numbers = subst (AreNumbers (n + 1))
      (sym (map_last (λ (x : InEntry). x.number) es e ∙ ap (λ k. map (λ (x : InEntry). x.number) es ++ k ∷ []) num))
      (numbers_push n (map (λ (x : InEntry). x.number) es) h.numbers);
  keys = subst (IsDistinct same_key) (sym (map_last (λ (x : InEntry). x.posted) es e))
      (distinct_push same_key (map (λ (x : InEntry). x.posted) es) e.posted h.keys
      (none_found (λ (x : InEntry). x.posted) (λ (p : Posted). same_key p e.posted) es new));
  recorded = subst (AllByRecursion IsRecorded) (sym (map_last (λ (x : InEntry). x.posted) es e))
      (all_push IsRecorded (map (λ (x : InEntry). x.posted) es) e.posted h.recorded good);
}

-- a change that leaves number and document
pub record KeepsLasting (f : InEntry → InEntry) : Type 0 where
  pub number : (e : InEntry) → (f e).number ≡ e.number
  pub posted : (e : InEntry) → (f e).posted ≡ e.posted

pub inbox_map : (n : ℕ) (es : List InEntry) (f : InEntry → InEntry) → KeepsLasting f → IsInbox n es → IsInbox n (map f es)
inbox_map n es f kept h = record {
  counter = h.counter;
  numbers = subst (AreNumbers n) (sym (map_kept (λ (x : InEntry). x.number) f kept.number es)) h.numbers;
  keys = subst (IsDistinct same_key) (sym (map_kept (λ (x : InEntry). x.posted) f kept.posted es)) h.keys;
  recorded = subst (AllByRecursion IsRecorded) (sym (map_kept (λ (x : InEntry). x.posted) f kept.posted es)) h.recorded;
}

-- ---- the outbox

-- the identifiers of these documents have other values than that of a number that is still to be given
other_ids : (A : Agreements) (n : ℕ) → n < end_of_numbers → (ds : List OutEntry) → AllByRecursion (λ (d : OutEntry). d.id ≡ out_id A d.number) ds
    → AllByRecursion (λ k. k < n) (map (λ (d : OutEntry). d.number) ds)
    → AllByRecursion (λ value. bytes_eq value (value_of (out_id A n)) ≡ false) (map (λ (d : OutEntry). value_of d.id) ds)
other_ids A n small [] named below = tt
other_ids A n small (d ∷ ds) named below = (by (bytes_eq (value_of d.id) (value_of (out_id A n))) refl, other_ids A n small ds named.1 below.1)
  where
    by : (b : Bool) → bytes_eq (value_of d.id) (value_of (out_id A n)) ≡ b → b ≡ false
    by false is = refl
    by true is =
        let one : value_of d.id ≡ value_of (out_id A n) = (bytes_eq-Decides (value_of d.id) (value_of (out_id A n))).0 is in
        let same : d.number ≡ n = out_id-injective A d.number n (omega (arith, below.0)) small (sym (ap value_of named.0) ∙ one) in
        absurd (omega (arith, below.0))

pub outbox_push : (A : Agreements) (n : ℕ) (ds : List OutEntry) (d : OutEntry) → n < end_of_numbers → d.number ≡ n → d.id ≡ out_id A n → IsEntry d
    → IsOutbox A n ds → IsOutbox A (n + 1) (ds ++ d ∷ [])
outbox_push A n ds d small num id good h = record {
  counter = counted n small h.counter;
  numbers = subst (AreNumbers (n + 1))
      (sym (map_last (λ (x : OutEntry). x.number) ds d ∙ ap (λ k. map (λ (x : OutEntry). x.number) ds ++ k ∷ []) num))
      (numbers_push n (map (λ (x : OutEntry). x.number) ds) h.numbers);
  named = all_push (λ (x : OutEntry). x.id ≡ out_id A x.number) ds d h.named (id ∙ ap (out_id A) (sym num));
  identifiers = subst (IsDistinct bytes_eq)
      (sym (map_last (λ (x : OutEntry). value_of x.id) ds d ∙ ap (λ k. map (λ (x : OutEntry). value_of x.id) ds ++ value_of k ∷ []) id))
      (distinct_push bytes_eq (map (λ (x : OutEntry). value_of x.id) ds) (value_of (out_id A n)) h.identifiers
      (other_ids A n small ds h.named h.numbers.below));
  entries = all_push IsEntry ds d h.entries good;
}

-- a change that leaves number and identifier, and an entry an entry
pub record KeepsEntries (f : OutEntry → OutEntry) : Type 0 where
  pub names : KeepsNames f
  pub entry : (d : OutEntry) → IsEntry d → IsEntry (f d)

pub outbox_map : (A : Agreements) (n : ℕ) (ds : List OutEntry) (f : OutEntry → OutEntry) → KeepsEntries f → IsOutbox A n ds → IsOutbox A n (map f ds)
outbox_map A n ds f kept h = record {
  counter = h.counter;
  numbers = subst (AreNumbers n) (sym (map_kept (λ (x : OutEntry). x.number) f kept.names.number ds)) h.numbers;
  named = all_map (λ (x : OutEntry). x.id ≡ out_id A x.number) f (λ x is. kept.names.id x ∙ is ∙ ap (out_id A) (sym (kept.names.number x))) ds h.named;
  identifiers = subst (IsDistinct bytes_eq) (sym (map_kept (λ (x : OutEntry). value_of x.id) f (λ x. ap value_of (kept.names.id x)) ds)) h.identifiers;
  entries = all_map IsEntry f kept.entry ds h.entries;
}

-- ---- entries

-- what a receipt says is a detail that a receipt alone gives
pub unsettled_entry : (d : OutEntry) → is_settled d ≡ false → is_by_receipt d.detail ≡ false → (1 ≤ d.tries → d.begun ≡ true) → IsEntry d
unsettled_entry d none by tried = record { evidence = none ∙ sym by; at_rest = λ h. absurd (false≢true (sym none ∙ h)); tried = tried }

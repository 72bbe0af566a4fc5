-- A document that a statement found, and whose evidence could be put in, is one that no receipt has settled.
use Rattle.std.proofs.Common.{◌≡◌, ◌≢◌, ℕ, ◌==◌, ◌||◌, ◌&&◌, not, List, [], ◌∷◌, length, filter, find, Option, option_map, Some, None, is_some, Bool, true, false, cond, refl, ap, ◌∙◌, pos, arith}
use Rattle.std.specs.List.{cons_option}
use Rattle.std.specs.Ordering.{is_eq}
use Rattle.std.proofs.lemmas.Int.{ints}
use Rattle.std.proofs.lemmas.Bool.Decides.{nat_tests}
use Rattle.sqlite.specs.declared.types.Value.TheVariants.{Int}
use Rattle.sqlite.specs.Order.{value_cmp}
use Rattle.sqlite.specs.Edit.{are_fresh, is_taken}
use Rattle.sqlite_value.proofs.OrderLemmas.{value_cmp-Int}
use Rattle.as2_exchange.specs.State.{is_settled}
use Rattle.as2_exchange.specs.declared.outbox.Evidence.{Evidence}
use Rattle.as2_exchange.specs.declared.outbox.OutEntry.{OutEntry}
use Rattle.as2_rows.specs.Rows.{evidence_row}
use Rattle.as2_store.specs.Stands.{evidence_rows}

pub some_found : {X : Type 0} (p : X → Bool) (xs : List X) → length (filter p xs) ≢ 0 → (x : X) × (find p xs ≡ Some x)
some_found p [] some = absurd (some refl)
some_found p (x ∷ xs) some = go (p x) some (some_found p xs)
  where
    go : (t : Bool) → length (cond t (x ∷ filter p xs) (filter p xs)) ≢ 0 → (length (filter p xs) ≢ 0 → (y : _) × (find p xs ≡ Some y)) → (y : _)
        × (cond t (Some x) (find p xs) ≡ Some y)
    go true some later = (x, refl)
    go false some later = later some

taken : (n : ℕ) (e : Evidence) (ds : List OutEntry) (d : OutEntry) → find (λ (x : OutEntry). x.number == n) ds ≡ Some d → is_settled d ≡ true
    → is_taken (evidence_rows ds) (evidence_row n e) ≡ true
taken n e [] d found has = absurd cc
taken n e (x ∷ ds) d found has = go (x.number == n) refl found (λ later. taken n e ds d later has)
  where
    itself : (m n : ℕ) → m ≡ n → is_eq (value_cmp (Int (pos m)) (Int (pos n))) ≡ true
    itself m n same = ap is_eq (value_cmp-Int (pos m) (pos n)) ∙ (grind (arith, ints, same))

    own : (o : Option Evidence) → is_some o ≡ true → x.number ≡ n
        → is_taken (cons_option (option_map (evidence_row x.number) o) (evidence_rows ds)) (evidence_row n e) ≡ true
    own None has here = absurd cc
    own (Some r) has here = ap (λ t. t || is_taken (evidence_rows ds) (evidence_row n e)) (itself x.number n here)

    behind : (o : Option Evidence) → is_taken (evidence_rows ds) (evidence_row n e) ≡ true
        → is_taken (cons_option (option_map (evidence_row x.number) o) (evidence_rows ds)) (evidence_row n e) ≡ true
    behind None rest = rest
    behind (Some r) rest = either (is_eq (value_cmp (Int (pos x.number)) (Int (pos n)))) _ rest
      where
        either : (a b : Bool) → b ≡ true → (a || b) ≡ true
        either true b is = refl
        either false b is = is

    go : (t : Bool) → (x.number == n) ≡ t → cond t (Some x) (find (λ (y : OutEntry). y.number == n) ds) ≡ Some d
        → (find (λ (y : OutEntry). y.number == n) ds ≡ Some d → is_taken (evidence_rows ds) (evidence_row n e) ≡ true)
        → is_taken (evidence_rows (x ∷ ds)) (evidence_row n e) ≡ true
    go true is here later = let same : x ≡ d = cc in let number : x.number ≡ n = grind (arith, nat_tests) in own x.evidence (ap is_settled same ∙ has) number
    go false is here later = behind x.evidence (later here)

pub fresh_unsettled : (n : ℕ) (e : Evidence) (ds : List OutEntry) (d : OutEntry) → find (λ (x : OutEntry). x.number == n) ds ≡ Some d
    → are_fresh (evidence_rows ds) (evidence_row n e ∷ []) ≡ true → is_settled d ≡ false
fresh_unsettled n e ds d found fresh = go (is_settled d) (taken n e ds d found) fresh
  where
    go : (t : Bool) → (t ≡ true → is_taken (evidence_rows ds) (evidence_row n e) ≡ true)
        → (not (is_taken (evidence_rows ds) (evidence_row n e)) && true) ≡ true → t ≡ false
    go true is fresh = absurd (let same = ap (λ b. not b && true) (is refl) in cc)
    go false is fresh = refl

-- No phrase stands with what isn't a status code.
use Rattle.std.proofs.Common.{rules, ◌≡◌, ℕ, Option, List, None, true, if◌then◌else◌, ◌==◌, nat_lt, nat_le, ◌&&◌, arith, inl, inr}
use Rattle.std.proofs.lemmas.Bool.{cases_Bool, eqb-true, and_parts, ltb-true, leb-true}
use Rattle.http.specs.StatusCode.{IsStatusCode, reason_phrase}

past : (n k : ℕ) (p rest : Option (List ℕ)) → (IsStatusCode n → ⊥) → (nat_le 100 k && nat_lt k 1000) ≡ true → rest ≡ None → (if n == k then p else rest) ≡ None
past n k p rest other code e =
    elim (cases_Bool (n == k)) [
      | inl t ↦
          let same : n ≡ k = eqb-true n k t in
          let parts = and_parts (nat_le 100 k) (nat_lt k 1000) code in
          absurd (other (omega (arith, same, leb-true 100 k parts.0), omega (arith, same, ltb-true k 1000 parts.1)))
      | inr f ↦ rw f e
    ]

pub no_phrase : (n : ℕ) → (IsStatusCode n → ⊥) → reason_phrase n ≡ None
no_phrase n other = search (past, rules)

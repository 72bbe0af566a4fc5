-- How a scan goes on at each byte.
use Rattle.std.proofs.Common.{◌≡◌, ℕ, ◌+◌, ◌<◌, ◌≤◌, Bool, true, false, eqb, List, [], ◌∷◌, ◌++◌, length, take, Result, Ok, Err, refl, sym, ap, ◌∙◌, append_assoc, arith, inl, inr}
use Rattle.std.proofs.lemmas.Bool.{cases_lt, ne_eqb}
use Rattle.std.proofs.lemmas.Bool.Decides.{nat_tests}
use Rattle.std.proofs.lemmas.List.{append-nil, take_all, take_at, take-append-le, length-take, length_push}
use Rattle.std.proofs.lemmas.List.Folds.{list_all-append}
use Rattle.as2_names.specs.Ascii.{quote, backslash, is_printable}
use Rattle.as2_names.specs.Names.{units, with_front, is_escaped_mark, limited_name, limited_units, IsName}
use Rattle.as2_names.specs.Scan.{Scans}

pub take_push : (n : ℕ) (met : List ℕ) (b : ℕ) → take n (take n met ++ b ∷ []) ≡ take n (met ++ b ∷ [])
take_push n met b =
    elim (cases_lt (length met) n) [
      | inl lt ↦ rw (take_all n met (omega arith)) refl
      | inr le ↦ rw (take-append-le n met (b ∷ []) le, take_at (take n met) (b ∷ []) n (omega (arith, length-take n met))) refl
    ]

pub front_push : {X E : Type 0} → (met : List X) (b : X) (r : Result (List X) E) → with_front (met ++ b ∷ []) r ≡ with_front met (with_front (b ∷ []) r)
front_push met b (Ok more) = ap Ok (append_assoc met (b ∷ []) more)
front_push met b (Err e) = refl

pub scans_unit : (text items next : List ℕ) (count : ℕ) (escaping : Bool) (b : ℕ) (rest : List ℕ) → Scans text items count escaping (b ∷ rest)
    → units escaping (b ∷ rest) ≡ with_front (b ∷ []) (units false rest) → is_printable b ≡ true → next ≡ take 128 (items ++ b ∷ [])
    → Scans text next (count + 1) false rest
scans_unit text items next count escaping b rest s step printable e = record {
  met = s.met ++ b ∷ [];
  first = e ∙ ap (λ (x : List ℕ). take 128 (x ++ b ∷ [])) s.first ∙ take_push 128 s.met b;
  all = rw (length_push s.met b, s.all) refl;
  printable = rw (list_all-append is_printable s.met (b ∷ []), s.printable, printable) refl;
  whole = front_push s.met b (units false rest) ∙ ap (with_front s.met) (sym step) ∙ s.whole;
}

pub special_printable : (b : ℕ) → is_escaped_mark b ≡ true → is_printable b ≡ true
special_printable b h = grind (arith, nat_tests)

pub step_escaped : (escaping : Bool) (b : ℕ) (rest : List ℕ) → escaping ≡ true → is_escaped_mark b ≡ true
    → units escaping (b ∷ rest) ≡ with_front (b ∷ []) (units false rest)
step_escaped escaping b rest e s = rw (e, s) refl

pub step_printable : (escaping : Bool) (b : ℕ) (rest : List ℕ) → escaping ≡ false → (b ≡ quote → ⊥) → (b ≡ backslash → ⊥) → is_printable b ≡ true
    → units escaping (b ∷ rest) ≡ with_front (b ∷ []) (units false rest)
step_printable escaping b rest e no_quote no_slash p =
    let q : eqb b quote ≡ false = ne_eqb b quote no_quote in
    let s : eqb b backslash ≡ false = ne_eqb b backslash no_slash in
    rw (e, q, s, p) refl

-- ---- behind the closing quote

pub met_all : (text items : List ℕ) (count : ℕ) (s : Scans text items count false (quote ∷ [])) → count ≤ 128 → items ≡ s.met
met_all text items count s le = s.first ∙ take_all 128 s.met (omega (arith, s.all))

pub scanned_name : (text items : List ℕ) (count : ℕ) → Scans text items count false (quote ∷ []) → 0 < count → count ≤ 128 → IsName items
scanned_name text items count s lt le =
    rw (met_all text items count s le) (record { some = omega (arith, s.all); short = omega (arith, s.all); printable = s.printable })

pub finished : (text items : List ℕ) (count : ℕ) (s : Scans text items count false (quote ∷ [])) → limited_name (units false text) ≡ limited_units s.met
finished text items count s = ap limited_name (sym s.whole) ∙ ap limited_units (append-nil s.met)

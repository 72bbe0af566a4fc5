-- An entry found by its number: those before it have lower numbers, those behind it greater ones.
use Rattle.std.proofs.Common.{◌≡◌, ◌≢◌, ℕ, ◌<◌, ◌==◌, List, [], ◌∷◌, ◌++◌, map, length, Bool, true, false, cond, refl, ap, ap₂, subst, ◌∙◌, arith}
use Rattle.std.proofs.lemmas.List.{map-append}
use Rattle.std.specs.List.{AllByRecursion, filter}
use Rattle.std.proofs.lemmas.Bool.Decides.{nat_tests}
use Rattle.sqlite.specs.Tree.{IsAscending}
use Rattle.as2_exchange.specs.declared.inbox.InEntry.{InEntry}
use Rattle.as2_exchange.specs.declared.outbox.OutEntry.{OutEntry}

pub at_one : {E : Type 0} (P : E → Type 0) (front : List E) (one : E) (back : List E) → AllByRecursion P (front ++ one ∷ back) → P one
at_one P [] one back all = all.0
at_one P (e ∷ front) one back all = at_one P front one back all.1

pub behind_one : {E : Type 0} (P : E → Type 0) (front : List E) (one : E) (back : List E) → AllByRecursion P (front ++ one ∷ back) → AllByRecursion P back
behind_one P [] one back all = all.1
behind_one P (e ∷ front) one back all = behind_one P front one back all.1

abbrev pub in_number : InEntry → ℕ
in_number e = e.number

abbrev pub out_number : OutEntry → ℕ
out_number d = d.number

-- an entry found by its number
module _ {E : Type 0} (number : E → ℕ) where
  abbrev pub IsBelow : E → E → Type 0
  IsBelow x y = number x < number y

  pub record Split (n : ℕ) (es : List E) : Type 0 where
    pub front : List E
    pub one : E
    pub back : List E
    pub whole : es ≡ front ++ one ∷ back
    pub here : number one ≡ n
    pub low : AllByRecursion (λ (e : E). number e < n) front
    pub high : AllByRecursion (λ (e : E). n < number e) back

  pub split : (n : ℕ) (es : List E) → IsAscending IsBelow es → length (filter (λ (e : E). number e == n) es) ≢ 0 → Split n es
  split n [] up some = absurd (some refl)
  split n (e ∷ es) up some = go (number e == n) refl some (λ more. split n es up.1 more)
    where
      go : (t : Bool) → (number e == n) ≡ t → length (cond t (e ∷ filter (λ (x : E). number x == n) es) (filter (λ (x : E). number x == n) es)) ≢ 0
          → (length (filter (λ (x : E). number x == n) es) ≢ 0 → Split n es) → Split n (e ∷ es)
      go true is some later =
          let here : number e ≡ n = grind (arith, nat_tests) in
          record {
            front = [];
            one = e;
            back = es;
            whole = refl;
            here = here;
            low = tt;
            high = subst (λ k. AllByRecursion (λ (x : E). k < number x) es) here up.0;
          }
      go false is some later =
          let it = later some in
          let less = at_one (λ x. number e < number x) it.front it.one it.back (subst (AllByRecursion (λ (x : E). number e < number x)) it.whole up.0) in
          record {
            front = e ∷ it.front;
            one = it.one;
            back = it.back;
            whole = ap (λ l. e ∷ l) it.whole;
            here = it.here;
            low = (omega (arith, less, it.here), it.low);
            high = it.high;
          }

  -- ---- a change of the entry of one number

  abbrev pub changed : ℕ → (E → E) → List E → List E
  changed n change es = map (λ (e : E). cond (number e == n) (change e) e) es

  pub changed_none : (n : ℕ) (change : E → E) (es : List E) → AllByRecursion (λ (e : E). (number e == n) ≡ false) es → changed n change es ≡ es
  changed_none n change [] other = refl
  changed_none n change (e ∷ es) other = ap₂ ◌∷◌ (ap (λ b. cond b (change e) e) other.0) (changed_none n change es other.1)

  other_below : (n : ℕ) (es : List E) → AllByRecursion (λ (e : E). number e < n) es → AllByRecursion (λ (e : E). (number e == n) ≡ false) es
  other_below n [] all = tt
  other_below n (e ∷ es) all = (one (number e) all.0, other_below n es all.1)
    where
      one : (m : ℕ) → m < n → (m == n) ≡ false
      one m less = grind (arith, nat_tests)

  other_above : (n : ℕ) (es : List E) → AllByRecursion (λ (e : E). n < number e) es → AllByRecursion (λ (e : E). (number e == n) ≡ false) es
  other_above n [] all = tt
  other_above n (e ∷ es) all = (one (number e) all.0, other_above n es all.1)
    where
      one : (m : ℕ) → n < m → (m == n) ≡ false
      one m less = grind (arith, nat_tests)

  itself : (m n : ℕ) → m ≡ n → (m == n) ≡ true
  itself m n same = grind (arith, nat_tests)

  pub changed_split : (n : ℕ) (change : E → E) (es : List E) (it : Split n es) → changed n change es ≡ it.front ++ change it.one ∷ it.back
  changed_split n change es it =
      ap (changed n change) it.whole
      ∙ map-append (λ (e : E). cond (number e == n) (change e) e) it.front (it.one ∷ it.back)
      ∙ ap₂ ◌++◌ (changed_none n change it.front (other_below n it.front it.low))
      (ap₂ ◌∷◌ (ap (λ b. cond b (change it.one) it.one) (itself (number it.one) n it.here)) (changed_none n change it.back (other_above n it.back it.high)))

  -- where none has the number, none is changed
  pub none_numbered : (n : ℕ) (es : List E) → length (filter (λ (e : E). number e == n) es) ≡ 0 → AllByRecursion (λ (e : E). (number e == n) ≡ false) es
  none_numbered n [] none = tt
  none_numbered n (e ∷ es) none = go (number e == n) refl none (λ less. none_numbered n es less)
    where
      go : (t : Bool) → (number e == n) ≡ t → length (cond t (e ∷ filter (λ (x : E). number x == n) es) (filter (λ (x : E). number x == n) es)) ≡ 0
          → (length (filter (λ (x : E). number x == n) es) ≡ 0 → AllByRecursion (λ (x : E). (number x == n) ≡ false) es)
          → ((number e == n) ≡ false) × AllByRecursion (λ (x : E). (number x == n) ≡ false) es
      go true is none later = absurd (omega (arith, none))
      go false is none later = (is, later none)

-- The entries of an array are read one by one exactly where each says its member, and no name is taken twice.
use Rattle.std.proofs.Common.{◌≡◌, ℕ, suc, false, List, [], ◌∷◌, ◌++◌, map, length, Ok, refl, sym, ap, subst, ◌∙◌, append_assoc}
use Rattle.std.specs.List.{list_any, AllByRecursion, IsDistinct}
use Rattle.std.specs.Str.{bytes_eq}
use Rattle.std.proofs.lemmas.List.{append-nil, map-append}
use Rattle.std.proofs.lemmas.Cmp.{nat_list_eq_equiv}
use Rattle.std.proofs.lemmas.Map.Keys.{IsDistinct-push, IsDistinct-head, IsDistinct-tail}
use Rattle.toml.specs.Data.{Data, table, Items, no_items, item, Members}
use Rattle.as2_agreement.specs.Agreements.{SayEach}
use Rattle.as2_agreement.specs.Reading.{OrFirstFault, items_len, each}
use Rattle.as2_agreement.proofs.Keyed.{bound}

-- ---- names that are distinct

apart : (x y : List ℕ) (front back : List (List ℕ)) → AllByRecursion (λ z. bytes_eq x z ≡ false) (front ++ y ∷ back) → bytes_eq x y ≡ false
apart x y [] back h = h.0
apart x y (z ∷ front) back h = apart x y front back h.1

-- a name that stands among distinct ones isn't among those before it
pub absent_before : (front back : List (List ℕ)) (y : List ℕ) → IsDistinct bytes_eq (front ++ y ∷ back) → list_any (bytes_eq y) front ≡ false
absent_before [] back y d = refl
absent_before (x ∷ front) back y d =
    let other : bytes_eq y x ≡ false = nat_list_eq_equiv.symm y x ∙ apart x y front back (IsDistinct-head bytes_eq x (front ++ y ∷ back) d) in
    rw other (absent_before front back y (IsDistinct-tail bytes_eq x (front ++ y ∷ back) d))

module _ {X : Type 0} (one : List X → Data → OrFirstFault X) (Says : Members → X → Type 0) (Good : X → Type 0) (name : X → List ℕ) (base : List (List ℕ)) where
  -- the names that are taken before the next
  abbrev pub taken : List X → List (List ℕ)
  taken before = base ++ map name before

  taken_next : (before : List X) (x : X) (others : List X) → taken (before ++ x ∷ others) ≡ taken before ++ name x ∷ map name others
  taken_next before x others =
      ap (λ (l : List (List ℕ)). base ++ l) (map-append name before (x ∷ others)) ∙ sym (append_assoc base (map name before) (name x ∷ map name others))

  -- what a reading of one entry gives
  abbrev pub EachRead : Type 0
  EachRead = (before : List X) (d : Data) (x : X) → one before d ≡ Ok x
      → ((entry : Members) × (d ≡ table entry) × Says entry x) × Good x × (list_any (bytes_eq (name x)) (taken before) ≡ false)

  -- what gives a reading of one entry
  abbrev pub Again : Type 0
  Again = (before : List X) (entry : Members) (x : X) → Says entry x → Good x → list_any (bytes_eq (name x)) (taken before) ≡ false
      → one before (table entry) ≡ Ok x

  pub record AreRead (before : List X) (entries : Items) (xs : List X) : Type 0 where
    pub new : List X
    pub whole : xs ≡ before ++ new
    pub says : SayEach Says entries new
    pub good : AllByRecursion Good new
    pub distinct : IsDistinct bytes_eq (taken xs)
    pub len : length new ≡ items_len entries

  pub each_read : EachRead → (before : List X) (entries : Items) (xs : List X) → each one before entries ≡ Ok xs → IsDistinct bytes_eq (taken before)
      → AreRead before entries xs
  each_read reads before no_items xs e d =
      let same : before ≡ xs = cc in
      record { new = []; whole = sym same ∙ sym (append-nil before); says = tt; good = tt; distinct = rw (← same) d; len = refl }
  each_read reads before (item v entries) xs e d =
      let (x, this, rest) = bound (one before v) (λ x. each one (before ++ x ∷ []) entries) xs e in
      let s = reads before v x this in
      let pushed : IsDistinct bytes_eq (taken (before ++ x ∷ [])) =
      subst (IsDistinct bytes_eq) (sym (taken_next before x [])) (IsDistinct-push nat_list_eq_equiv (taken before) (name x) d s.2) in
      let r = each_read reads (before ++ x ∷ []) entries xs rest pushed in
      record {
        new = x ∷ r.new;
        whole = r.whole ∙ append_assoc before (x ∷ []) r.new;
        says = (s.0, r.says);
        good = (s.1, r.good);
        distinct = r.distinct;
        len = ap suc r.len;
      }

  pub each_again : Again → (before : List X) (entries : Items) (new : List X) → SayEach Says entries new → AllByRecursion Good new
      → IsDistinct bytes_eq (taken (before ++ new))
      → each one before entries ≡ Ok (before ++ new)
  each_again again before no_items [] s g d = ap Ok (sym (append-nil before))
  each_again again before no_items (x ∷ others) s g d = absurd s
  each_again again before (item v entries) [] s g d = absurd s
  each_again again before (item v entries) (x ∷ others) s g d =
      let absent = absent_before (taken before) (map name others) (name x) (subst (IsDistinct bytes_eq) (taken_next before x others) d) in
      let joined : (before ++ x ∷ []) ++ others ≡ before ++ x ∷ others = append_assoc before (x ∷ []) others in
      let rest = each_again again (before ++ x ∷ []) entries others s.1 g.1 (rw joined d) in
      rw (s.0.1, again before s.0.0 x s.0.2 g.0 absent) (rest ∙ ap Ok joined)

-- Contents are the same where all their pieces are.
use Rattle.std.proofs.Common.{◌≡◌, ℕ, ◌+◌, ◌*◌, ◌<◌, ◌≤◌, true, false, Bool, not, List, ◌++◌, length, take, drop, Option, Some, None, refl, sym, ap, ◌∙◌, arith, Bor}
use Rattle.std.specs.Prelude.{option_map}
use Rattle.std.specs.Option.{option_eq}
use Rattle.std.specs.Bool.{Decides}
use Rattle.std.specs.Str.{bytes_eq}
use Rattle.std.proofs.lemmas.Bool.{true≢false, false≢true, lt-ltb}
use Rattle.std.proofs.lemmas.Slice.Eq.{bytes_eq-Decides}
use Rattle.std.proofs.lemmas.List.{take_all}
use Rattle.std.proofs.Math.Seq.{take-add}
use Rattle.as2_mic.specs.Pieces.{piece_at, piece_count}

-- equal lists are found equal, and others aren't
pub same : (xs ys : List ℕ) → xs ≡ ys → true ≡ bytes_eq xs ys
same xs ys e = sym ((bytes_eq-Decides xs ys).1 e)

pub apart : (xs ys : List ℕ) → (xs ≡ ys → ⊥) → false ≡ bytes_eq xs ys
apart xs ys n = by (bytes_eq xs ys) (bytes_eq-Decides xs ys)
  where
    by : (b : Bool) → Decides b (xs ≡ ys) → false ≡ b
    by true d = absurd (n (d.0 refl))
    by false d = refl

-- the pieces at a place are found equal, or not
abbrev pub found_same : Option (Bor (List ℕ)) → Option (Bor (List ℕ)) → Bool
found_same one other = option_eq (λ x y. bytes_eq x.now y.now) one other

abbrev bytes_of : Option (Bor (List ℕ)) → Option (List ℕ)
bytes_of piece = option_map (λ p. p.now) piece

piece_same : (one other : Option (Bor (List ℕ))) → found_same one other ≡ true → bytes_of one ≡ bytes_of other
piece_same None None h = refl
piece_same None (Some b) h = absurd (false≢true h)
piece_same (Some a) None h = absurd (false≢true h)
piece_same (Some a) (Some b) h = ap Some ((bytes_eq-Decides a.now b.now).0 h)

is_some_text : (a b : List ℕ) → Some a ≡ Some b → a ≡ b
is_some_text a b e = cc

none_is_not_some : (a : List ℕ) → None ≡ Some a → ⊥
none_is_not_some a e = cc

piece_apart : (one other : Option (Bor (List ℕ))) → found_same one other ≡ false → bytes_of one ≡ bytes_of other → ⊥
piece_apart None None h e = absurd (true≢false h)
piece_apart None (Some b) h e = none_is_not_some b.now e
piece_apart (Some a) None h e = none_is_not_some a.now (sym e)
piece_apart (Some a) (Some b) h e = false≢true (sym h ∙ (bytes_eq-Decides a.now b.now).1 (is_some_text a.now b.now e))

not_true : (b : Bool) → true ≡ not b → b ≡ false
not_true true h = absurd (true≢false h)
not_true false h = refl

not_false : (b : Bool) → false ≡ not b → b ≡ true
not_false true h = refl
not_false false h = absurd (false≢true h)

-- a piece that isn't the same tells the contents apart
pub piece_tells : (xs ys : List ℕ) (i : ℕ) (one other : Option (Bor (List ℕ))) → bytes_of one ≡ piece_at xs i → bytes_of other ≡ piece_at ys i
    → true ≡ not (found_same one other) → false ≡ bytes_eq xs ys
piece_tells xs ys i one other is_one is_other h =
    apart xs ys (λ e. piece_apart one other (not_true (found_same one other) h) (is_one ∙ ap (λ c. piece_at c i) e ∙ sym is_other))

-- the front with one piece more
front : (xs : List ℕ) (i : ℕ) → take ((i + 1) * 65536) xs ≡ take (i * 65536) xs ++ take 65536 (drop (i * 65536) xs)
front xs i = ap (λ n. take n xs) (omega arith) ∙ take-add (i * 65536) 65536 xs

piece_is : (xs : List ℕ) (i : ℕ) → i * 65536 < length xs → piece_at xs i ≡ Some (take 65536 (drop (i * 65536) xs))
piece_is xs i lt = rw (lt-ltb (i * 65536) (length xs) lt) refl

-- the fronts stay the same where the next pieces are
pub next_same : (xs ys : List ℕ) (i : ℕ) (one other : Option (Bor (List ℕ))) → length xs ≡ length ys → i < piece_count xs
    → take (i * 65536) xs ≡ take (i * 65536) ys → bytes_of one ≡ piece_at xs i → bytes_of other ≡ piece_at ys i → false ≡ not (found_same one other)
    → take ((i + 1) * 65536) xs ≡ take ((i + 1) * 65536) ys
next_same xs ys i one other lengths lt fronts is_one is_other h =
    let inside : i * 65536 < length xs = omega (arith, lt) in
    let equal = sym is_one ∙ piece_same one other (not_false (found_same one other) h) ∙ is_other in
    let pieces = is_some_text (take 65536 (drop (i * 65536) xs)) (take 65536 (drop (i * 65536) ys))
    (sym (piece_is xs i inside) ∙ equal ∙ piece_is ys i (omega (arith, inside, lengths))) in
    rw (front xs i, front ys i, fronts, pieces) refl

-- and all is the same in the end
pub all_same : (xs ys : List ℕ) (i : ℕ) → length xs ≡ length ys → piece_count xs ≤ i → take (i * 65536) xs ≡ take (i * 65536) ys → true ≡ bytes_eq xs ys
all_same xs ys i lengths ge fronts =
    let all : length xs ≤ i * 65536 = omega (arith, ge) in
    same xs ys (sym (take_all (i * 65536) xs all) ∙ fronts ∙ take_all (i * 65536) ys (omega (arith, all, lengths)))

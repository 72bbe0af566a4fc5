-- Bytes in pieces: whole ones of 65,536 bytes, and what stands behind them. `f` gives the bytes of a piece.
use Rattle.std.proofs.Common.{◌≡◌, ℕ, suc, ◌+◌, ◌-◌, ◌*◌, ◌/◌, ◌<◌, ◌≤◌, true, false, ltb, List, [], ◌∷◌, ◌++◌, length, take, drop, get_or, Some, None, refl, sym, ap, ◌∙◌, append_assoc, arith}
use Rattle.std.specs.List.{flat_map, remove}
use Rattle.std.proofs.lemmas.Bool.{lt-ltb, le-ltb}
use Rattle.std.proofs.lemmas.List.{take-append-drop, take_at, drop_at, take_all, drop_more, length-take-le, length-append, take-append-le}
use Rattle.std.proofs.lemmas.List.Concat.{flat_map-append}
use Rattle.std.proofs.lemmas.List.Elements.{All-head, All-tail, All-take}
use Rattle.std.proofs.Math.Seq.{take-add}
use Rattle.as2_mic.specs.Pieces.{AreWhole, IsKeptAs, piece_at}

pub length_whole : {X : Type 0} (f : X → List ℕ) (xs : List X) → AreWhole f xs → length (flat_map f xs) ≡ length xs * 65536
length_whole f [] h = refl
length_whole f (x ∷ xs) h =
    let one = All-head (λ x. length (f x) ≡ 65536) x xs h in
    let more = length_whole f xs (All-tail (λ x. length (f x) ≡ 65536) x xs h) in
    omega (arith, one, more, length-append (f x) (flat_map f xs))

length_front : {X : Type 0} (f : X → List ℕ) (xs : List X) (i : ℕ) → AreWhole f xs → i ≤ length xs → length (flat_map f (take i xs)) ≡ i * 65536
length_front f xs i h le = length_whole f (take i xs) (All-take (λ x. length (f x) ≡ 65536) i xs h) ∙ ap (λ (n : ℕ). n * 65536) (length-take-le i xs le)

parted : {X : Type 0} (f : X → List ℕ) (xs : List X) (l : List ℕ) (i : ℕ) → flat_map f xs ++ l ≡ flat_map f (take i xs) ++ (flat_map f (drop i xs) ++ l)
parted f xs l i = ap (λ xs'. flat_map f xs' ++ l) (sym (take-append-drop i xs))
    ∙ ap (λ (x : List ℕ). x ++ l) (flat_map-append f (take i xs) (drop i xs)) ∙ append_assoc (flat_map f (take i xs)) (flat_map f (drop i xs)) l

pub take_whole : {X : Type 0} (f : X → List ℕ) (xs : List X) (l : List ℕ) (i : ℕ) → AreWhole f xs → i ≤ length xs
    → take (i * 65536) (flat_map f xs ++ l) ≡ flat_map f (take i xs)
take_whole f xs l i h le = ap (take (i * 65536)) (parted f xs l i)
    ∙ take_at (flat_map f (take i xs)) (flat_map f (drop i xs) ++ l) (i * 65536) (length_front f xs i h le)

pub drop_whole : {X : Type 0} (f : X → List ℕ) (xs : List X) (l : List ℕ) (i : ℕ) → AreWhole f xs → i ≤ length xs
    → drop (i * 65536) (flat_map f xs ++ l) ≡ flat_map f (drop i xs) ++ l
drop_whole f xs l i h le = ap (drop (i * 65536)) (parted f xs l i)
    ∙ drop_at (flat_map f (take i xs)) (flat_map f (drop i xs) ++ l) (i * 65536) (length_front f xs i h le)

pub length_all : {X : Type 0} (f : X → List ℕ) (xs : List X) (l : List ℕ) → AreWhole f xs → length (flat_map f xs ++ l) ≡ length xs * 65536 + length l
length_all f xs l h = length-append (flat_map f xs) l ∙ ap (λ (n : ℕ). n + length l) (length_whole f xs h)

-- from a whole piece on
from_piece : {X : Type 0} (f : X → List ℕ) (xs : List X) (l : List ℕ) (i : ℕ) (d : X) → AreWhole f xs → i < length xs
    → drop (i * 65536) (flat_map f xs ++ l) ≡ f (get_or xs i d) ++ (flat_map f (drop (i + 1) xs) ++ l)
from_piece f xs l i d h lt = drop_whole f xs l i h (omega (arith, lt)) ∙ ap (λ xs'. flat_map f xs' ++ l) (drop_more xs i d lt)
    ∙ append_assoc (f (get_or xs i d)) (flat_map f (drop (i + 1) xs)) l

-- behind the whole pieces
from_last : {X : Type 0} (f : X → List ℕ) (xs : List X) (l : List ℕ) → AreWhole f xs → drop (length xs * 65536) (flat_map f xs ++ l) ≡ l
from_last f xs l h = drop_at (flat_map f xs) l (length xs * 65536) (length_whole f xs h)

whole_at : {X : Type 0} (f : X → List ℕ) (xs : List X) (i : ℕ) (d : X) → AreWhole f xs → i < length xs → length (f (get_or xs i d)) ≡ 65536
whole_at f xs i d h lt = h i d lt

-- ---- the piece at a place

pub piece_whole : {X : Type 0} (f : X → List ℕ) (xs : List X) (l : List ℕ) (i : ℕ) (d : X) → AreWhole f xs → i < length xs
    → piece_at (flat_map f xs ++ l) i ≡ Some (f (get_or xs i d))
piece_whole f xs l i d h lt =
    let inside : ltb (i * 65536) (length (flat_map f xs ++ l)) ≡ true =
    lt-ltb (i * 65536) (length (flat_map f xs ++ l)) (omega (arith, lt, length_all f xs l h)) in
    rw (inside, from_piece f xs l i d h lt, take_at (f (get_or xs i d)) (flat_map f (drop (i + 1) xs) ++ l) 65536 (whole_at f xs i d h lt)) refl

pub piece_last : {X : Type 0} (f : X → List ℕ) (xs : List X) (l : List ℕ) (i : ℕ) → AreWhole f xs → length l ≤ 65536 → 0 < length l → i ≡ length xs
    → piece_at (flat_map f xs ++ l) i ≡ Some l
piece_last f xs l i h le some at =
    let inside : ltb (length xs * 65536) (length (flat_map f xs ++ l)) ≡ true =
    lt-ltb (length xs * 65536) (length (flat_map f xs ++ l)) (omega (arith, some, length_all f xs l h)) in
    rw (at, inside, from_last f xs l h, take_all 65536 l le) refl

pub piece_none : {X : Type 0} (f : X → List ℕ) (xs : List X) (l : List ℕ) (i : ℕ) → AreWhole f xs → length xs * 65536 + length l ≤ i * 65536
    → piece_at (flat_map f xs ++ l) i ≡ None
piece_none f xs l i h le =
    let outside : ltb (i * 65536) (length (flat_map f xs ++ l)) ≡ false =
    le-ltb (i * 65536) (length (flat_map f xs ++ l)) (omega (arith, le, length_all f xs l h)) in
    rw outside refl

-- ---- what is left of them, where all but the first n bytes are taken off

kept_as : {X : Type 0} (f : X → List ℕ) (xs : List X) (l all : List ℕ) → AreWhole f xs → length l ≤ 65536 → flat_map f xs ++ l ≡ all → IsKeptAs f xs l all
kept_as f xs l all h small e = record { whole_ones = h; short = small; content = e }

take_parts : (w n : ℕ) (content : List ℕ) → w * 65536 ≤ n → take n content ≡ take (w * 65536) content ++ take (n - w * 65536) (drop (w * 65536) content)
take_parts w n content le =
    let sum : n ≡ w * 65536 + (n - w * 65536) = omega (arith, le) in
    ap (λ (m : ℕ). take m content) sum ∙ take-add (w * 65536) (n - w * 65536) content

take_front : (r : ℕ) (p q : List ℕ) → r ≤ length p → take r (p ++ q) ≡ take r p
take_front r p q le = take-append-le r p q le

pub cut_piece : {X : Type 0} (f : X → List ℕ) (xs : List X) (l : List ℕ) (n w : ℕ) (d : X) → AreWhole f xs → n ≤ length (flat_map f xs ++ l)
    → w ≡ (n - 1) / 65536 → w < length xs → IsKeptAs f (take w xs) (take (n - w * 65536) (f (get_or xs w d))) (take n (flat_map f xs ++ l))
cut_piece f xs l n w d h le is lt =
    let content = flat_map f xs ++ l in
    let fits : n - w * 65536 ≤ length (f (get_or xs w d)) = omega (arith, is, whole_at f xs w d h lt) in
    let back : take (n - w * 65536) (drop (w * 65536) content) ≡ take (n - w * 65536) (f (get_or xs w d)) =
    ap (take (n - w * 65536)) (from_piece f xs l w d h lt) ∙ take_front (n - w * 65536) (f (get_or xs w d)) (flat_map f (drop (w + 1) xs) ++ l) fits in
    let kept : flat_map f (take w xs) ++ take (n - w * 65536) (f (get_or xs w d)) ≡ take n content =
    sym (take_parts w n content (omega (arith, is)) ∙ rw (back, take_whole f xs l w h (omega (arith, lt))) refl) in
    kept_as f (take w xs) (take (n - w * 65536) (f (get_or xs w d))) (take n content) (All-take (λ x. length (f x) ≡ 65536) w xs h)
    (omega (arith, fits, whole_at f xs w d h lt, length-take-le (n - w * 65536) (f (get_or xs w d)) fits)) kept

pub cut_last : {X : Type 0} (f : X → List ℕ) (xs : List X) (l : List ℕ) (n w : ℕ) → AreWhole f xs → length l ≤ 65536 → n ≤ length (flat_map f xs ++ l)
    → w ≡ (n - 1) / 65536 → length xs ≤ w → IsKeptAs f xs (take (n - w * 65536) l) (take n (flat_map f xs ++ l))
cut_last f xs l n w h small le is ge =
    let content = flat_map f xs ++ l in
    let same : w ≡ length xs = omega (arith, is, ge, le, small, length_all f xs l h) in
    let fits : n - w * 65536 ≤ length l = omega (arith, same, le, length_all f xs l h) in
    let back : drop (w * 65536) content ≡ l = rw same (from_last f xs l h) in
    let front : take (w * 65536) content ≡ flat_map f xs = rw same (take_at (flat_map f xs) l (length xs * 65536) (length_whole f xs h)) in
    let kept : flat_map f xs ++ take (n - w * 65536) l ≡ take n content = sym (take_parts w n content (omega (arith, is)) ∙ rw (back, front) refl) in
    kept_as f xs (take (n - w * 65536) l) (take n content) h (omega (arith, fits, small, length-take-le (n - w * 65536) l fits)) kept

pub take_removed : {X : Type 0} (xs : List X) (w : ℕ) → w < length xs → take w (remove xs w) ≡ take w xs
take_removed xs w lt = take_at (take w xs) (drop (suc w) xs) w (length-take-le w xs (omega (arith, lt)))

pub kept_along : {X : Type 0} (f : X → List ℕ) (xs xs' : List X) (l l' all : List ℕ) → xs' ≡ xs → l' ≡ l → IsKeptAs f xs l all → IsKeptAs f xs' l' all
kept_along f xs xs' l l' all first last k = rw (first, last) k

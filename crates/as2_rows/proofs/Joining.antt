-- The pieces of a content, put behind one another, are the content.
use Rattle.std.proofs.Common.{◌≡◌, ℕ, zero, suc, ◌+◌, ◌-◌, ◌*◌, ◌<◌, ◌≤◌, min, List, [], ◌∷◌, map, ◌++◌, take, drop, length, get_or, sym, ap, ap₂, ◌∙◌, arith, pos, Less}
use Rattle.std.specs.List.{AllByRecursion, range_with_len}
use Rattle.std.proofs.lemmas.Grind.{div_ceil_times}
use Rattle.sqlite_value.specs.Order.{column}
use Rattle.sqlite_value.specs.declared.value.Value.TheVariants.{Blob}
use Rattle.std.proofs.Math.Seq.{take-add}
use Rattle.std.specs.Ordering.{ord_min, nat_cmp}
use Rattle.std.proofs.lemmas.List.{get_or-map, length-map, length-take, length-drop, length-append, map-append, take_all, take_more, drop_all, take-append-le, drop-append-le}
use Rattle.std.proofs.lemmas.List.FromFn.{get_or-map-range_with_len, length-map-range_with_len, map-range_with_len_more, fill_by_all}
use Rattle.std.proofs.lemmas.Bool.Decides.{nat_tests}
use Rattle.std.proofs.lemmas.Int.{ints}
use Rattle.sqlite_value.specs.Order.{Row, value_cmp}
use Rattle.sqlite_value.proofs.OrderLemmas.{value_cmp-Int}
use Rattle.sqlite.specs.Tree.{IsAscending}
use Rattle.as2_mic.specs.Pieces.{piece_size, piece_count}
use Rattle.as2_rows.specs.Rows.{whole}
use Rattle.as2_rows.specs.Contents.{Piece, piece_bytes, piece_of, pieces, piece_shown}

-- as many rows as pieces
pub as_many : (rows : List Row) (n : ℕ) (c : List ℕ) → rows ≡ map piece_shown (pieces n c) → length rows ≡ piece_count c
as_many rows n c all = ap length all ∙ length-map (pieces n c) piece_shown ∙ length-map-range_with_len (piece_of n c) 0 (piece_count c)

-- the row at place i shows the piece at position i
pub piece_at_place : (rows : List Row) (n : ℕ) (c : List ℕ) (i : ℕ) (d : Row) → rows ≡ map piece_shown (pieces n c) → i < length rows
    → get_or rows i d ≡ piece_shown (piece_of n c i)
piece_at_place rows n c i d all within =
    let few : i < piece_count c = omega (arith, within, as_many rows n c all) in
    let some : i < length (pieces n c) = omega (arith, few, length-map-range_with_len (piece_of n c) 0 (piece_count c)) in
    ap (λ l. get_or l i d) all
    ∙ get_or-map piece_shown (pieces n c) i (piece_of n c 0) d some
    ∙ ap piece_shown (get_or-map-range_with_len (piece_of n c) 0 (piece_count c) i i (piece_of n c 0) few (omega arith))

-- the next piece behind what came before
pub one_more : (c done piece : List ℕ) (i : ℕ) → done ≡ take (i * piece_size) c → piece ≡ piece_bytes c i → done ++ piece ≡ take ((i + 1) * piece_size) c
one_more c done piece i so_far next =
    ap₂ (λ a b. a ++ b) so_far next
    ∙ sym (take-add (i * piece_size) piece_size c)
    ∙ ap (λ k. take k c) (omega arith)

-- nothing is behind the last piece
pub all_taken : (c : List ℕ) (k : ℕ) → piece_count c ≤ k → take (k * piece_size) c ≡ c
all_taken c k enough = take_all (k * piece_size) c (omega (arith, enough, (div_ceil_times (length c) piece_size (omega arith)).0))

-- the bytes that the row at place i shows
pub bytes_at : (rows : List Row) (n : ℕ) (c : List ℕ) (i : ℕ) (d : Row) → rows ≡ map piece_shown (pieces n c) → i < length rows
    → column (get_or rows i d) 2 ≡ Blob (piece_bytes c i)
bytes_at rows n c i d all within = ap (λ r. column r 2) (piece_at_place rows n c i d all within)

-- equal values of bytes have equal bytes
same_bytes : (a b : List ℕ) → Blob a ≡ Blob b → a ≡ b
same_bytes a b e = cc

-- the bytes that were read of the row at place i
pub read_here : (rows : List Row) (n : ℕ) (c : List ℕ) (i : ℕ) (d : Row) (p : Piece) → rows ≡ map piece_shown (pieces n c) → i < length rows
    → piece_shown p ≡ get_or rows i d → p.bytes ≡ piece_bytes c i
read_here rows n c i d p all within is = same_bytes p.bytes (piece_bytes c i) (ap (λ r. column r 2) is ∙ bytes_at rows n c i d all within)

-- ---- what was joined

-- the rows before place i are the pieces of what was joined of them, which is as much of the size as so many pieces hold
pub record Joined (rows : List Row) (number size : ℕ) (content : List ℕ) (i : ℕ) : Type 0 where
  pub shown : take i rows ≡ map piece_shown (pieces number content)
  pub long : length content ≡ min (i * piece_size) size
  pub needed : i * piece_size < size + piece_size

pub count_is : (content : List ℕ) (size i : ℕ) → length content ≡ min (i * piece_size) size → i * piece_size < size + piece_size → piece_count content ≡ i
count_is content size i long needed =
    let bounds = div_ceil_times (length content) piece_size (omega arith) in
    omega (arith, long, needed, bounds.0, bounds.1)

-- the row at place i is the piece behind what was joined
pub piece_here : (rows : List Row) (n size : ℕ) (c content : List ℕ) (i : ℕ) (d : Row) → Joined rows n size content i → rows ≡ map piece_shown (pieces n c)
    → i < length rows
    → get_or rows i d ≡ piece_shown (record { number = n; position = piece_count content; bytes = piece_bytes c i })
piece_here rows n size c content i d h all within =
    piece_at_place rows n c i d all within
    ∙ ap (λ k. piece_shown (record { number = n; position = k; bytes = piece_bytes c i })) (sym (count_is content size i h.long h.needed))

pub joined_none : (rows : List Row) (n size : ℕ) → Joined rows n size [] 0
joined_none rows n size = record {
  shown = ap (λ k. map piece_shown (map (piece_of n []) (range_with_len 0 k))) (sym (count_is [] size 0 (omega arith) (omega arith)));
  long = omega arith;
  needed = omega arith;
}

-- a piece before the end stays as it is when more comes
same_before : (content more : List ℕ) (i k : ℕ) → length content ≡ i * piece_size → k < i → piece_bytes (content ++ more) k ≡ piece_bytes content k
same_before content more i k long before =
    ap (take piece_size) (drop-append-le (k * piece_size) content more (omega (arith, long, before)))
    ∙ take-append-le piece_size (drop (k * piece_size) content) more (omega (arith, long, before, length-drop (k * piece_size) content))

-- the piece behind whole ones
last_one : (content more : List ℕ) (i : ℕ) → length content ≡ i * piece_size → length more ≤ piece_size → piece_bytes (content ++ more) i ≡ more
last_one content more i long few =
    ap (take piece_size) (drop-append-le (i * piece_size) content more (omega (arith, long))
    ∙ ap (λ l. l ++ more) (drop_all (i * piece_size) content (omega (arith, long))))
    ∙ take_all piece_size more few

pieces_more : (n : ℕ) (content more : List ℕ) (i : ℕ) → length content ≡ i * piece_size → 0 < length more → length more ≤ piece_size
    → pieces n (content ++ more) ≡ pieces n content ++ (record { number = n; position = i; bytes = more }) ∷ []
pieces_more n content more i long some few =
    let both = length-append content more in
    let after = content ++ more in
    let now : piece_count after ≡ i + 1 = count_is after (length after) (i + 1) (omega (arith, both, long, some, few)) (omega (arith, both, long, some, few)) in
    let was : piece_count content ≡ i = count_is content (length content) i (omega (arith, long)) (omega (arith, long)) in
    let before : map (piece_of n after) (range_with_len 0 i) ≡ map (piece_of n content) (range_with_len 0 i) =
    fill_by_all (piece_of n content) (map (piece_of n after) (range_with_len 0 i)) i (piece_of n after 0) (length-map-range_with_len (piece_of n after) 0 i)
    (λ k less. get_or-map-range_with_len (piece_of n after) 0 i k k (piece_of n after 0) less (omega arith)
    ∙ ap (λ b. record { number = n; position = k; bytes = b }) (same_before content more i k long less)) in
    ap (λ k. map (piece_of n after) (range_with_len 0 k)) now
    ∙ map-range_with_len_more (piece_of n after) 0 i i (omega arith)
    ∙ ap₂ (λ l b. l ++ (record { number = n; position = i; bytes = b }) ∷ []) before (last_one content more i long few)
    ∙ ap (λ k. map (piece_of n content) (range_with_len 0 k) ++ (record { number = n; position = i; bytes = more }) ∷ []) (sym was)

pub joined_more : (rows : List Row) (n size : ℕ) (content more : List ℕ) (i : ℕ) (d : Row) → Joined rows n size content i → i < length rows
    → get_or rows i d ≡ piece_shown (record { number = n; position = i; bytes = more }) → 0 < length more → length more ≡ min piece_size (size - length content)
    → Joined rows n size (content ++ more) (i + 1)
joined_more rows n size content more i d h within row some long =
    let both = length-append content more in
    let whole_ones : length content ≡ i * piece_size = omega (arith, h.long, some, long) in
    record {
      shown = take_more rows i d within
          ∙ ap₂ (λ l r. l ++ r ∷ []) h.shown row
          ∙ sym (ap (map piece_shown) (pieces_more n content more i whole_ones some (omega (arith, long)))
          ∙ map-append piece_shown (pieces n content) ((record { number = n; position = i; bytes = more }) ∷ []));
      long = omega (arith, both, whole_ones, long, some);
      needed = omega (arith, whole_ones, long, some);
    }

pub joined_all : (rows : List Row) (n size : ℕ) (content : List ℕ) (i : ℕ) → Joined rows n size content i → length rows ≤ i
    → rows ≡ map piece_shown (pieces n content)
joined_all rows n size content i h past = sym (take_all i rows past) ∙ h.shown

-- the lesser of two, as code finds it
pub min_lesser : (m n : ℕ) → ord_min nat_cmp m n ≡ min m n
min_lesser m n = grind (arith, nat_tests)

-- the piece at place i of a content of that size is as long as the test wants it
pub as_long : (rows : List Row) (n size : ℕ) (c content : List ℕ) (i : ℕ) → rows ≡ map piece_shown (pieces n c) → length c ≡ size
    → Joined rows n size content i → i < length rows
    → (0 < length (piece_bytes c i)) × (length (piece_bytes c i) ≡ min piece_size (size - length content))
as_long rows n size c content i all long h within =
    let few = as_many rows n c all in
    let bound = (div_ceil_times (length c) piece_size (omega arith)).1 in
    let left = length-drop (i * piece_size) c in
    let cut = length-take piece_size (drop (i * piece_size) c) in
    (omega (arith, long, h.long, within, few, bound, left, cut), omega (arith, long, h.long, within, few, bound, left, cut))

-- ---- positions rise

above : (n b a k : ℕ) (content : List ℕ) → b < a
    → AllByRecursion (λ (q : Piece). value_cmp (whole b) (whole q.position) ≡ Less) (map (piece_of n content) (range_with_len a k))
above n b a zero content less = tt
above n b a (suc k) content less = (value_cmp-Int (pos b) (pos a) ∙ grind (arith, ints, nat_tests), above n b (a + 1) k content (omega arith))

rise_from : (n a k : ℕ) (content : List ℕ)
    → IsAscending (λ (p q : Piece). value_cmp (whole p.position) (whole q.position) ≡ Less) (map (piece_of n content) (range_with_len a k))
rise_from n a zero content = tt
rise_from n a (suc k) content = (above n a (a + 1) k content (omega arith), rise_from n (a + 1) k content)

-- the pieces of a content stand in the order of their positions
pub pieces_rise : (n : ℕ) (content : List ℕ) → IsAscending (λ (p q : Piece). value_cmp (whole p.position) (whole q.position) ≡ Less) (pieces n content)
pieces_rise n content = rise_from n 0 (piece_count content) content

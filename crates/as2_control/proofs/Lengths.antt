-- Lengths and fields: what is spelled is one, and can be cut off in one way.
use Rattle.std.proofs.Common.{◌≡◌, ℕ, ◌+◌, ◌^◌, ◌<◌, List, ◌++◌, length, take, drop, get_or, Option, Some, None, MatchOption, IfNone, refl, sym, ◌∙◌, ap, arith}
use Rattle.std.specs.Int.{w32, from_be_bytes}
use Rattle.std.proofs.lemmas.Nat.{be_bytes_4, from_be_bytes-to_be_bytes_4}
use Rattle.std.proofs.lemmas.List.{append_assoc, length-append, take_at, drop_at}
use Rattle.as2_control.specs.Frames.{length_text, framed_field}

-- a length is four bytes long
pub length-length_text : (count : ℕ) → length (length_text count) ≡ 4
unfolding length_text
length-length_text count = refl

-- a field is four bytes longer than what it holds
pub length-framed_field : (field : List ℕ) → length (framed_field field) ≡ 4 + length field
length-framed_field field = length-append (length_text (length field)) field ∙ ap (λ n. n + length field) (length-length_text (length field))

-- what four bytes are as a number, and that number's four bytes
pub spelled_length : (bytes : List ℕ) (count : ℕ) → length bytes ≡ 4 → ((i : ℕ) → get_or bytes i 0 < 256) → count ≡ from_be_bytes w32 bytes
    → length_text count ≡ bytes
unfolding length_text
spelled_length bytes count four below is = be_bytes_4 bytes count four below is

-- two lengths with one spelling are one
pub one_length : (n m : ℕ) → n < 2 ^ 32 → m < 2 ^ 32 → length_text n ≡ length_text m → n ≡ m
unfolding length_text
one_length n m small small' e =
    sym (from_be_bytes-to_be_bytes_4 n small) ∙ (ap (from_be_bytes w32) e ∙ from_be_bytes-to_be_bytes_4 m small')

-- fronts of one length, and what stands behind them
pub front_cut : (p q r s : List ℕ) → length p ≡ length q → p ++ r ≡ q ++ s → (p ≡ q) × (r ≡ s)
front_cut p q r s same e = (
  sym (take_at p r (length q) same) ∙ (ap (λ l. take (length q) l) e ∙ take_at q s (length q) refl),
  sym (drop_at p r (length q) same) ∙ (ap (λ l. drop (length q) l) e ∙ drop_at q s (length q) refl),
)

-- of a text that begins with two fields, they are one, and so is what stands behind
pub one_field : (a b r s : List ℕ) → length a < 2 ^ 32 → length b < 2 ^ 32 → framed_field a ++ r ≡ framed_field b ++ s → (a ≡ b) × (r ≡ s)
one_field a b r s short short' e =
    let whole : length_text (length a) ++ (a ++ r) ≡ length_text (length b) ++ (b ++ s) =
    sym (append_assoc (length_text (length a)) a r) ∙ (e ∙ append_assoc (length_text (length b)) b s) in
    let lengths = front_cut (length_text (length a)) (length_text (length b)) (a ++ r) (b ++ s)
    (length-length_text (length a) ∙ sym (length-length_text (length b))) whole in
    front_cut a b r s (one_length (length a) (length b) short short' lengths.0) lengths.1

-- a text that spells a longer length than it has bytes begins with no field
pub no_field : (text bytes rest : List ℕ) (told : ℕ) → bytes ≡ take 4 text → rest ≡ drop 4 text → length_text told ≡ bytes → told < 2 ^ 32
    → length rest < told → (field behind : List ℕ) → length field < 2 ^ 32 → ¬ (text ≡ framed_field field ++ behind)
no_field text bytes rest told front back spelled small less field behind short e =
    let whole : text ≡ length_text (length field) ++ (field ++ behind) = e ∙ append_assoc (length_text (length field)) field behind in
    let same : told ≡ length field = one_length told (length field) small short
    (spelled ∙ (front ∙ (ap (λ l. take 4 l) whole ∙ take_at (length_text (length field)) (field ++ behind) 4 (length-length_text (length field))))) in
    let stands : rest ≡ field ++ behind = back ∙ (ap (λ l. drop 4 l) whole
    ∙ drop_at (length_text (length field)) (field ++ behind) 4 (length-length_text (length field))) in
    omega (arith, ap length stands, length-append field behind)

-- what stands behind a field is shorter
pub shorter_behind : (text field behind : List ℕ) → text ≡ framed_field field ++ behind → length behind < length text
shorter_behind text field behind e = omega (arith, ap length e, length-append (framed_field field) behind, length-framed_field field)

-- a text of less than four bytes begins with no field
pub no_length : (text : List ℕ) → length text < 4 → (field behind : List ℕ) → length field < 2 ^ 32 → ¬ (text ≡ framed_field field ++ behind)
no_length text less field behind short e =
    omega (arith, ap length e, length-append (framed_field field) behind, length-framed_field field)

-- what holds where there is none, from what else does
pub none_then : {A : Type 0} {P Q : Type 0} (o : Option A) (S : A → Type 0) → MatchOption o P S → (P → Q) → IfNone o Q
none_then None S p then = then p
none_then (Some x) S p then = tt

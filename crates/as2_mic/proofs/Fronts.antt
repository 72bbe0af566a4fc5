-- The front of a content that goes piece by piece: what is there before each piece, and with it.
use Rattle.std.proofs.Common.{◌≡◌, ℕ, ◌+◌, ◌*◌, ◌≤◌, Bool, true, false, cond, List, ◌++◌, length, take, drop, Some, None, refl, sym, ap, ◌∙◌, arith}
use Rattle.std.specs.Prelude.{nat_lt}
use Rattle.std.proofs.Math.Seq.{take-add}
use Rattle.std.proofs.lemmas.Bool.Decides.{nat_tests}
use Rattle.std.proofs.lemmas.List.{take_all}
use Rattle.as2_mic.specs.Pieces.{piece_at, piece_size, piece_count}

-- as many pieces of it as are before place i
abbrev pub front : ℕ → List ℕ → List ℕ
front i content = take (i * piece_size) content

front_more : (i : ℕ) (content : List ℕ) → front (i + 1) content ≡ front i content ++ take piece_size (drop (i * piece_size) content)
front_more i content = ap (λ n. take n content) (omega arith) ∙ take-add (i * piece_size) piece_size content

piece_by : (i : ℕ) (content piece more : List ℕ) (b : Bool) → cond b (Some more) None ≡ Some piece → more ≡ piece
piece_by i content piece more true is = cc
piece_by i content piece more false is = absurd (cc)

pub piece_more : (i : ℕ) (content piece : List ℕ) → piece_at content i ≡ Some piece → front i content ++ piece ≡ front (i + 1) content
piece_more i content piece is =
    ap (λ p. front i content ++ p)
    (sym (piece_by i content piece (take piece_size (drop (i * piece_size) content)) (nat_lt (i * piece_size) (length content)) is))
    ∙ sym (front_more i content)

none_by : (i : ℕ) (content more : List ℕ) (b : Bool) → nat_lt (i * piece_size) (length content) ≡ b → cond b (Some more) None ≡ None
    → length content ≤ i * piece_size
none_by i content more true has is = absurd (cc)
none_by i content more false has is = grind (arith, nat_tests)

pub piece_none : (i : ℕ) (content : List ℕ) → piece_at content i ≡ None → front i content ≡ front (i + 1) content
piece_none i content is =
    let all : length content ≤ i * piece_size =
    none_by i content (take piece_size (drop (i * piece_size) content)) (nat_lt (i * piece_size) (length content)) refl is in
    take_all (i * piece_size) content all ∙ sym (take_all ((i + 1) * piece_size) content (omega (arith, all)))

pub front_all : (content : List ℕ) → front (piece_count content) content ≡ content
front_all content = take_all (piece_count content * piece_size) content (omega arith)

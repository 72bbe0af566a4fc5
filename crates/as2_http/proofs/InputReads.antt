-- One read of an input after the other.
use Rattle.std.proofs.Common.{◌≡◌, ◌+◌, ◌<◌, ◌≤◌, ℕ, List, [], ◌∷◌, ◌++◌, length, Option, Some, None, refl, sym, ap, ◌∙◌, subst, append_assoc, arith}
use Rattle.std.proofs.lemmas.List.{length-append}
use Rattle.std.specs.Io.KnownBytes.{Consumes, IsAtEnd, Keeps}
use Rattle.as2_http.specs.InputReads.{read_limit, AllGave, AllNeeded, ReadsNeeded}

-- these bytes were read of the input, and those are left
pub record HasArrived (input text : List ℕ) (after : Option (List ℕ)) : Type 0 where
  pub left : List ℕ
  pub kept : after ≡ Some left
  pub whole : input ≡ text ++ left

pub piece_of : (before after : Option (List ℕ)) (input got : List ℕ) → Consumes before after got → before ≡ Some input → HasArrived input got after
piece_of None after input got c e = absurd cc
piece_of (Some x) None input got c e = absurd c
piece_of (Some x) (Some y) input got c e = record { left = y; kept = refl; whole = (let same : x ≡ input = cc in sym same ∙ c) }

pub kept_left : (unread after : Option (List ℕ)) (left : List ℕ) → Keeps unread after → unread ≡ Some left → after ≡ Some left
kept_left None after left k known = absurd cc
kept_left (Some x) None left k known = absurd k
kept_left (Some x) (Some y) left k known = ap (λ (t : List ℕ). Some t) k ∙ known

-- a read that fails takes nothing
unfoldable pub nothing_of : (unread after : Option (List ℕ)) (left : List ℕ) → Keeps unread after → unread ≡ Some left → HasArrived left [] after
nothing_of unread after left kept known = record { left = left; kept = kept_left unread after left kept known; whole = refl }

-- .. and neither does one at the end
pub at_end : (unread after : Option (List ℕ)) (left : List ℕ) → Consumes unread after [] → IsAtEnd after → unread ≡ Some left → left ≡ []
at_end unread after left c done known =
    let m = piece_of unread after left [] c known in
    let none : m.left ≡ [] = (let at : IsAtEnd (Some m.left) = subst IsAtEnd m.kept done in at) in m.whole ∙ none

gave_some : (piece : List ℕ) → 0 < length piece → piece ≡ [] → ⊥
gave_some [] some none = omega (arith, some)
gave_some (b ∷ piece) some none = cc

-- a further read gave something, too
pub gave_on : (pieces : List (List ℕ)) (piece : List ℕ) → AllGave pieces → 0 < length piece → AllGave (pieces ++ piece ∷ [])
gave_on [] piece gave some = (some, tt)
gave_on (first ∷ pieces) piece gave some = (gave.0, gave_on pieces piece gave.1 some)

pub one_needed : (needs : List ℕ → Type 0) (text all piece : List ℕ) (pieces : List (List ℕ)) → AllGave pieces → AllNeeded needs text pieces all → needs all
    → length piece ≤ read_limit → AllNeeded needs text (pieces ++ piece ∷ []) (all ++ piece)
one_needed needs text all piece [] gave same need most = (subst needs same need, most, λ none. refl, ap (λ (x : List ℕ). x ++ piece) same)
one_needed needs text all piece (first ∷ pieces) gave needed need most =
    (needed.0, needed.1, λ none. absurd (gave_some first gave.0 none), one_needed needs (text ++ first) all piece pieces gave.1 needed.3 need most)

pub one_longer : (pieces : List (List ℕ)) (piece : List ℕ) → length (pieces ++ piece ∷ []) ≡ length pieces + 1
one_longer pieces piece = length-append pieces (piece ∷ [])

-- no call was made yet
unfoldable pub reads_none : (needs : List ℕ → Type 0) (input : List ℕ) (unread : Option (List ℕ)) (calls : ℕ) → unread ≡ Some input
    → ReadsNeeded needs input unread calls calls
reads_none needs input unread calls known = record { pieces = []; read = []; left = input; counted = omega arith; needed = refl; whole = refl; known = known }

-- the next call was needed
unfoldable pub read_on : (needs : List ℕ
    → Type 0) (input : List ℕ) (unread after : Option (List ℕ)) (calls later next : ℕ) (piece : List ℕ) (r : ReadsNeeded needs input unread calls later)
    → AllGave r.pieces → needs r.read → HasArrived r.left piece after → length piece ≤ read_limit → next ≡ later + 1 → ReadsNeeded needs input after calls next
read_on needs input unread after calls later next piece r gave need m most is = record {
  pieces = r.pieces ++ piece ∷ [];
  read = r.read ++ piece;
  left = m.left;
  counted = omega (arith, is, r.counted, one_longer r.pieces piece);
  needed = one_needed needs [] r.read piece r.pieces gave r.needed need most;
  whole = r.whole ∙ ap (λ (t : List ℕ). r.read ++ t) m.whole ∙ sym (append_assoc r.read piece m.left);
  known = m.kept;
}

-- The lines before a delimiter or closing line, a line at a time.
use Rattle.std.proofs.Common.{◌≡◌, ℕ, ◌+◌, false, true, List, [], ◌∷◌, ◌++◌, length, take, refl, sym, ap, ◌∙◌, append_assoc}
use Rattle.std.proofs.lemmas.List.{append-nil}
use Rattle.std.specs.List.{concat}
use Rattle.as2_parts.specs.Lines.{lines, is_empty_line, is_mark}
use Rattle.as2_parts.specs.Parts.{before_mark, from_mark, cut_at_empty_line, part_in}
use Rattle.as2_parts.proofs.Moving.{StandsAt, front_on, stands_on}
use Rattle.as2_parts.proofs.Cutting.{lines_joined}

-- what was seen of a text before a mark: the rest stands at that place, and the first mark of the text is the rest's
pub record Unmarked (boundary text : List ℕ) (place : ℕ) (rest : List ℕ) : Type 0 where
  pub stands : StandsAt text place rest
  pub same : from_mark boundary (lines text) ≡ from_mark boundary (lines rest)
  pub front : concat (before_mark boundary (lines text)) ≡ take place text ++ concat (before_mark boundary (lines rest))

pub unmarked_on : (boundary text : List ℕ) (place : ℕ) (rest line after : List ℕ) → is_mark boundary line ≡ false → lines rest ≡ line ∷ lines after
    → rest ≡ line ++ after → Unmarked boundary text place rest → Unmarked boundary text (place + length line) after
unmarked_on boundary text place rest line after plain cut whole u =
    let others = concat (before_mark boundary (lines after)) in
    let here : concat (before_mark boundary (lines rest)) ≡ line ++ others = ap (λ (ls : List (List ℕ)). concat (before_mark boundary ls)) cut
    ∙ rw plain refl in
    record {
      stands = stands_on text rest line after place u.stands whole;
      same = u.same ∙ ap (from_mark boundary) cut ∙ rw plain refl;
      front = u.front ∙ ap (λ (t : List ℕ). take place text ++ t) here ∙ sym (append_assoc (take place text) line others)
          ∙ ap (λ (t : List ℕ). t ++ others) (sym (front_on text rest line after place u.stands whole));
    }

-- what was seen of a part before its first empty line
pub record InHead (text : List ℕ) (place : ℕ) (rest : List ℕ) : Type 0 where
  pub stands : StandsAt text place rest
  pub head : (part_in text).0 ≡ take place text ++ (part_in rest).0
  pub content : (part_in text).1 ≡ (part_in rest).1

pub head_on : (text : List ℕ) (place : ℕ) (rest line after : List ℕ) → is_empty_line line ≡ false → lines rest ≡ line ∷ lines after → rest ≡ line ++ after
    → InHead text place rest → InHead text (place + length line) after
head_on text place rest line after some cut whole h =
    let others = (part_in after).0 in
    let here : (part_in rest).0 ≡ line ++ others = ap (λ (ls : List (List ℕ)). (cut_at_empty_line ls).0) cut ∙ rw some refl in
    record {
      stands = stands_on text rest line after place h.stands whole;
      head = h.head ∙ ap (λ (t : List ℕ). take place text ++ t) here ∙ sym (append_assoc (take place text) line others)
          ∙ ap (λ (t : List ℕ). t ++ others) (sym (front_on text rest line after place h.stands whole));
      content = h.content ∙ ap (λ (ls : List (List ℕ)). (cut_at_empty_line ls).1) cut ∙ rw some refl;
    }

pub head_ends : (text : List ℕ) (place : ℕ) (rest line after : List ℕ) → is_empty_line line ≡ true → lines rest ≡ line ∷ lines after → InHead text place rest
    → (take place text, after) ≡ part_in text
head_ends text place rest line after empty cut h =
    let head : (part_in rest).0 ≡ [] = ap (λ (ls : List (List ℕ)). (cut_at_empty_line ls).0) cut ∙ rw empty refl in
    let content : (part_in rest).1 ≡ after = ap (λ (ls : List (List ℕ)). (cut_at_empty_line ls).1) cut ∙ rw empty (lines_joined after) in
    let first : take place text ≡ (part_in text).0 = sym (h.head ∙ ap (λ (t : List ℕ). take place text ++ t) head ∙ append-nil (take place text)) in
    let second : after ≡ (part_in text).1 = sym (h.content ∙ content) in
    λ i. (first i, second i)

-- What is read are the parts of the body, and the parts of a body are read.
use Rattle.std.proofs.Common.{◌≡◌, ℕ, Bool, true, false, cond, List, [], ◌∷◌, ◌++◌, Result, Ok, Err, refl, sym, ap, ◌∙◌, inl, inr}
use Rattle.std.specs.Prelude.{◌||◌, All, Any, IfOk}
use Rattle.std.specs.List.{list_any}
use Rattle.std.proofs.lemmas.Bool.{cases_Bool, or_cases}
use Rattle.std.proofs.lemmas.List.Elements.{All-nil, All-cons, All-head, All-tail, All-weaker}
use Rattle.std.proofs.lemmas.List.Folds.{Any-from_list_any, list_any-from_Any}
use Rattle.as2_parts.specs.declared.parts.Part.{Part}
use Rattle.as2_parts.specs.declared.parts.PartFault.{PartFault}
use Rattle.as2_parts.specs.declared.parts.PartFault.TheVariants.{NoDelimiter, OnePart, NotClosed}
use Rattle.as2_parts.specs.Lines.{lines, is_delimiter, is_closing, is_mark, IsDelimiter, IsClosing}
use Rattle.as2_parts.specs.Parts.{PartText, part_of, before_mark, from_mark, behind_first, behind_preamble, parts_reading, IsMark, HasNoMark, IsTwoParts, part_text, parts_result}
use Rattle.as2_parts.proofs.Deciding.{delimiter_is, is_delimiter_of, closing_is, is_closing_of, mark_is, is_mark_of, plain_of, plain_is, delimiter_opens}
use Rattle.as2_parts.proofs.Reading.{HasDelimiter, closing_from, closing_after, reads_two}

abbrev Plain : List ℕ → List (List ℕ) → Type 0
Plain boundary ls = All (λ line. is_mark boundary line ≡ false) ls

-- ---- the first mark

plain_before : (boundary : List ℕ) (ls : List (List ℕ)) → Plain boundary (before_mark boundary ls)
plain_before boundary [] = All-nil (λ line. is_mark boundary line ≡ false)
plain_before boundary (line ∷ rest) =
    elim (cases_Bool (is_mark boundary line)) [
      | inl mark ↦ rw mark (All-nil (λ line. is_mark boundary line ≡ false))
      | inr plain ↦ rw plain (All-cons (λ line. is_mark boundary line ≡ false) line (before_mark boundary rest) plain (plain_before boundary rest))
    ]

pub no_mark_before : (boundary : List ℕ) (ls : List (List ℕ)) → HasNoMark boundary (before_mark boundary ls)
no_mark_before boundary ls =
    All-weaker (λ line. is_mark boundary line ≡ false) (λ line. ¬ IsMark boundary line) (λ line plain. plain_is boundary line plain)
    (before_mark boundary ls) (plain_before boundary ls)

-- the lines are cut at a mark
pub record Cut (boundary : List ℕ) (ls : List (List ℕ)) (mark : List ℕ) (after : List (List ℕ)) : Type 0 where
  pub whole : ls ≡ before_mark boundary ls ++ mark ∷ after
  pub marks : is_mark boundary mark ≡ true

pub cut_from : (boundary : List ℕ) (ls : List (List ℕ)) (mark : List ℕ) (after : List (List ℕ)) → from_mark boundary ls ≡ mark ∷ after
    → Cut boundary ls mark after
cut_from boundary [] mark after e = absurd cc
cut_from boundary (line ∷ rest) mark after e =
    elim (cases_Bool (is_mark boundary line)) [
      | inl here ↦
          let same : line ∷ rest ≡ mark ∷ after = rw here at e in
          let first : line ≡ mark = cc in
          record { whole = rw here same; marks = rw (← first) here }
      | inr plain ↦
          let later : from_mark boundary rest ≡ mark ∷ after = rw plain at e in
          let more = cut_from boundary rest mark after later in
          record { whole = rw plain (ap (λ (ls : List (List ℕ)). line ∷ ls) more.whole); marks = more.marks }
    ]

from_mark_at : (boundary : List ℕ) (front : List (List ℕ)) (mark : List ℕ) (after : List (List ℕ)) → Plain boundary front → is_mark boundary mark ≡ true
    → from_mark boundary (front ++ mark ∷ after) ≡ mark ∷ after
from_mark_at boundary [] mark after plain marks = rw marks refl
from_mark_at boundary (line ∷ front) mark after plain marks =
    let here : is_mark boundary line ≡ false = All-head (λ line. is_mark boundary line ≡ false) line front plain in
    rw here (from_mark_at boundary front mark after (All-tail (λ line. is_mark boundary line ≡ false) line front plain) marks)

before_mark_at : (boundary : List ℕ) (front : List (List ℕ)) (mark : List ℕ) (after : List (List ℕ)) → Plain boundary front → is_mark boundary mark ≡ true
    → before_mark boundary (front ++ mark ∷ after) ≡ front
before_mark_at boundary [] mark after plain marks = rw marks refl
before_mark_at boundary (line ∷ front) mark after plain marks =
    let here : is_mark boundary line ≡ false = All-head (λ line. is_mark boundary line ≡ false) line front plain in
    rw here (ap (λ (ls : List (List ℕ)). line ∷ ls)
    (before_mark_at boundary front mark after (All-tail (λ line. is_mark boundary line ≡ false) line front plain) marks))

-- ---- what is read

-- the answer has a first delimiter, a second one and a closing line behind it
record TwoPartsRead (boundary : List ℕ) (ls : List (List ℕ)) (first second : PartText) : Type 0 where
  pub opening : List ℕ
  pub after : List (List ℕ)
  pub between : List ℕ
  pub rest : List (List ℕ)
  pub starts : from_mark boundary ls ≡ opening ∷ after
  pub opens : is_closing boundary opening ≡ false
  pub goes_on : from_mark boundary after ≡ between ∷ rest
  pub parts : is_closing boundary between ≡ false
  pub closed : list_any (is_closing boundary) after ≡ true
  pub first_part : first ≡ part_of (before_mark boundary after)
  pub second_part : second ≡ part_of (before_mark boundary rest)

without_fault : (t : Bool) (fault : PartFault) (r : Result (PartText × PartText) PartFault) (p : PartText × PartText) → cond t (Err fault) r ≡ Ok p
    → (t ≡ false) × (r ≡ Ok p)
without_fault true fault r p e = absurd cc
without_fault false fault r p e = (refl, e)

guarded : (t : Bool) (fault : PartFault) (r : Result (PartText × PartText) PartFault) (p : PartText × PartText) → cond t r (Err fault) ≡ Ok p → (t ≡ true)
    × (r ≡ Ok p)
guarded true fault r p e = (refl, e)
guarded false fault r p e = absurd cc

reads_second : (boundary : List ℕ) (ls : List (List ℕ)) (opening : List ℕ) (after : List (List ℕ)) (tail : List (List ℕ)) (first second : PartText)
    → from_mark boundary ls ≡ opening ∷ after → is_closing boundary opening ≡ false → list_any (is_closing boundary) after ≡ true
    → from_mark boundary after ≡ tail → behind_first boundary (part_of (before_mark boundary after)) tail ≡ Ok (first, second)
    → TwoPartsRead boundary ls first second
reads_second boundary ls opening after [] first second starts opens closed found e = absurd cc
reads_second boundary ls opening after (mark ∷ rest) first second starts opens closed found e =
    let c = without_fault (is_closing boundary mark) OnePart (Ok (part_of (before_mark boundary after), part_of (before_mark boundary rest)))
    (first, second) e in
    let same : (part_of (before_mark boundary after), part_of (before_mark boundary rest)) ≡ (first, second) = cc c.1 in
    record {
      opening = opening;
      after = after;
      between = mark;
      rest = rest;
      starts = starts;
      opens = opens;
      goes_on = found;
      parts = c.0;
      closed = closed;
      first_part = sym (ap (λ (p : PartText × PartText). p.0) same);
      second_part = sym (ap (λ (p : PartText × PartText). p.1) same);
    }

reads_first : (boundary : List ℕ) (ls tail : List (List ℕ)) (first second : PartText) → from_mark boundary ls ≡ tail
    → behind_preamble boundary tail ≡ Ok (first, second) → TwoPartsRead boundary ls first second
reads_first boundary ls [] first second found e = absurd cc
reads_first boundary ls (mark ∷ rest) first second found e =
    let c = without_fault (is_closing boundary mark) NoDelimiter _ (first, second) e in
    let g = guarded (list_any (is_closing boundary) rest) NotClosed _ (first, second) c.1 in
    reads_second boundary ls mark rest (from_mark boundary rest) first second found c.0 g.0 refl g.1

-- a mark that closes nothing is a delimiter
opens_by : (boundary mark : List ℕ) → is_mark boundary mark ≡ true → is_closing boundary mark ≡ false → IsDelimiter boundary mark
opens_by boundary mark marks open_line =
    elim (or_cases (is_delimiter boundary mark) (is_closing boundary mark) marks) [
      | inl d ↦ delimiter_is boundary mark d
      | inr c ↦ absurd (cc (sym open_line ∙ c))
    ]

ends_by : (boundary : List ℕ) (tail : List (List ℕ)) → list_any (is_closing boundary) tail ≡ true → (mark : List ℕ) × (after : List (List ℕ))
    × (tail ≡ mark ∷ after)
ends_by boundary [] e = absurd cc
ends_by boundary (mark ∷ after) e = (mark, after, refl)

has_closing : (boundary : List ℕ) (ls : List (List ℕ)) → list_any (is_closing boundary) ls ≡ true → Any (IsClosing boundary) ls
has_closing boundary ls e = let a = Any-from_list_any (is_closing boundary) ls e in (a.0, a.1, a.2, a.3, closing_is boundary a.1 a.4)

-- a closing line stands behind the second delimiter
closed_behind : (boundary : List ℕ) (after : List (List ℕ)) (between : List ℕ) (rest : List (List ℕ)) → from_mark boundary after ≡ between ∷ rest
    → is_closing boundary between ≡ false → list_any (is_closing boundary) after ≡ true → list_any (is_closing boundary) (from_mark boundary rest) ≡ true
closed_behind boundary after between rest found parts closed =
    let both : (is_closing boundary between || list_any (is_closing boundary) rest) ≡ true = sym (closing_after boundary after between rest found) ∙ closed in
    let later : list_any (is_closing boundary) rest ≡ true = rw parts at both in
    closing_from boundary rest ∙ later

pub found : (boundary body : List ℕ) (first second : PartText) → parts_reading boundary body ≡ Ok (first, second) → IsTwoParts boundary body first second
found boundary body first second e =
    let r = reads_first boundary (lines body) (from_mark boundary (lines body)) first second refl e in
    let a = cut_from boundary (lines body) r.opening r.after r.starts in
    let b = cut_from boundary r.after r.between r.rest r.goes_on in
    let closed = closed_behind boundary r.after r.between r.rest r.goes_on r.parts r.closed in
    let k = ends_by boundary (from_mark boundary r.rest) closed in
    let c = cut_from boundary r.rest k.0 k.1 k.2 in
    let behind : r.after ≡ before_mark boundary r.after ++ r.between ∷ (before_mark boundary r.rest ++ k.0 ∷ k.1) = b.whole
    ∙ ap (λ (ls : List (List ℕ)). before_mark boundary r.after ++ r.between ∷ ls) c.whole in
    record {
      preamble = before_mark boundary (lines body);
      opening = r.opening;
      first_lines = before_mark boundary r.after;
      between = r.between;
      second_lines = before_mark boundary r.rest;
      next = k.0;
      rest = k.1;
      whole = a.whole ∙ ap (λ (ls : List (List ℕ)). before_mark boundary (lines body) ++ r.opening ∷ ls) behind;
      opens = opens_by boundary r.opening a.marks r.opens;
      parts = opens_by boundary r.between b.marks r.parts;
      ends = mark_is boundary k.0 c.marks;
      closed = has_closing boundary (k.0 ∷ k.1) (ap (list_any (is_closing boundary)) (sym k.2) ∙ closed);
      before = no_mark_before boundary (lines body);
      in_first = no_mark_before boundary r.after;
      in_second = no_mark_before boundary r.rest;
      first_part = r.first_part;
      second_part = r.second_part;
    }

plain_lines : (boundary : List ℕ) (ls : List (List ℕ)) → HasNoMark boundary ls → Plain boundary ls
plain_lines boundary ls none = All-weaker (λ line. ¬ IsMark boundary line) (λ line. is_mark boundary line ≡ false) (λ line h. plain_of boundary line h) ls none

delimiter_marks : (boundary line : List ℕ) → IsDelimiter boundary line → is_mark boundary line ≡ true
delimiter_marks boundary line d = is_mark_of boundary line (inl d)

closes : (boundary : List ℕ) (ls : List (List ℕ)) → Any (IsClosing boundary) ls → list_any (is_closing boundary) ls ≡ true
closes boundary ls a = list_any-from_Any (is_closing boundary) ls (a.0, a.1, a.2, a.3, is_closing_of boundary a.1 a.4)

pub again : (boundary body : List ℕ) (first second : PartText) → IsTwoParts boundary body first second → parts_reading boundary body ≡ Ok (first, second)
again boundary body first second t =
    let rest = t.second_lines ++ t.next ∷ t.rest in
    let after = t.first_lines ++ t.between ∷ rest in
    let plain = plain_lines boundary t.preamble t.before in
    let plain_first = plain_lines boundary t.first_lines t.in_first in
    let plain_second = plain_lines boundary t.second_lines t.in_second in
    let between_marks = delimiter_marks boundary t.between t.parts in
    let next_marks = is_mark_of boundary t.next t.ends in
    let opens : HasDelimiter boundary body t.opening after = record {
      found = ap (from_mark boundary) t.whole ∙ from_mark_at boundary t.preamble t.opening after plain (delimiter_marks boundary t.opening t.opens);
      opens = delimiter_opens boundary t.opening (is_delimiter_of boundary t.opening t.opens);
    } in
    let goes = from_mark_at boundary t.first_lines t.between rest plain_first between_marks in
    let closed = closing_after boundary rest t.next t.rest (from_mark_at boundary t.second_lines t.next t.rest plain_second next_marks)
    ∙ closes boundary (t.next ∷ t.rest) t.closed in
    let one : part_of (before_mark boundary after) ≡ first =
    ap part_of (before_mark_at boundary t.first_lines t.between rest plain_first between_marks) ∙ sym t.first_part in
    let two : part_of (before_mark boundary rest) ≡ second =
    ap part_of (before_mark_at boundary t.second_lines t.next t.rest plain_second next_marks) ∙ sym t.second_part in
    sym (reads_two boundary body t.opening after t.between rest opens goes
    (delimiter_opens boundary t.between (is_delimiter_of boundary t.between t.parts)) closed) ∙ (λ i. Ok (one i, two i))

-- ---- the answer of the code

pub found_if : (boundary body : List ℕ) (r : Result (Part × Part) PartFault) → parts_result r ≡ parts_reading boundary body
    → IfOk r (λ parts. IsTwoParts boundary body (part_text parts.0) (part_text parts.1))
found_if boundary body (Ok parts) e = found boundary body (part_text parts.0) (part_text parts.1) (sym e)
found_if boundary body (Err fault) e = tt

-- The fault of a body, by its delimiters and closing lines.
use Rattle.std.proofs.Common.{◌≡◌, ◌==◌, ℕ, ◌+◌, true, false, List, [], ◌∷◌, Result, Ok, Err, refl, sym, ap, ◌∙◌, arith, inl, inr}
use Rattle.std.specs.List.{list_any}
use Rattle.std.specs.Result.{result_err}
use Rattle.std.proofs.lemmas.Bool.{cases_Bool, or_parts, or_cases, ne_eqb}
use Rattle.as2_parts.specs.declared.parts.Part.{Part}
use Rattle.as2_parts.specs.declared.parts.PartFault.{PartFault}
use Rattle.as2_parts.specs.Lines.{lines, is_delimiter, is_closing, is_mark}
use Rattle.as2_parts.specs.Parts.{PartText, part_of, before_mark, from_mark, behind_first, behind_preamble, parts_reading, delimiters, delimiter_fault, part_fault, parts_result}
use Rattle.as2_parts.proofs.Reading.{closing_after}
use Rattle.as2_parts.proofs.TwoParts.{cut_from}

-- the delimiters stand from the first mark on
delimiters_from : (boundary : List ℕ) (ls : List (List ℕ)) → delimiters boundary (from_mark boundary ls) ≡ delimiters boundary ls
delimiters_from boundary [] = refl
delimiters_from boundary (line ∷ rest) =
    elim (cases_Bool (is_mark boundary line)) [
      | inl mark ↦ rw mark refl
      | inr plain ↦
          let p = or_parts (is_delimiter boundary line) (is_closing boundary line) plain in
          rw (plain, p.0, p.1) (delimiters_from boundary rest)
    ]

count_by : (boundary : List ℕ) (ls tail : List (List ℕ)) → from_mark boundary ls ≡ tail → delimiters boundary ls ≡ delimiters boundary tail
count_by boundary ls tail found = sym (delimiters_from boundary ls) ∙ ap (delimiters boundary) found

-- a mark that closes nothing counts
counts : (boundary : List ℕ) (ls : List (List ℕ)) (mark : List ℕ) (after : List (List ℕ)) → from_mark boundary ls ≡ mark ∷ after
    → is_closing boundary mark ≡ false → delimiters boundary ls ≡ 1 + delimiters boundary after
counts boundary ls mark after found plain =
    elim (or_cases (is_delimiter boundary mark) (is_closing boundary mark) (cut_from boundary ls mark after found).marks) [
      | inl d ↦ count_by boundary ls (mark ∷ after) found ∙ rw (plain, d) refl
      | inr c ↦ absurd (cc (sym plain ∙ c))
    ]

counts_none : (boundary : List ℕ) (ls : List (List ℕ)) (mark : List ℕ) (after : List (List ℕ)) → from_mark boundary ls ≡ mark ∷ after
    → is_closing boundary mark ≡ true → delimiters boundary ls ≡ 0
counts_none boundary ls mark after found closes = count_by boundary ls (mark ∷ after) found ∙ rw closes refl

not_zero : (n : ℕ) → ((1 + n) == 0) ≡ false
not_zero n = ne_eqb (1 + n) 0 (λ e. absurd (omega (arith, e)))

not_one : (n : ℕ) → ((1 + (1 + n)) == 1) ≡ false
not_one n = ne_eqb (1 + (1 + n)) 1 (λ e. absurd (omega (arith, e)))

second_fault : (boundary : List ℕ) (first : PartText) (ls tail : List (List ℕ)) → from_mark boundary ls ≡ tail
    → result_err (behind_first boundary first tail) ≡ delimiter_fault (1 + delimiters boundary ls) true
second_fault boundary first ls [] found = rw (count_by boundary ls [] found) refl
second_fault boundary first ls (mark ∷ rest) found =
    elim (cases_Bool (is_closing boundary mark)) [
      | inl closes ↦ rw (counts_none boundary ls mark rest found closes, closes) refl
      | inr plain ↦ rw (counts boundary ls mark rest found plain, plain, not_zero (1 + delimiters boundary rest), not_one (delimiters boundary rest)) refl
    ]

first_fault : (boundary : List ℕ) (ls tail : List (List ℕ)) → from_mark boundary ls ≡ tail
    → result_err (behind_preamble boundary tail) ≡ delimiter_fault (delimiters boundary ls) (list_any (is_closing boundary) ls)
first_fault boundary ls [] found = rw (count_by boundary ls [] found) refl
first_fault boundary ls (mark ∷ rest) found =
    elim (cases_Bool (is_closing boundary mark)) [
      | inl closes ↦ rw (counts_none boundary ls mark rest found closes, closes) refl
      | inr plain ↦
          let any : list_any (is_closing boundary) ls ≡ list_any (is_closing boundary) rest = closing_after boundary ls mark rest found ∙ rw plain refl in
          elim (cases_Bool (list_any (is_closing boundary) rest)) [
            | inl closed ↦ rw (counts boundary ls mark rest found plain, any, plain, closed)
                (second_fault boundary (part_of (before_mark boundary rest)) rest (from_mark boundary rest) refl)
            | inr none ↦ rw (counts boundary ls mark rest found plain, any, plain, none, not_zero (delimiters boundary rest)) refl
          ]
    ]

pub fault_is : (boundary body : List ℕ) (r : Result (Part × Part) PartFault) → parts_result r ≡ parts_reading boundary body
    → result_err r ≡ part_fault boundary body
fault_is boundary body (Ok parts) e = ap result_err e ∙ first_fault boundary (lines body) (from_mark boundary (lines body)) refl
fault_is boundary body (Err fault) e = ap result_err e ∙ first_fault boundary (lines body) (from_mark boundary (lines body)) refl

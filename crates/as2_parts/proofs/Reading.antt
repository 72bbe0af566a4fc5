-- The parts of a body, mark by mark.
use Rattle.std.proofs.Common.{◌≡◌, ℕ, true, false, List, [], ◌∷◌, Ok, Err, refl, sym, ap, ◌∙◌, inl, inr}
use Rattle.std.specs.Prelude.{◌||◌}
use Rattle.std.specs.List.{list_any}
use Rattle.std.proofs.lemmas.Bool.{cases_Bool, or_parts, or_left, or_right}
use Rattle.as2_parts.specs.declared.parts.PartFault.TheVariants.{OnePart, NotClosed}
use Rattle.as2_parts.specs.Lines.{lines, is_delimiter, is_closing, is_mark}
use Rattle.as2_parts.specs.Parts.{part_of, before_mark, from_mark, parts_reading}

-- the closing lines stand from the first mark on
pub closing_from : (boundary : List ℕ) (ls : List (List ℕ)) → list_any (is_closing boundary) (from_mark boundary ls) ≡ list_any (is_closing boundary) ls
closing_from boundary [] = refl
closing_from boundary (line ∷ rest) =
    elim (cases_Bool (is_mark boundary line)) [
      | inl mark ↦ rw mark refl
      | inr plain ↦ rw (plain, (or_parts (is_delimiter boundary line) (is_closing boundary line) plain).1) (closing_from boundary rest)
    ]

pub unclosed : (boundary : List ℕ) (ls : List (List ℕ)) → from_mark boundary ls ≡ [] → list_any (is_closing boundary) ls ≡ false
unclosed boundary ls none = sym (closing_from boundary ls) ∙ ap (list_any (is_closing boundary)) none

pub closing_after : (boundary : List ℕ) (ls : List (List ℕ)) (mark : List ℕ) (after : List (List ℕ)) → from_mark boundary ls ≡ mark ∷ after
    → list_any (is_closing boundary) ls ≡ (is_closing boundary mark || list_any (is_closing boundary) after)
closing_after boundary ls mark after found = sym (closing_from boundary ls) ∙ ap (list_any (is_closing boundary)) found

-- the body has a first delimiter, and these are the lines behind it
pub record HasDelimiter (boundary body opening : List ℕ) (after : List (List ℕ)) : Type 0 where
  pub found : from_mark boundary (lines body) ≡ opening ∷ after
  pub opens : is_closing boundary opening ≡ false

pub reads_unclosed : (boundary body opening : List ℕ) (after : List (List ℕ)) → HasDelimiter boundary body opening after
    → list_any (is_closing boundary) after ≡ false → Err NotClosed ≡ parts_reading boundary body
reads_unclosed boundary body opening after o none = rw (o.found, o.opens, none) refl

pub reads_one : (boundary body opening : List ℕ) (after : List (List ℕ)) (closing : List ℕ) (rest : List (List ℕ)) → HasDelimiter boundary body opening after
    → from_mark boundary after ≡ closing ∷ rest → is_closing boundary closing ≡ true → Err OnePart ≡ parts_reading boundary body
reads_one boundary body opening after closing rest o found closes =
    let any : list_any (is_closing boundary) after ≡ true = closing_after boundary after closing rest found
    ∙ or_left (is_closing boundary closing) (list_any (is_closing boundary) rest) closes in
    rw (o.found, o.opens, any, found, closes) refl

pub reads_two : (boundary body opening : List ℕ) (after : List (List ℕ)) (between : List ℕ) (rest : List (List ℕ)) → HasDelimiter boundary body opening after
    → from_mark boundary after ≡ between ∷ rest → is_closing boundary between ≡ false → list_any (is_closing boundary) rest ≡ true
    → Ok (part_of (before_mark boundary after), part_of (before_mark boundary rest)) ≡ parts_reading boundary body
reads_two boundary body opening after between rest o found goes closed =
    let any : list_any (is_closing boundary) after ≡ true = closing_after boundary after between rest found
    ∙ or_right (is_closing boundary between) (list_any (is_closing boundary) rest) closed in
    rw (o.found, o.opens, any, found, goes) refl

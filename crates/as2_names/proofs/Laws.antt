-- What the definitions say of texts that are put together, for the crates above.
use Rattle.std.proofs.Common.{◌≡◌, ℕ, ◌+◌, ◌-◌, true, List, [], ◌∷◌, ◌++◌, length, get_or, eq-eqb, refl, arith, inl, inr}
use Rattle.std.specs.Prelude.{◌==◌, nat_le}
use Rattle.std.specs.Str.{bytes_eq}
use Rattle.std.proofs.lemmas.Bool.{cases_Bool, and_from}
use Rattle.std.proofs.lemmas.Bool.Decides.{nat_tests}
use Rattle.std.proofs.lemmas.List.{length_push, take_at, get_or_push}
use Rattle.as2_names.specs.Ascii.{open_angle, close_angle}
use Rattle.as2_names.specs.Identifiers.{is_bracketed, without_brackets}
use Rattle.as2_names.specs.Heads.{values}

-- the value of a text between angle brackets is what stands between them
pub value_of-bracketed : (value : List ℕ) → without_brackets (open_angle ∷ value ++ close_angle ∷ []) ≡ value
unfolding without_brackets
value_of-bracketed value =
    let text = open_angle ∷ value ++ close_angle ∷ [] in
    let long : length text ≡ length value + 2 = omega (arith, length_push (open_angle ∷ value) close_angle) in
    let last : get_or text (length text - 1) 0 ≡ close_angle = get_or_push (open_angle ∷ value) close_angle 0 (length text - 1) (omega arith) in
    let two : nat_le 2 (length text) ≡ true = grind (arith, nat_tests) in
    let closing : (get_or text (length text - 1) 0 == close_angle) ≡ true = eq-eqb _ _ last in
    let bracketed : is_bracketed text ≡ true = and_from _ _ (and_from (nat_le 2 (length text)) true two refl) closing in
    rw bracketed (take_at value (close_angle ∷ []) (length text - 1 - 1) (omega arith))

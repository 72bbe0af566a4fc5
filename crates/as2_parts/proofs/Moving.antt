-- A place in a text that moves on by a line.
use Rattle.std.proofs.Common.{◌≡◌, ℕ, ◌+◌, ◌≤◌, List, ◌++◌, length, take, drop, refl, sym, ap, ◌∙◌, append_assoc, arith, length-append, length-drop}
use Rattle.std.proofs.lemmas.List.{take_at, drop_at, drop-drop, length-take-le, take-append-drop}

-- the rest stands at that place of the text
pub record StandsAt (text : List ℕ) (place : ℕ) (rest : List ℕ) : Type 0 where
  pub within : place ≤ length text
  pub is : drop place text ≡ rest

put_together : (text : List ℕ) (place : ℕ) (line after : List ℕ) → drop place text ≡ line ++ after → text ≡ (take place text ++ line) ++ after
put_together text place line after e = sym (take-append-drop place text) ∙ ap (λ (t : List ℕ). take place text ++ t) e
    ∙ sym (append_assoc (take place text) line after)

front_length : (text : List ℕ) (place : ℕ) (line : List ℕ) → place ≤ length text → length (take place text ++ line) ≡ place + length line
front_length text place line le = omega (arith, length-append (take place text) line, length-take-le place text le)

pub front_on : (text rest line after : List ℕ) (place : ℕ) → StandsAt text place rest → rest ≡ line ++ after
    → take (place + length line) text ≡ take place text ++ line
front_on text rest line after place s e =
    ap (take (place + length line)) (put_together text place line after (s.is ∙ e))
    ∙ take_at (take place text ++ line) after (place + length line) (front_length text place line s.within)

pub stands_on : (text rest line after : List ℕ) (place : ℕ) → StandsAt text place rest → rest ≡ line ++ after → StandsAt text (place + length line) after
stands_on text rest line after place s e =
    let long : length (drop place text) ≡ length line + length after = ap length (s.is ∙ e) ∙ length-append line after in
    record {
      within = omega (arith, s.within, long, length-drop place text);
      is = sym (drop-drop (length line) place text) ∙ ap (drop (length line)) (s.is ∙ e) ∙ drop_at line after (length line) refl;
    }

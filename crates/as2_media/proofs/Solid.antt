-- Tokens and values have no blank and no line end at their ends.
use Rattle.std.proofs.Common.{◌≡◌, ℕ, ◌≤◌, Bool, true, false, List, [], ◌∷◌, ◌++◌, length, drop, refl, ap, arith, inl, inr}
use Rattle.std.specs.Prelude.{◌&&◌, ◌||◌, ◌==◌, not}
use Rattle.std.specs.List.{list_all}
use Rattle.std.proofs.lemmas.Bool.{cases_Bool, and_parts}
use Rattle.std.proofs.lemmas.Bool.Decides.{nat_tests}
use Rattle.as2_names.specs.Ascii.{quote, semicolon, line_feed, carriage_return}
use Rattle.as2_names.specs.Blanks.{is_blank}
use Rattle.as2_names.specs.Trim.{falls_off, all_fall_off, without_front, without_back, trimmed_text}
use Rattle.as2_media.specs.Bytes.{is_token_byte, is_token, is_special, is_bare_byte}
use Rattle.as2_media.specs.Values.{IsBare, SpellsValue, in_quotes}
use Rattle.as2_media.proofs.Padding.{is_margin, IsSolid, IsUnpadded, one_ends, more_ends, front_ends, solid}

token_byte_inside : (b : ℕ) → is_token_byte b ≡ true → is_margin b ≡ false
token_byte_inside b h =
    let p = and_parts _ (not (is_special b)) h in
    let visible = p.0 in
    grind (arith, nat_tests, visible)

tokens_end : (b : ℕ) (rest : List ℕ) → list_all is_token_byte (b ∷ rest) ≡ true → IsUnpadded (b ∷ rest)
tokens_end b [] h = one_ends b (token_byte_inside b (and_parts (is_token_byte b) true h).0)
tokens_end b (c ∷ rest) h = more_ends b (c ∷ rest) (tokens_end c rest (and_parts (is_token_byte b) (list_all is_token_byte (c ∷ rest)) h).1)

-- all bytes of a token are its bytes
token_bytes : (text : List ℕ) → is_token text ≡ true → list_all is_token_byte text ≡ true
token_bytes text h = (and_parts (not (length text == 0)) (list_all is_token_byte text) h).1

token_first : (b : ℕ) (rest : List ℕ) → is_token (b ∷ rest) ≡ true → is_margin b ≡ false
token_first b rest h = token_byte_inside b (and_parts (is_token_byte b) (list_all is_token_byte rest) (token_bytes (b ∷ rest) h)).0

pub token_solid : (text : List ℕ) → is_token text ≡ true → IsSolid text
token_solid [] h = absurd cc
token_solid (b ∷ rest) h = solid b rest (token_first b rest h) (tokens_end b rest (token_bytes (b ∷ rest) h))

-- two tokens and the byte between them
pub tokens_solid : (text : List ℕ) (c : ℕ) (behind : List ℕ) → is_token text ≡ true → IsSolid behind → IsSolid (text ++ c ∷ behind)
tokens_solid [] c behind h s = absurd cc
tokens_solid (b ∷ rest) c behind h s =
    solid b (rest ++ c ∷ behind) (token_first b rest h) (front_ends (b ∷ rest) (c ∷ behind) (more_ends c behind s.ends))

-- ---- values

quoted_solid : (value : List ℕ) → IsSolid (in_quotes value)
quoted_solid value = solid quote (value ++ quote ∷ []) refl (front_ends (quote ∷ value) (quote ∷ []) (one_ends quote refl))

front_shorter : (text : List ℕ) → length (without_front text) ≤ length text
front_shorter [] = omega arith
front_shorter (b ∷ rest) =
    elim (cases_Bool (falls_off b rest)) [
      | inl off ↦ rw off (omega (arith, front_shorter rest))
      | inr on ↦ rw on (omega arith)
    ]

back_shorter : (text : List ℕ) → length (without_back text) ≤ length text
back_shorter [] = omega arith
back_shorter (b ∷ rest) =
    elim (cases_Bool (all_fall_off (b ∷ rest))) [
      | inl all ↦ rw all (omega arith)
      | inr some ↦ rw some (omega (arith, back_shorter rest))
    ]

-- the first byte of a text that is kept stays
first_stays : (b : ℕ) (rest : List ℕ) → trimmed_text (b ∷ rest) ≡ b ∷ rest → falls_off b rest ≡ false
first_stays b rest e =
    elim (cases_Bool (falls_off b rest)) [
      | inl off ↦
          let shorter : without_back (without_front rest) ≡ b ∷ rest = rw off at e in
          absurd (omega (arith, ap length shorter, back_shorter (without_front rest), front_shorter rest))
      | inr on ↦ on
    ]

blank_of : (p x : Bool) → (p || x) ≡ false → p ≡ false
blank_of true x h = h
blank_of false x h = refl

no_line : (p q r x y : Bool) → (not x && not y && not (q || r)) ≡ true → p ≡ false → (p || (r || q)) ≡ false
no_line p true r true y h e = absurd cc
no_line p true r false true h e = absurd cc
no_line p true r false false h e = absurd cc
no_line p false true true y h e = absurd cc
no_line p false true false true h e = absurd cc
no_line p false true false false h e = absurd cc
no_line true false false x y h e = absurd cc
no_line false false false x y h e = refl

-- a byte of a value without quotes that stays is no blank
bare_inside : (b : ℕ) (rest : List ℕ) → is_bare_byte b ≡ true → falls_off b rest ≡ false → is_margin b ≡ false
bare_inside b rest h on =
    no_line (is_blank b) (b == carriage_return) (b == line_feed) (b == semicolon) (b == quote) h (blank_of (is_blank b) _ on)

bare_end : (b : ℕ) (rest : List ℕ) → list_all is_bare_byte (b ∷ rest) ≡ true → without_back (b ∷ rest) ≡ b ∷ rest → IsUnpadded (b ∷ rest)
bare_end b [] h e =
    elim (cases_Bool (falls_off b [])) [
      | inl off ↦ absurd (let n : [] ≡ b ∷ [] = rw off at e in cc)
      | inr on ↦ one_ends b (bare_inside b [] (and_parts (is_bare_byte b) true h).0 on)
    ]
bare_end b (c ∷ rest) h e =
    elim (cases_Bool (all_fall_off (b ∷ c ∷ rest))) [
      | inl all ↦ absurd (let n : [] ≡ b ∷ c ∷ rest = rw all at e in cc)
      | inr some ↦
          let kept : b ∷ without_back (c ∷ rest) ≡ b ∷ c ∷ rest = rw some at e in
          more_ends b (c ∷ rest) (bare_end c rest (and_parts (is_bare_byte b) (list_all is_bare_byte (c ∷ rest)) h).1 (ap (drop 1) kept))
    ]

bare_solid : (value : List ℕ) → IsBare value → IsSolid value
bare_solid [] v = absurd (v.some refl)
bare_solid (b ∷ rest) v =
    let on = first_stays b rest v.trim in
    let kept : without_back (b ∷ rest) ≡ b ∷ rest = rw on at v.trim in
    solid b rest (bare_inside b rest (and_parts (is_bare_byte b) (list_all is_bare_byte rest) v.bytes).0 on) (bare_end b rest v.bytes kept)

pub value_solid : (text value : List ℕ) → SpellsValue text value → IsSolid text
value_solid text value s =
    elim s [
      | inl x ↦ rw x.1 (bare_solid value x.0)
      | inr x ↦ rw x.1 (quoted_solid value)
    ]

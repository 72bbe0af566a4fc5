-- No line feed stands in the text of a value.
use Rattle.std.proofs.Common.{◌≡◌, ℕ, ℤ, zero, suc, pos, negsuc, ◌/◌, ◌%◌, ◌==◌, Bool, true, false, cond, List, [], ◌∷◌, ◌++◌, decimal, refl, arith}
use Rattle.std.proofs.lemmas.Bool.Decides.{nat_tests}
use Rattle.std.specs.Prelude.{nat_lt}
use Rattle.std.specs.Char.{digit_char}
use Rattle.std.specs.Fmt.{digits, digits_onto, digit_glyph, signed_decimal}
use Rattle.std.specs.List.{AllByRecursion}
use Rattle.json.specs.Print.{escape, escape_byte, escape_letter, quoted}
use Rattle.serde_json.specs.Data.{Num, unsigned, negative, float, Data, null, boolean, number, string, array, object, Items, no_items, item, Members, no_members, member}
use Rattle.serde_json.specs.Written.{number_text, comma_if, compact_text, items_text, members_text}

-- the byte is no line feed
abbrev pub IsOther : ℕ → Type 0
IsOther b = (b == 10) ≡ false

-- none of the bytes is
abbrev pub IsClean : List ℕ → Type 0
IsClean = AllByRecursion IsOther

clean-append : (xs ys : List ℕ) → IsClean xs → IsClean ys → IsClean (xs ++ ys)
clean-append [] ys h k = k
clean-append (x ∷ xs) ys h k = (h.0, clean-append xs ys h.1 k)

either_clean : (b : Bool) (xs ys : List ℕ) → IsClean xs → IsClean ys → IsClean (cond b xs ys)
either_clean true xs ys h k = h
either_clean false xs ys h k = k

-- ---- numbers

glyph_other : (d : ℕ) → IsOther (digit_glyph false d)
glyph_other d = grind (arith, nat_tests)

digits_clean : (k n : ℕ) (acc : List ℕ) → IsClean acc → IsClean (digits_onto k 10 false n acc)
digits_clean zero n acc h = h
digits_clean (suc k) n acc h =
    let more : IsClean (digit_glyph false (n % 10) ∷ acc) = (glyph_other (n % 10), h) in
    either_clean (n / 10 == 0) _ _ more (digits_clean k (n / 10) _ more)

decimal_clean : (n : ℕ) → IsClean (decimal n)
unfolding digits
decimal_clean n = digits_clean 64 n [] tt

signed_clean : (z : ℤ) → IsClean (signed_decimal z)
signed_clean (pos n) = decimal_clean n
signed_clean (negsuc n) = (refl, decimal_clean (suc n))

number_clean : (n : Num) → IsClean (number_text n)
number_clean (unsigned n) = decimal_clean n
number_clean (negative z) = signed_clean z
number_clean (float x) = tt

-- ---- texts

char_other : (d : ℕ) → IsOther (digit_char d)
char_other d = grind (arith, nat_tests)

letter_other : (x : ℕ) → IsOther (escape_letter x)
letter_other x = grind (arith, nat_tests)

long_clean : (x : ℕ) (low : Bool) → nat_lt x 32 ≡ low → IsClean (cond low (92 ∷ 117 ∷ 48 ∷ 48 ∷ digit_char (x / 16) ∷ digit_char (x % 16) ∷ []) (x ∷ []))
long_clean x true e = (refl, (refl, (refl, (refl, (char_other (x / 16), (char_other (x % 16), tt))))))
long_clean x false e = let other : IsOther x = grind (arith, nat_tests) in (other, tt)

byte_clean : (x : ℕ) → IsClean (escape_byte x)
unfolding escape_byte
byte_clean x = either_clean (nat_lt 0 (escape_letter x)) _ _ (refl, (letter_other x, tt)) (long_clean x (nat_lt x 32) refl)

escape_clean : (s : List ℕ) → IsClean (escape s)
escape_clean [] = tt
escape_clean (x ∷ s) = clean-append (escape_byte x) (escape s) (byte_clean x) (escape_clean s)

quoted_clean : (s : List ℕ) → IsClean (quoted s)
quoted_clean s = (refl, clean-append (escape s) (34 ∷ []) (escape_clean s) (refl, tt))

-- ---- values

comma_clean : (later : Bool) → IsClean (comma_if later)
comma_clean true = (refl, tt)
comma_clean false = tt

mutual
  pub value_clean : (d : Data) → IsClean (compact_text d)
  value_clean null = (refl, (refl, (refl, (refl, tt))))
  value_clean (boolean true) = (refl, (refl, (refl, (refl, tt))))
  value_clean (boolean false) = (refl, (refl, (refl, (refl, (refl, tt)))))
  value_clean (number n) = number_clean n
  value_clean (string s) = quoted_clean s
  value_clean (array ds) = (refl, items_clean false ds)
  value_clean (object ms) = (refl, members_clean false ms)

  items_clean : (later : Bool) (ds : Items) → IsClean (items_text later ds)
  items_clean later no_items = (refl, tt)
  items_clean later (item d ds) = clean-append (comma_if later) _ (comma_clean later) (clean-append (compact_text d) _ (value_clean d) (items_clean true ds))

  members_clean : (later : Bool) (ms : Members) → IsClean (members_text later ms)
  members_clean later no_members = (refl, tt)
  members_clean later (member k d ms) =
      clean-append (comma_if later) _ (comma_clean later)
      (clean-append (quoted k) _ (quoted_clean k) (refl, clean-append (compact_text d) _ (value_clean d) (members_clean true ms)))

-- A MIC is a text of letters, digits, `+`, `/` and `=`.
use Rattle.std.proofs.Common.{ℕ, zero, suc, ◌+◌, ◌*◌, ◌<◌, ◌/◌, ◌%◌, List, [], ◌∷◌, ◌++◌, length, map, refl, arith}
use Rattle.std.specs.Prelude.{IsTrue, slice_index, replicate, ⊤}
use Rattle.std.specs.List.{list_all}
use Rattle.std.specs.Int.{w32, byte_at, to_le_bytes, to_be_bytes}
use Rattle.std.proofs.lemmas.Bool.{and_from, and_parts}
use Rattle.sha1.specs.Sha1 as sha1
use Rattle.sha2.specs.Sha256 as sha256
use Rattle.md5.specs.Md5 as md5
use Rattle.base64.specs.Rfc4648.{encode_symbols, encode_group, padding_len}
use Rattle.base64.specs.Engines.{standard}
use Rattle.as2_mic.specs.declared.alg.Alg.{Alg}
use Rattle.as2_mic.specs.declared.alg.Alg.TheVariants.{Md5, Sha1, Sha256}
use Rattle.as2_mic.specs.Mic.{digest, base64_text, mic}
use Rattle.as2_mdn.specs.MicBytes.{is_mic_byte, IsOfMicBytes}

-- each number is below the bound
abbrev AreBelow : ℕ → List ℕ → Type 0
AreBelow bound [] = ⊤
AreBelow bound (n ∷ rest) = (n < bound) × AreBelow bound rest

below_append : (bound : ℕ) (front back : List ℕ) → AreBelow bound front → AreBelow bound back → AreBelow bound (front ++ back)
below_append bound [] back f b = b
below_append bound (n ∷ front) back f b = (f.0, below_append bound front back f.1 b)

-- ---- a digest is bytes

abbrev AreBytes : List ℕ → Type 0
AreBytes m = AreBelow 256 m

byte_small : (i n : ℕ) → byte_at i n < 256
byte_small zero n = omega arith
byte_small (suc i) n = omega arith

low_first : (n : ℕ) → AreBytes (to_le_bytes w32 n)
low_first n = (byte_small 0 n, (byte_small 1 n, (byte_small 2 n, (byte_small 3 n, tt))))

high_first : (n : ℕ) → AreBytes (to_be_bytes w32 n)
high_first n = (byte_small 3 n, (byte_small 2 n, (byte_small 1 n, (byte_small 0 n, tt))))

md5_bytes : (hash : List ℕ) (n : ℕ) → AreBytes (md5.digest_bytes hash n)
unfolding md5.digest_bytes
md5_bytes hash zero = tt
md5_bytes hash (suc n) = below_append 256 (md5.digest_bytes hash n) (to_le_bytes w32 (slice_index hash n)) (md5_bytes hash n) (low_first (slice_index hash n))

sha1_bytes : (hash : List ℕ) (n : ℕ) → AreBytes (sha1.digest_bytes hash n)
unfolding sha1.digest_bytes
sha1_bytes hash zero = tt
sha1_bytes hash (suc n) =
    below_append 256 (sha1.digest_bytes hash n) (to_be_bytes w32 (slice_index hash n)) (sha1_bytes hash n) (high_first (slice_index hash n))

sha256_bytes : (hash : List ℕ) (n : ℕ) → AreBytes (sha256.digest_bytes hash n)
unfolding sha256.digest_bytes
sha256_bytes hash zero = tt
sha256_bytes hash (suc n) =
    below_append 256 (sha256.digest_bytes hash n) (to_be_bytes w32 (slice_index hash n)) (sha256_bytes hash n) (high_first (slice_index hash n))

digest_is_bytes : (alg : Alg) (content : List ℕ) → AreBytes (digest alg content)
unfolding md5.md5 sha1.sha1 sha256.sha256
digest_is_bytes Md5 content = md5_bytes _ 4
digest_is_bytes Sha1 content = sha1_bytes _ 5
digest_is_bytes Sha256 content = sha256_bytes _ 8

-- ---- the base64 text of bytes

text_append : (front back : List ℕ) → IsOfMicBytes front → IsOfMicBytes back → IsOfMicBytes (front ++ back)
text_append [] back f b = b
text_append (x ∷ front) back f b =
    let parts = and_parts (is_mic_byte x) (list_all is_mic_byte front) f in
    and_from (is_mic_byte x) (list_all is_mic_byte (front ++ back)) parts.0 (text_append front back parts.1 b)

-- each of the first n places of the table holds such a byte
abbrev InTable : List ℕ → ℕ → Type 0
InTable t n = (i : ℕ) → i < n → IsTrue (is_mic_byte (slice_index t i))

at_places : (t places : List ℕ) → InTable t 64 → AreBelow 64 places → IsOfMicBytes (map (slice_index t) places)
at_places t [] h below = refl
at_places t (i ∷ places) h below =
    and_from (is_mic_byte (slice_index t i)) (list_all is_mic_byte (map (slice_index t) places)) (h i below.0) (at_places t places h below.1)

symbols : (t m : List ℕ) → InTable t 64 → AreBytes m → IsOfMicBytes (encode_symbols t m)
unfolding encode_symbols
symbols t [] h m = refl
symbols t (a ∷ []) h m = at_places t (a / 4 ∷ a % 4 * 16 ∷ []) h (omega (arith, m.0), (omega arith, tt))
symbols t (a ∷ b ∷ []) h m =
    at_places t (a / 4 ∷ (a % 4 * 16 + b / 16) ∷ b % 16 * 4 ∷ []) h (omega (arith, m.0), (omega (arith, m.1.0), (omega arith, tt)))
symbols t (a ∷ b ∷ c ∷ rest) h m =
    let group = at_places t (a / 4 ∷ (a % 4 * 16 + b / 16) ∷ (b % 16 * 4 + c / 64) ∷ c % 64 ∷ []) h
    (omega (arith, m.0), (omega (arith, m.1.0), (omega (arith, m.1.1.0), (omega arith, tt)))) in
    text_append (encode_group t a b c) (encode_symbols t rest) group (symbols t rest h m.1.1.1)

fills : (n pad : ℕ) → IsTrue (is_mic_byte pad) → IsOfMicBytes (replicate n pad)
fills zero pad h = refl
fills (suc n) pad h = and_from (is_mic_byte pad) (list_all is_mic_byte (replicate n pad)) h (fills n pad h)

at_place : (t : List ℕ) → IsOfMicBytes t → InTable t (length t)
at_place [] h i lt = absurd (omega (arith, lt))
at_place (x ∷ t) h zero lt = (and_parts (is_mic_byte x) (list_all is_mic_byte t) h).0
at_place (x ∷ t) h (suc i) lt = at_place t (and_parts (is_mic_byte x) (list_all is_mic_byte t) h).1 i (omega (arith, lt))

encoded_of_mic_bytes : (m : List ℕ) → AreBytes m → IsOfMicBytes (base64_text m)
encoded_of_mic_bytes m h =
    text_append (encode_symbols standard.encode_table m) (replicate (padding_len (length m)) 61)
    (symbols standard.encode_table m (at_place standard.encode_table refl) h) (fills (padding_len (length m)) 61 refl)

-- every byte of a MIC is a letter, a digit, `+`, `/` or `=`
pub mic_has_mic_bytes : (alg : Alg) (content : List ℕ) → IsOfMicBytes (mic alg content)
mic_has_mic_bytes alg content = encoded_of_mic_bytes (digest alg content) (digest_is_bytes alg content)

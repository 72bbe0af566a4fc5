-- The words of a demand and the files of an outcome, while their text is read.
use Rattle.std.proofs.Common.{◌≡◌, ℕ, ◌+◌, ◌^◌, ◌<◌, ◌≤◌, List, [], ◌∷◌, ◌++◌, ◌==◌, false, length, refl, sym, ◌∙◌, ap, subst, arith}
use Rattle.std.specs.Prelude.{IsUtf8}
use Rattle.std.proofs.lemmas.List.{append_assoc, append-nil, length-append, length_push}
use Rattle.std.proofs.lemmas.List.Elements.{All-nil}
use Rattle.as2_control.specs.Demands.{AreWords, words_text}
use Rattle.as2_control.specs.Frames.{framed_field}
use Rattle.as2_control.specs.Outcomes.{AreFiles, FileValue, file_text, files_text}
use Rattle.as2_control.proofs.Lengths.{length-framed_field, shorter_behind}
use Rattle.as2_control.proofs.Sequences.{HasRead, ended, fields_are_code, files_are_code, follows, next, none_left, read_more, right_next, shorter_behind_file}

-- ---- words

-- so many words stand before the rest
pub record CountsWords (text : List ℕ) (count : ℕ) (rest : List ℕ) : Type 0 where
  pub read : HasRead framed_field IsUtf8 text rest
  pub counted : length read.earlier ≡ count
  pub few : count ≤ 256

pub no_words_yet : (text : List ℕ) → CountsWords text 0 text
no_words_yet text = record {
  read = record { earlier = []; whole = refl; right = All-nil IsUtf8 };
  counted = refl;
  few = omega arith;
}

pub one_word_more : (text : List ℕ) (count : ℕ) (rest word behind : List ℕ) → CountsWords text count rest → rest ≡ framed_field word ++ behind
    → IsUtf8 word → count < 256 → CountsWords text (count + 1) behind
unfolding read_more
one_word_more text count rest word behind c begins spelled less = record {
  read = read_more framed_field IsUtf8 text rest c.read word behind begins spelled;
  counted = length_push c.read.earlier word ∙ ap (λ n. n + 1) c.counted;
  few = omega arith;
}

pub too_many_words : (text : List ℕ) (count : ℕ) (rest word behind : List ℕ) → CountsWords text count rest → length text < 2 ^ 32
    → rest ≡ framed_field word ++ behind → count ≡ 256 → (words : List (List ℕ)) → ¬ AreWords text words
too_many_words text count rest word behind c short begins full words are =
    let f = follows framed_field IsUtf8 fields_are_code text rest c.read short word behind begins words are.whole in
    omega (arith, ap length f.all_is, length-append c.read.earlier (word ∷ f.left), c.counted, are.few)

pub misspelt_word : (text : List ℕ) (count : ℕ) (rest word behind : List ℕ) → CountsWords text count rest → length text < 2 ^ 32
    → rest ≡ framed_field word ++ behind → ¬ IsUtf8 word → (words : List (List ℕ)) → ¬ AreWords text words
misspelt_word text count rest word behind c short begins misspelt words are =
    let f = follows framed_field IsUtf8 fields_are_code text rest c.read short word behind begins words are.whole in
    misspelt (right_next IsUtf8 c.read.earlier f.left words word f.all_is are.spelled)

-- no field begins there, as the code knows it
at_no_field : (rest : List ℕ) → ((field behind : List ℕ) → length field < 2 ^ 32 → ¬ (rest ≡ framed_field field ++ behind))
    → (field behind : List ℕ) → length (framed_field field) < 2 ^ 32 → ¬ (rest ≡ framed_field field ++ behind)
at_no_field rest none field behind small = none field behind (omega (arith, length-framed_field field))

pub no_word_more : (text : List ℕ) (count : ℕ) (rest : List ℕ) → CountsWords text count rest → length text < 2 ^ 32
    → ((field behind : List ℕ) → length field < 2 ^ 32 → ¬ (rest ≡ framed_field field ++ behind)) → (length rest == 0) ≡ false
    → (words : List (List ℕ)) → ¬ AreWords text words
no_word_more text count rest c short none some words are =
    ended framed_field IsUtf8 fields_are_code text rest c.read short (at_no_field rest none) some words are.whole

-- these words are made, and the rest is the others
pub record WordsLeft (text : List ℕ) (made : List (List ℕ)) (rest : List ℕ) : Type 0 where
  pub left : List (List ℕ)
  pub are : AreWords text (made ++ left)
  pub rest_is : rest ≡ words_text left
  pub short : length rest < 2 ^ 32

pub word_left : (text : List ℕ) (made : List (List ℕ)) (rest word behind : List ℕ) → WordsLeft text made rest → rest ≡ framed_field word ++ behind
    → IsUtf8 word
word_left text made rest word behind w begins =
    let n = next framed_field fields_are_code w.left rest word behind w.rest_is begins w.short in
    right_next IsUtf8 made n.later (made ++ w.left) word (ap (λ l. made ++ l) n.left_is) w.are.spelled

pub word_made : (text : List ℕ) (made : List (List ℕ)) (rest word behind : List ℕ) → WordsLeft text made rest → rest ≡ framed_field word ++ behind
    → WordsLeft text (made ++ word ∷ []) behind
word_made text made rest word behind w begins =
    let n = next framed_field fields_are_code w.left rest word behind w.rest_is begins w.short in
    let same : made ++ w.left ≡ (made ++ word ∷ []) ++ n.later = ap (λ l. made ++ l) n.left_is ∙ sym (append_assoc made (word ∷ []) n.later) in
    record {
      left = n.later;
      are = subst (AreWords text) same w.are;
      rest_is = n.behind_is;
      short = omega (arith, shorter_behind rest word behind begins, w.short);
    }

pub words_made : (text : List ℕ) (made : List (List ℕ)) (rest : List ℕ) → WordsLeft text made rest
    → ((field behind : List ℕ) → length field < 2 ^ 32 → ¬ (rest ≡ framed_field field ++ behind)) → AreWords text made
words_made text made rest w none =
    let empty : w.left ≡ [] = none_left framed_field w.left rest w.rest_is w.short (at_no_field rest none) in
    subst (AreWords text) (ap (λ l. made ++ l) empty ∙ append-nil made) w.are

-- ---- files

-- its name is UTF-8
abbrev pub IsNamed : FileValue → Type 0
IsNamed f = IsUtf8 f.name

pub misspelt_name : (text rest : List ℕ) (file : FileValue) (behind : List ℕ) → HasRead file_text IsNamed text rest → length text < 2 ^ 32
    → rest ≡ file_text file ++ behind → ¬ IsUtf8 file.name → (files : List FileValue) → ¬ AreFiles text files
misspelt_name text rest file behind r short begins misspelt files are =
    let f = follows file_text IsNamed files_are_code text rest r short file behind begins files are.whole in
    misspelt (right_next IsNamed r.earlier f.left files file f.all_is are.named)

pub no_file_more : (text rest : List ℕ) → HasRead file_text IsNamed text rest → length text < 2 ^ 32
    → ((file : FileValue) (behind : List ℕ) → length (file_text file) < 2 ^ 32 → ¬ (rest ≡ file_text file ++ behind)) → (length rest == 0) ≡ false
    → (files : List FileValue) → ¬ AreFiles text files
no_file_more text rest r short none some files are =
    ended file_text IsNamed files_are_code text rest r short none some files are.whole

-- these files are made, and the rest is the others
pub record FilesLeft (text : List ℕ) (made : List FileValue) (rest : List ℕ) : Type 0 where
  pub left : List FileValue
  pub are : AreFiles text (made ++ left)
  pub rest_is : rest ≡ files_text left
  pub short : length rest < 2 ^ 32

pub file_left : (text : List ℕ) (made : List FileValue) (rest : List ℕ) (file : FileValue) (behind : List ℕ) → FilesLeft text made rest
    → rest ≡ file_text file ++ behind → IsUtf8 file.name
file_left text made rest file behind w begins =
    let n = next file_text files_are_code w.left rest file behind w.rest_is begins w.short in
    right_next IsNamed made n.later (made ++ w.left) file (ap (λ l. made ++ l) n.left_is) w.are.named

pub file_made : (text : List ℕ) (made : List FileValue) (rest : List ℕ) (file : FileValue) (behind : List ℕ) → FilesLeft text made rest
    → rest ≡ file_text file ++ behind → FilesLeft text (made ++ file ∷ []) behind
file_made text made rest file behind w begins =
    let n = next file_text files_are_code w.left rest file behind w.rest_is begins w.short in
    let same : made ++ w.left ≡ (made ++ file ∷ []) ++ n.later = ap (λ l. made ++ l) n.left_is ∙ sym (append_assoc made (file ∷ []) n.later) in
    record {
      left = n.later;
      are = subst (AreFiles text) same w.are;
      rest_is = n.behind_is;
      short = omega (arith, shorter_behind_file rest file behind begins, w.short);
    }

pub files_made : (text : List ℕ) (made : List FileValue) (rest : List ℕ) → FilesLeft text made rest
    → ((file : FileValue) (behind : List ℕ) → length (file_text file) < 2 ^ 32 → ¬ (rest ≡ file_text file ++ behind)) → AreFiles text made
files_made text made rest w none =
    let empty : w.left ≡ [] = none_left file_text w.left rest w.rest_is w.short none in
    subst (AreFiles text) (ap (λ l. made ++ l) empty ∙ append-nil made) w.are

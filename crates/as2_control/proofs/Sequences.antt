-- Texts of one kind, one behind the other, as fields are and files: in which way they are cut.
use Rattle.std.proofs.Common.{◌≡◌, ℕ, ◌+◌, ◌^◌, ◌<◌, ◌≤◌, List, [], ◌∷◌, ◌++◌, ◌==◌, true, false, length, take, drop, map, get_or, refl, sym, ◌∙◌, ap, arith, lit<}
use Rattle.std.specs.List.{flat_map, All}
use Rattle.std.proofs.lemmas.Grind.{flat_map-append}
use Rattle.std.proofs.lemmas.List.{append_assoc, append-nil, drop_at, length-append, map-append, map_more, take-append-drop}
use Rattle.std.proofs.lemmas.List.Elements.{All-head, All-drop, All-push}
use Rattle.as2_control.specs.Frames.{framed_field}
use Rattle.as2_control.specs.Outcomes.{FileValue, file_text}
use Rattle.as2_control.proofs.Lengths.{length-framed_field, one_field}

-- of a text that begins with two of that kind, they are one; and none is empty
pub record IsCode {A : Type 0} (code : A → List ℕ) : Type 0 where
  pub one : (a b : A) (r s : List ℕ) → length (code a) < 2 ^ 32 → length (code b) < 2 ^ 32 → code a ++ r ≡ code b ++ s → (a ≡ b) × (r ≡ s)
  pub some : (a : A) → 0 < length (code a)

pub fields_are_code : IsCode framed_field
fields_are_code = record {
  one = λ a b r s short short' e. one_field a b r s (omega (arith, length-framed_field a)) (omega (arith, length-framed_field b)) e;
  some = λ a. omega (arith, length-framed_field a);
}

pub length-file_text : (f : FileValue) → length (file_text f) ≡ 8 + length f.name + length f.content
length-file_text f =
    omega (arith, length-append (framed_field f.name) (framed_field f.content), length-framed_field f.name, length-framed_field f.content)

one_file : (a b : FileValue) (r s : List ℕ) → length (file_text a) < 2 ^ 32 → length (file_text b) < 2 ^ 32 → file_text a ++ r ≡ file_text b ++ s
    → (a ≡ b) × (r ≡ s)
one_file a b r s short short' e =
    let names = one_field a.name b.name (framed_field a.content ++ r) (framed_field b.content ++ s)
    (omega (arith, length-file_text a)) (omega (arith, length-file_text b))
    (sym (append_assoc (framed_field a.name) (framed_field a.content) r) ∙ (e ∙ append_assoc (framed_field b.name) (framed_field b.content) s)) in
    let contents = one_field a.content b.content r s (omega (arith, length-file_text a)) (omega (arith, length-file_text b)) names.1 in
    (ap (λ n. record { name = n; content = a.content }) names.0 ∙ ap (λ c. record { name = b.name; content = c }) contents.0, contents.1)

pub files_are_code : IsCode file_text
files_are_code = record {
  one = one_file;
  some = λ a. omega (arith, length-file_text a);
}

-- ---- what is left of such a text

-- the first of what is left is what stands there
pub record Next {A : Type 0} (code : A → List ℕ) (item : A) (left : List A) (behind : List ℕ) : Type 0 where
  pub later : List A
  pub left_is : left ≡ item ∷ later
  pub behind_is : behind ≡ flat_map code later

pub next : {A : Type 0} (code : A → List ℕ) → IsCode code → (left : List A) (rest : List ℕ) (item : A) (behind : List ℕ)
    → rest ≡ flat_map code left → rest ≡ code item ++ behind → length rest < 2 ^ 32 → Next code item left behind
next code is [] rest item behind stands begins short =
    absurd (omega (arith, ap length stands, ap length begins, length-append (code item) behind, is.some item))
next code is (x ∷ left) rest item behind stands begins short =
    let same = is.one x item (flat_map code left) behind
    (omega (arith, ap length stands, length-append (code x) (flat_map code left)))
    (omega (arith, ap length begins, length-append (code item) behind)) (sym stands ∙ begins) in
    record { later = left; left_is = ap (λ y. y ∷ left) same.0; behind_is = sym same.1 }

-- none is left where none stands there
pub none_left : {A : Type 0} (code : A → List ℕ) (left : List A) (rest : List ℕ) → rest ≡ flat_map code left → length rest < 2 ^ 32
    → ((item : A) (behind : List ℕ) → length (code item) < 2 ^ 32 → ¬ (rest ≡ code item ++ behind)) → left ≡ []
none_left code [] rest stands short none = refl
none_left code (x ∷ left) rest stands short none =
    absurd (none x (flat_map code left) (omega (arith, ap length stands, length-append (code x) (flat_map code left))) stands)

-- ---- what was read of such a text

-- some stand before the rest, and each is right
pub record HasRead {A : Type 0} (code : A → List ℕ) (P : A → Type 0) (text rest : List ℕ) : Type 0 where
  pub earlier : List A
  pub whole : text ≡ flat_map code earlier ++ rest
  pub right : All P earlier

pub record Later {A : Type 0} (code : A → List ℕ) (earlier all : List A) (rest : List ℕ) : Type 0 where
  pub left : List A
  pub all_is : all ≡ earlier ++ left
  pub rest_is : rest ≡ flat_map code left

-- one more in front of both
consed : {A : Type 0} (x y : A) (all more : List A) → x ≡ y → all ≡ more → y ∷ all ≡ x ∷ more
consed x y all more e e' = ap (λ z. z ∷ all) (sym e) ∙ ap (λ l. x ∷ l) e'

-- all of them begin with those that were read
pub later : {A : Type 0} (code : A → List ℕ) → IsCode code → (earlier all : List A) (rest : List ℕ) → length (flat_map code all) < 2 ^ 32
    → flat_map code earlier ++ rest ≡ flat_map code all → Later code earlier all rest
later code is [] all rest short e = record { left = all; all_is = refl; rest_is = e }
later code is (x ∷ earlier) [] rest short e =
    absurd (omega (arith, ap length e, length-append (code x ++ flat_map code earlier) rest, length-append (code x) (flat_map code earlier), is.some x))
later code is (x ∷ earlier) (y ∷ all) rest short e =
    let cut : code x ++ (flat_map code earlier ++ rest) ≡ code y ++ flat_map code all = sym (append_assoc (code x) (flat_map code earlier) rest) ∙ e in
    let wide : length (code x) + length (flat_map code earlier ++ rest) ≡ length (code y) + length (flat_map code all) =
    omega (arith, ap length cut, length-append (code x) (flat_map code earlier ++ rest), length-append (code y) (flat_map code all)) in
    let small : length (code y) + length (flat_map code all) < 2 ^ 32 = omega (arith, length-append (code y) (flat_map code all)) in
    let same = is.one x y (flat_map code earlier ++ rest) (flat_map code all) (omega arith) (omega arith) cut in
    let more = later code is earlier all rest (omega arith) same.1 in
    record {
      left = more.left;
      all_is = consed x y all (earlier ++ more.left) same.0 more.all_is;
      rest_is = more.rest_is;
    }

-- texts with one spelling are the same texts
pub one_sequence : {A : Type 0} (code : A → List ℕ) → IsCode code → (xs ys : List A) → length (flat_map code ys) < 2 ^ 32
    → flat_map code xs ≡ flat_map code ys → xs ≡ ys
one_sequence code is xs ys short e =
    let l = later code is xs ys [] short (append-nil (flat_map code xs) ∙ e) in
    let empty : l.left ≡ [] = none_left code l.left [] l.rest_is (lit< tt)
    (λ item behind _ stands. omega (arith, is.some item, ap length stands, length-append (code item) behind)) in
    sym (l.all_is ∙ (ap (λ z. xs ++ z) empty ∙ append-nil xs))

-- what stands behind those that were read is the next of all
pub record Follows {A : Type 0} (code : A → List ℕ) (P : A → Type 0) (earlier all : List A) (item : A) : Type 0 where
  pub left : List A
  pub all_is : all ≡ earlier ++ item ∷ left

pub follows : {A : Type 0} (code : A → List ℕ) (P : A → Type 0) → IsCode code → (text rest : List ℕ) (r : HasRead code P text rest)
    → length text < 2 ^ 32 → (item : A) (behind : List ℕ) → rest ≡ code item ++ behind → (all : List A) → text ≡ flat_map code all
    → Follows code P r.earlier all item
follows code P is text rest r short item behind begins all whole =
    let l = later code is r.earlier all rest (omega (arith, ap length whole)) (sym r.whole ∙ whole) in
    let n = next code is l.left rest item behind l.rest_is begins
    (omega (arith, ap length r.whole, length-append (flat_map code r.earlier) rest)) in
    record { left = n.later; all_is = l.all_is ∙ ap (λ z. r.earlier ++ z) n.left_is }

-- each of all is right, and so is the next
pub right_next : {A : Type 0} (P : A → Type 0) (earlier left all : List A) (item : A) → all ≡ earlier ++ item ∷ left → All P all → P item
right_next P earlier left all item e right =
    All-head P item left (let rights : All P (drop (length earlier) all) = All-drop P (length earlier) all right in
    rw (e, drop_at earlier (item ∷ left) (length earlier) refl) at rights)

-- one more was read
unfoldable pub read_more : {A : Type 0} (code : A → List ℕ) (P : A → Type 0) (text rest : List ℕ) → HasRead code P text rest → (item : A) (behind : List ℕ)
    → rest ≡ code item ++ behind → P item → HasRead code P text behind
read_more code P text rest r item behind begins right = record {
  earlier = r.earlier ++ item ∷ [];
  whole = r.whole ∙ (ap (λ l. flat_map code r.earlier ++ l) begins
      ∙ (sym (append_assoc (flat_map code r.earlier) (code item) behind)
      ∙ ap (λ l. l ++ behind) (ap (λ l. flat_map code r.earlier ++ l) (sym (append-nil (code item))) ∙ sym (flat_map-append code r.earlier (item ∷ [])))));
  right = All-push P r.earlier item r.right right;
}

-- where no more begins, and something stands there, the text is of another kind
pub ended : {A : Type 0} (code : A → List ℕ) (P : A → Type 0) → IsCode code → (text rest : List ℕ) → HasRead code P text rest → length text < 2 ^ 32
    → ((item : A) (behind : List ℕ) → length (code item) < 2 ^ 32 → ¬ (rest ≡ code item ++ behind)) → (length rest == 0) ≡ false
    → (all : List A) → ¬ (text ≡ flat_map code all)
ended code P is text rest r short none some all whole =
    let l = later code is r.earlier all rest (omega (arith, ap length whole)) (sym r.whole ∙ whole) in
    let empty : l.left ≡ [] = none_left code l.left rest l.rest_is
    (omega (arith, ap length r.whole, length-append (flat_map code r.earlier) rest)) none in
    let gone : rest ≡ [] = l.rest_is ∙ ap (flat_map code) empty in
    let e : (length rest == 0) ≡ true = ap (λ l. length l == 0) gone in cc

-- ---- of a list's first elements

pub front_more : {X A : Type 0} (code : A → List ℕ) (f : X → A) (xs : List X) (i : ℕ) (d : X) → i < length xs
    → flat_map code (map f (take (i + 1) xs)) ≡ flat_map code (map f (take i xs)) ++ code (f (get_or xs i d))
front_more code f xs i d inside =
    ap (flat_map code) (map_more f xs i d inside)
    ∙ (flat_map-append code (map f (take i xs)) (f (get_or xs i d) ∷ [])
    ∙ ap (λ l. flat_map code (map f (take i xs)) ++ l) (append-nil (code (f (get_or xs i d)))))

pub front_le : {X A : Type 0} (code : A → List ℕ) (f : X → A) (xs : List X) (i : ℕ)
    → length (flat_map code (map f (take i xs))) ≤ length (flat_map code (map f xs))
front_le code f xs i =
    let parts : flat_map code (map f xs) ≡ flat_map code (map f (take i xs)) ++ flat_map code (map f (drop i xs)) =
    ap (λ l. flat_map code (map f l)) (sym (take-append-drop i xs))
    ∙ (ap (flat_map code) (map-append f (take i xs) (drop i xs)) ∙ flat_map-append code (map f (take i xs)) (map f (drop i xs))) in
    omega (arith, ap length parts, length-append (flat_map code (map f (take i xs))) (flat_map code (map f (drop i xs))))

-- ---- files

pub front_fits : {X A : Type 0} (code : A → List ℕ) (f : X → A) (xs : List X) (i : ℕ) (d : X) → i < length xs
    → length (flat_map code (map f (take i xs))) + length (code (f (get_or xs i d))) ≤ length (flat_map code (map f xs))
front_fits code f xs i d inside =
    omega (
      arith,
      ap length (front_more code f xs i d inside),
      front_le code f xs (i + 1),
      length-append (flat_map code (map f (take i xs))) (code (f (get_or xs i d))),
    )

-- one more is put behind a text
pub put_more : {X A : Type 0} (code : A → List ℕ) (f : X → A) (xs : List X) (i : ℕ) (x : X) (text before after : List ℕ) → i < length xs
    → x ≡ get_or xs i x → before ≡ text ++ flat_map code (map f (take i xs)) → after ≡ before ++ code (f x)
    → after ≡ text ++ flat_map code (map f (take (i + 1) xs))
put_more code f xs i x text before after inside x_is before_is after_is =
    after_is ∙ (ap (λ l. l ++ code (f x)) before_is
    ∙ (append_assoc text (flat_map code (map f (take i xs))) (code (f x))
    ∙ ap (λ l. text ++ l) (ap (λ y. flat_map code (map f (take i xs)) ++ code (f y)) x_is ∙ sym (front_more code f xs i x inside))))

-- what stands behind a file is shorter
pub shorter_behind_file : (text : List ℕ) (file : FileValue) (behind : List ℕ) → text ≡ file_text file ++ behind → length behind < length text
shorter_behind_file text file behind e = omega (arith, ap length e, length-append (file_text file) behind, length-file_text file)

-- a text with a name, and no content behind it, begins with no file
pub no_content : (text name rest : List ℕ) → text ≡ framed_field name ++ rest → length name < 2 ^ 32
    → ((field behind : List ℕ) → length field < 2 ^ 32 → ¬ (rest ≡ framed_field field ++ behind))
    → (file : FileValue) (behind : List ℕ) → length (file_text file) < 2 ^ 32 → ¬ (text ≡ file_text file ++ behind)
no_content text name rest begins short none file behind small e =
    let same = one_field name file.name rest (framed_field file.content ++ behind) short (omega (arith, length-file_text file))
    (sym begins ∙ (e ∙ append_assoc (framed_field file.name) (framed_field file.content) behind)) in
    none file.content behind (omega (arith, length-file_text file)) same.1

-- The words of a mode have no `/` and no `;`, so that neither has a text that is a word with blanks and line ends around it.
use Rattle.std.proofs.Common.{◌≡◌, ◌==◌, ◌||◌, ℕ, Bool, true, false, cond, List, [], ◌∷◌, refl, sym, ap, subst, ◌∙◌, inl, inr}
use Rattle.std.specs.Prelude.{IsTrue, not, codes}
use Rattle.std.specs.Char.{to_ascii_lowercase}
use Rattle.std.specs.List.{list_all}
use Rattle.std.specs.Str.{str_to_ascii_lowercase}
use Rattle.std.proofs.lemmas.Bool.{cases_Bool, and_parts, or_cases, eqb-true, eq-eqb, true≢false, not-true}
use Rattle.std.proofs.lemmas.List.Elements.{All-head, All-tail, All-cons, All-nil}
use Rattle.as2_names.specs.Ascii.{slash, semicolon}
use Rattle.as2_names.specs.Trim.{falls_off, all_fall_off, without_front, without_back, trimmed_text}
use Rattle.as2_names.specs.Cuts.{Lacks}
use Rattle.as2_names.specs.Options.{is_word}
use Rattle.as2_mdn.specs.Dispositions.{is_action_mode, is_sending_mode}

-- the byte is no blank and of no line end
abbrev Stays : ℕ → Type 0
Stays byte = (rest : List ℕ) → falls_off byte rest ≡ false

other_byte : (byte b : ℕ) (rest : List ℕ) → Stays byte → falls_off b rest ≡ true → (b == byte) ≡ false
other_byte byte b rest stays off =
    elim (cases_Bool (b == byte)) [
      | inl same ↦ absurd (true≢false (sym (subst (λ (x : ℕ). falls_off x rest ≡ true) (eqb-true b byte same) off) ∙ stays rest))
      | inr other ↦ other
    ]

-- ---- what is taken off has none

front_has_none : (byte : ℕ) (text : List ℕ) → Stays byte → Lacks byte (without_front text) → Lacks byte text
front_has_none byte [] stays h = h
front_has_none byte (b ∷ rest) stays h =
    elim (cases_Bool (falls_off b rest)) [
      | inl off ↦
          let behind : Lacks byte (without_front rest) = subst (Lacks byte) (ap (λ t. cond t (without_front rest) (b ∷ rest)) off) h in
          All-cons (λ b. (b == byte) ≡ false) b rest (other_byte byte b rest stays off) (front_has_none byte rest stays behind)
      | inr on ↦ subst (Lacks byte) (ap (λ t. cond t (without_front rest) (b ∷ rest)) on) h
    ]

all_off_has_none : (byte : ℕ) (text : List ℕ) → Stays byte → all_fall_off text ≡ true → Lacks byte text
all_off_has_none byte [] stays h = All-nil (λ b. (b == byte) ≡ false)
all_off_has_none byte (b ∷ rest) stays h =
    let parts = and_parts (falls_off b rest) (all_fall_off rest) h in
    All-cons (λ b. (b == byte) ≡ false) b rest (other_byte byte b rest stays parts.0) (all_off_has_none byte rest stays parts.1)

back_has_none : (byte : ℕ) (text : List ℕ) → Stays byte → Lacks byte (without_back text) → Lacks byte text
back_has_none byte [] stays h = h
back_has_none byte (b ∷ rest) stays h =
    elim (cases_Bool (all_fall_off (b ∷ rest))) [
      | inl off ↦ all_off_has_none byte (b ∷ rest) stays off
      | inr on ↦
          let kept : Lacks byte (b ∷ without_back rest) = subst (Lacks byte) (ap (λ t. cond t [] (b ∷ without_back rest)) on) h in
          let first = All-head (λ b. (b == byte) ≡ false) b (without_back rest) kept in
          All-cons (λ b. (b == byte) ≡ false) b rest first (back_has_none byte rest stays (All-tail (λ b. (b == byte) ≡ false) b (without_back rest) kept))
    ]

trimmed_has_none : (byte : ℕ) (text : List ℕ) → Stays byte → Lacks byte (trimmed_text text) → Lacks byte text
trimmed_has_none byte text stays h = front_has_none byte text stays (back_has_none byte (without_front text) stays h)

-- ---- the words have none

abbrev lacks : ℕ → List ℕ → Bool
lacks byte text = list_all (λ b. not (b == byte)) text

-- a byte without case that the word lacks
record IsApart (byte : ℕ) (word : List ℕ) : Type 0 where
  pub uncased : to_ascii_lowercase byte ≡ byte
  pub lacking : IsTrue (lacks byte (str_to_ascii_lowercase word))

word_has_none : (byte : ℕ) (text word : List ℕ) → IsApart byte word → IsTrue (is_word text word) → Lacks byte text
word_has_none byte [] word a h = All-nil (λ b. (b == byte) ≡ false)
word_has_none byte (x ∷ text) [] a h = absurd cc
word_has_none byte (x ∷ text) (y ∷ word) a h =
    let same = and_parts (to_ascii_lowercase x == to_ascii_lowercase y) (is_word text word) h in
    let apart = and_parts (not (to_ascii_lowercase y == byte)) (lacks byte (str_to_ascii_lowercase word)) a.lacking in
    let rest = word_has_none byte text word (record { uncased = a.uncased; lacking = apart.1 }) same.1 in
    elim (cases_Bool (x == byte)) [
      | inl is ↦
          let at_x : to_ascii_lowercase x ≡ byte = ap to_ascii_lowercase (eqb-true x byte is) ∙ a.uncased in
          let at_y : to_ascii_lowercase y ≡ byte = sym (eqb-true (to_ascii_lowercase x) (to_ascii_lowercase y) same.0) ∙ at_x in
          absurd (true≢false (sym (eq-eqb (to_ascii_lowercase y) byte at_y) ∙ not-true (to_ascii_lowercase y == byte) apart.0))
      | inr other ↦ All-cons (λ b. (b == byte) ≡ false) x text other rest
    ]

either_has_none : (byte : ℕ) (text word other : List ℕ) → IsApart byte word → IsApart byte other → IsTrue (is_word text word || is_word text other)
    → Lacks byte text
either_has_none byte text word other a b h =
    elim (or_cases (is_word text word) (is_word text other) h) [
      | inl w ↦ word_has_none byte text word a w
      | inr o ↦ word_has_none byte text other b o
    ]

slash_stays : Stays slash
slash_stays rest = refl

semicolon_stays : Stays semicolon
semicolon_stays rest = refl

apart : (byte : ℕ) (word : List ℕ) → to_ascii_lowercase byte ≡ byte → IsTrue (lacks byte (str_to_ascii_lowercase word)) → IsApart byte word
apart byte word u l = record { uncased = u; lacking = l }

pub action_has_no_slash : (text : List ℕ) → IsTrue (is_action_mode text) → Lacks slash text
action_has_no_slash text h =
    trimmed_has_none slash text slash_stays
    (either_has_none slash (trimmed_text text) (codes "manual-action") (codes "automatic-action") (apart _ _ refl refl) (apart _ _ refl refl) h)

pub action_has_no_semicolon : (text : List ℕ) → IsTrue (is_action_mode text) → Lacks semicolon text
action_has_no_semicolon text h =
    trimmed_has_none semicolon text semicolon_stays
    (either_has_none semicolon (trimmed_text text) (codes "manual-action") (codes "automatic-action") (apart _ _ refl refl) (apart _ _ refl refl) h)

pub sending_has_no_semicolon : (text : List ℕ) → IsTrue (is_sending_mode text) → Lacks semicolon text
sending_has_no_semicolon text h =
    trimmed_has_none semicolon text semicolon_stays
    (either_has_none semicolon (trimmed_text text) (codes "MDN-sent-manually") (codes "MDN-sent-automatically") (apart _ _ refl refl) (apart _ _ refl refl) h)

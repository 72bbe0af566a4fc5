-- A text is what is kept of it with blanks and line ends around that, and what is kept stays so.
use Rattle.std.proofs.Common.{◌≡◌, ℕ, Bool, true, false, List, [], ◌∷◌, ◌++◌, refl, sym, ap, ◌∙◌, append_assoc, inl, inr}
use Rattle.std.specs.Prelude.{◌&&◌, ◌||◌, ◌==◌, ◌⊎◌, if◌then◌else◌}
use Rattle.std.proofs.lemmas.Bool.{cases_Bool, and_from}
use Rattle.as2_names.specs.Ascii.{line_feed, carriage_return}
use Rattle.as2_names.specs.Blanks.{is_blank}
use Rattle.as2_names.specs.Trim.{begins_with_lf, falls_off, all_fall_off, without_front, without_back, trimmed_text}
use Rattle.as2_media.specs.Parameters.{IsPadded}
use Rattle.as2_media.proofs.Padding.{falls_on, all_off_append}

-- what falls off in front
abbrev front_of : List ℕ → List ℕ
front_of [] = []
front_of (b ∷ rest) = if falls_off b rest then b ∷ front_of rest else []

-- what falls off behind
abbrev back_of : List ℕ → List ℕ
back_of [] = []
back_of (b ∷ rest) = if all_fall_off (b ∷ rest) then b ∷ rest else back_of rest

front_whole : (text : List ℕ) → text ≡ front_of text ++ without_front text
front_whole [] = refl
front_whole (b ∷ rest) =
    elim (cases_Bool (falls_off b rest)) [
      | inl off ↦ rw off (ap (λ (x : List ℕ). b ∷ x) (front_whole rest))
      | inr on ↦ rw on refl
    ]

lf_falls : (x y z : Bool) → z ≡ true → (x || (z || y)) ≡ true
lf_falls true y z h = refl
lf_falls false y true h = refl
lf_falls false y false h = absurd cc

lf_front : (text : List ℕ) → begins_with_lf text ≡ true → begins_with_lf (front_of text) ≡ true
lf_front [] h = h
lf_front (b ∷ rest) h = rw (lf_falls (is_blank b) (b == carriage_return && begins_with_lf rest) (b == line_feed) h) h

front_blank : (text : List ℕ) → all_fall_off (front_of text) ≡ true
front_blank [] = refl
front_blank (b ∷ rest) =
    elim (cases_Bool (falls_off b rest)) [
      | inl off ↦ rw off (and_from (falls_off b (front_of rest)) (all_fall_off (front_of rest))
          (falls_on b rest (front_of rest) (lf_front rest) off) (front_blank rest))
      | inr on ↦ rw on refl
    ]

back_whole : (text : List ℕ) → text ≡ without_back text ++ back_of text
back_whole [] = refl
back_whole (b ∷ rest) =
    elim (cases_Bool (all_fall_off (b ∷ rest))) [
      | inl all ↦ rw all refl
      | inr some ↦ rw some (ap (λ (x : List ℕ). b ∷ x) (back_whole rest))
    ]

back_blank : (text : List ℕ) → all_fall_off (back_of text) ≡ true
back_blank [] = refl
back_blank (b ∷ rest) =
    elim (cases_Bool (all_fall_off (b ∷ rest))) [
      | inl all ↦ rw all all
      | inr some ↦ rw some (back_blank rest)
    ]

-- the text is what is kept of it, and blanks around that
pub trimmed_padded : (text : List ℕ) → IsPadded text (trimmed_text text)
trimmed_padded text = record {
  front = front_of text;
  back = back_of (without_front text);
  whole = front_whole text ∙ ap (λ (x : List ℕ). front_of text ++ x) (back_whole (without_front text))
      ∙ sym (append_assoc (front_of text) (trimmed_text text) (back_of (without_front text)));
  blank_front = front_blank text;
  blank_back = back_blank (without_front text);
}

-- where nothing is kept, all falls off
pub nothing_kept : (text : List ℕ) → trimmed_text text ≡ [] → all_fall_off text ≡ true
nothing_kept text e =
    let p = trimmed_padded text in
    let whole : text ≡ p.front ++ p.back = p.whole ∙ ap (λ (x : List ℕ). p.front ++ x ++ p.back) e ∙ append_assoc p.front [] p.back in
    rw whole (all_off_append p.front p.back p.blank_front p.blank_back)

-- ---- what is kept stays so

lf_back : (text : List ℕ) → begins_with_lf (without_back text) ≡ true → begins_with_lf text ≡ true
lf_back [] h = h
lf_back (b ∷ rest) h =
    elim (cases_Bool (all_fall_off (b ∷ rest))) [
      | inl all ↦ absurd (let e : false ≡ true = rw all at h in cc)
      | inr some ↦ rw some at h
    ]

not_true : (x y : Bool) → (x ≡ true → y ≡ true) → y ≡ false → x ≡ false
not_true true y f h = sym (f refl) ∙ h
not_true false y f h = refl

-- a byte that stays does so before a part of what is behind it
stays_before : (b : ℕ) (rest text : List ℕ) → (begins_with_lf text ≡ true → begins_with_lf rest ≡ true) → falls_off b rest ≡ false → falls_off b text ≡ false
stays_before b rest text f h = not_true (falls_off b text) (falls_off b rest) (falls_on b text rest f) h

pub stays_kept : (b : ℕ) (rest : List ℕ) → falls_off b rest ≡ false → falls_off b (without_back rest) ≡ false
stays_kept b rest h = stays_before b rest (without_back rest) (lf_back rest) h

and_false : (a b : Bool) → a ≡ false → (a && b) ≡ false
and_false true b h = absurd cc
and_false false b h = refl

and_false_last : (a b : Bool) → b ≡ false → (a && b) ≡ false
and_false_last true b h = h
and_false_last false b h = refl

some_kept : (text : List ℕ) → all_fall_off text ≡ false → all_fall_off (without_back text) ≡ false
some_kept [] h = h
some_kept (b ∷ rest) h =
    elim (cases_Bool (all_fall_off rest)) [
      | inl all ↦
          let on : falls_off b rest ≡ false =
          not_true (falls_off b rest) (falls_off b rest && all_fall_off rest) (λ t. and_from (falls_off b rest) (all_fall_off rest) t all) h in
          rw h (and_false (falls_off b (without_back rest)) (all_fall_off (without_back rest)) (stays_kept b rest on))
      | inr some ↦ rw h (and_false_last (falls_off b (without_back rest)) (all_fall_off (without_back rest)) (some_kept rest some))
    ]

back_again : (text : List ℕ) → without_back (without_back text) ≡ without_back text
back_again [] = refl
back_again (b ∷ rest) =
    elim (cases_Bool (all_fall_off (b ∷ rest))) [
      | inl all ↦ rw all refl
      | inr some ↦
          let on = some_kept (b ∷ rest) some in
          let kept : without_back (b ∷ rest) ≡ b ∷ without_back rest = rw some refl in
          let on_kept : all_fall_off (b ∷ without_back rest) ≡ false = rw kept at on in
          rw (kept, on_kept) (ap (λ (x : List ℕ). b ∷ x) (back_again rest))
    ]

-- a text is empty, or begins with a byte that stays
record HasNoFront (text : List ℕ) : Type 0 where
  pub first : ℕ
  pub rest : List ℕ
  pub is : text ≡ first ∷ rest
  pub on : falls_off first rest ≡ false

fronted : (text : List ℕ) → (without_front text ≡ []) ⊎ HasNoFront (without_front text)
fronted [] = inl refl
fronted (b ∷ rest) =
    elim (cases_Bool (falls_off b rest)) [
      | inl off ↦ rw off (fronted rest)
      | inr on ↦ rw on (inr (record { first = b; rest = rest; is = refl; on = on }))
    ]

front_stays : (b : ℕ) (rest : List ℕ) → falls_off b rest ≡ false → without_front (without_back (b ∷ rest)) ≡ without_back (b ∷ rest)
front_stays b rest on = rw (and_false (falls_off b rest) (all_fall_off rest) on, stays_kept b rest on) refl

pub trimmed_again : (text : List ℕ) → trimmed_text (trimmed_text text) ≡ trimmed_text text
trimmed_again text =
    elim (fronted text) [
      | inl none ↦ rw none refl
      | inr some ↦ rw some.is (ap without_back (front_stays some.first some.rest some.on) ∙ back_again (some.first ∷ some.rest))
    ]

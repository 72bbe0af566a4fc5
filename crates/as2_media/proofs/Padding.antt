-- What blanks and line ends around a text are to it.
use Rattle.std.proofs.Common.{◌≡◌, ℕ, Bool, true, false, List, [], ◌∷◌, ◌++◌, refl, sym, ap, ◌∙◌, append_assoc, inl, inr}
use Rattle.std.proofs.Math.Bool.{and-false}
use Rattle.as2_names.proofs.Trims.{none_stays}
use Rattle.std.specs.Prelude.{◌&&◌, ◌||◌, ◌==◌}
use Rattle.std.proofs.lemmas.Bool.{cases_Bool, and_parts, and_from}
use Rattle.as2_names.specs.Ascii.{line_feed, carriage_return}
use Rattle.as2_names.specs.Blanks.{is_blank}
use Rattle.as2_names.specs.Trim.{begins_with_lf, falls_off, all_fall_off, without_front, without_back, trimmed_text}
use Rattle.as2_media.specs.Parameters.{IsPadded}

-- ---- what falls off

lf_more : (front text : List ℕ) → begins_with_lf front ≡ true → begins_with_lf (front ++ text) ≡ true
lf_more [] text h = absurd cc
lf_more (b ∷ rest) text h = h

end_more : (p q r x y : Bool) → (x ≡ true → y ≡ true) → (p || (q || (r && x))) ≡ true → (p || (q || (r && y))) ≡ true
end_more true q r x y f h = refl
end_more false true r x y f h = refl
end_more false false true x y f h = f h
end_more false false false x y f h = h

pub falls_on : (b : ℕ) (rest text : List ℕ) → (begins_with_lf rest ≡ true → begins_with_lf text ≡ true) → falls_off b rest ≡ true → falls_off b text ≡ true
falls_on b rest text f h = end_more (is_blank b) (b == line_feed) (b == carriage_return) (begins_with_lf rest) (begins_with_lf text) f h

falls_more : (b : ℕ) (front text : List ℕ) → falls_off b front ≡ true → falls_off b (front ++ text) ≡ true
falls_more b front text h = falls_on b front (front ++ text) (lf_more front text) h

pub all_off_append : (front text : List ℕ) → all_fall_off front ≡ true → all_fall_off text ≡ true → all_fall_off (front ++ text) ≡ true
all_off_append [] text h t = t
all_off_append (b ∷ rest) text h t =
    let p = and_parts (falls_off b rest) (all_fall_off rest) h in
    and_from (falls_off b (rest ++ text)) (all_fall_off (rest ++ text)) (falls_more b rest text p.0) (all_off_append rest text p.1 t)

front_off : (front text : List ℕ) → all_fall_off front ≡ true → without_front (front ++ text) ≡ without_front text
front_off [] text h = refl
front_off (b ∷ rest) text h =
    let p = and_parts (falls_off b rest) (all_fall_off rest) h in
    rw (falls_more b rest text p.0) (front_off rest text p.1)

none_in_front : (text : List ℕ) → all_fall_off text ≡ true → without_front text ≡ []
none_in_front [] h = refl
none_in_front (b ∷ rest) h =
    let p = and_parts (falls_off b rest) (all_fall_off rest) h in
    rw p.0 (none_in_front rest p.1)

pub blank_trimmed : (text : List ℕ) → all_fall_off text ≡ true → trimmed_text text ≡ []
blank_trimmed text h = ap without_back (none_in_front text h)

-- ---- texts that stay as they are with blanks around them

-- a space, a tab, LF or CR
abbrev pub is_margin : ℕ → Bool
is_margin b = is_blank b || (b == line_feed || b == carriage_return)

-- the text is not empty, and blanks behind it alone come off
pub record IsUnpadded (text : List ℕ) : Type 0 where
  pub some : text ≡ [] → ⊥
  pub back : (blanks : List ℕ) → all_fall_off blanks ≡ true → without_back (text ++ blanks) ≡ text

-- and nothing comes off in front of it
pub record IsSolid (text : List ℕ) : Type 0 where
  pub ends : IsUnpadded text
  pub front : (behind : List ℕ) → without_front (text ++ behind) ≡ text ++ behind

no_margin : (p q r x : Bool) → (p || (q || r)) ≡ false → (p || (q || (r && x))) ≡ false
no_margin true q r x h = h
no_margin false true r x h = h
no_margin false false true x h = absurd cc
no_margin false false false x h = refl

pub stays : (b : ℕ) (rest : List ℕ) → is_margin b ≡ false → falls_off b rest ≡ false
stays b rest h = no_margin (is_blank b) (b == line_feed) (b == carriage_return) (begins_with_lf rest) h

pub one_ends : (b : ℕ) → is_margin b ≡ false → IsUnpadded (b ∷ [])
one_ends b h = record {
  some = λ e. absurd cc;
  back = λ blanks off. rw (stays b blanks h, none_stays blanks off) refl;
}

some_stays : (text blanks : List ℕ) → IsUnpadded text → all_fall_off blanks ≡ true → all_fall_off (text ++ blanks) ≡ false
some_stays text blanks e off =
    elim (cases_Bool (all_fall_off (text ++ blanks))) [
      | inl all ↦ absurd (e.some (sym (e.back blanks off) ∙ none_stays (text ++ blanks) all))
      | inr some ↦ some
    ]

pub more_ends : (b : ℕ) (text : List ℕ) → IsUnpadded text → IsUnpadded (b ∷ text)
more_ends b text e = record {
  some = λ n. absurd cc;
  back = λ blanks off. rw (some_stays text blanks e off, and-false (falls_off b (text ++ blanks)), e.back blanks off) refl;
}

pub front_ends : (front text : List ℕ) → IsUnpadded text → IsUnpadded (front ++ text)
front_ends [] text e = e
front_ends (b ∷ rest) text e = more_ends b (rest ++ text) (front_ends rest text e)

pub solid : (b : ℕ) (rest : List ℕ) → is_margin b ≡ false → IsUnpadded (b ∷ rest) → IsSolid (b ∷ rest)
solid b rest h e = record { ends = e; front = λ behind. rw (stays b (rest ++ behind) h) refl }

-- blanks around a solid text come off
pub padded_trimmed : (text inner : List ℕ) → IsPadded text inner → IsSolid inner → trimmed_text text ≡ inner
padded_trimmed text inner p s =
    ap trimmed_text (p.whole ∙ append_assoc p.front inner p.back)
    ∙ ap without_back (front_off p.front (inner ++ p.back) p.blank_front ∙ s.front p.back)
    ∙ s.ends.back p.back p.blank_back

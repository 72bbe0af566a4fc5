-- What is read is spelled so, and what is spelled so is read.
use Rattle.std.proofs.Common.{◌≡◌, ℕ, ◌<◌, ◌≤◌, Bool, true, false, cond, eqb, ltb, List, [], ◌∷◌, ◌++◌, length, Result, Ok, Err, refl, sym, ap, ◌∙◌, arith, inl, inr}
use Rattle.std.specs.Prelude.{◌⊎◌, IfOk}
use Rattle.std.specs.List.{list_all, flat_map}
use Rattle.std.proofs.lemmas.Bool.{cases_Bool, ne_eqb, eqb-true, eqb-false, and_parts, and_from, or_parts, le-ltb, ltb-false}
use Rattle.std.proofs.lemmas.Bool.Decides.{nat_tests}
use Rattle.as2_names.specs.declared.name.NameFault.{NameFault}
use Rattle.as2_names.specs.declared.name.NameFault.TheVariants.{Empty, TooLong, BadByte, BadQuoting}
use Rattle.as2_names.specs.Ascii.{quote, backslash, is_printable}
use Rattle.as2_names.specs.Names.{units, at_closing_quote, with_front, is_escaped_mark, is_text_byte, limited_units, limited_name, atomic, name_reading, IsName, Spells, quoted_byte, quoted_name}
use Rattle.as2_names.specs.Scan.{Scans}
use Rattle.as2_names.proofs.Scanning.{special_printable, met_all, scanned_name, finished}

abbrev NameRead : Result (List ℕ) NameFault → List ℕ → Type 0
NameRead r name = r ≡ Ok name

-- ---- tests of bytes

text_printable : (b : ℕ) → is_text_byte b ≡ true → is_printable b ≡ true
text_printable b h = grind (arith, nat_tests)

text_plain : (b : ℕ) → is_text_byte b ≡ true → eqb b quote ≡ false
text_plain b h = grind (arith, nat_tests)

pub all_text_printable : (text : List ℕ) → list_all is_text_byte text ≡ true → list_all is_printable text ≡ true
all_text_printable [] h = refl
all_text_printable (b ∷ rest) h =
    let p = and_parts (is_text_byte b) (list_all is_text_byte rest) h in
    and_from (is_printable b) (list_all is_printable rest) (text_printable b p.0) (all_text_printable rest p.1)

-- ---- steps that did not fail

front_ok : (b : ℕ) (r : Result (List ℕ) NameFault) (name : List ℕ) → NameRead (with_front (b ∷ []) r) name → (more : List ℕ) × NameRead r more
    × (name ≡ b ∷ more)
front_ok b (Ok us) name h = (us, refl, cc)
front_ok b (Err e) name h = absurd cc

guard_ok : (t : Bool) (e : NameFault) (r : Result (List ℕ) NameFault) (name : List ℕ) → NameRead (cond t r (Err e)) name → (t ≡ true) × NameRead r name
guard_ok true e r name h = (refl, h)
guard_ok false e r name h = absurd cc

read_chosen : (t : Bool) (x y : Result (List ℕ) NameFault) (name : List ℕ) → NameRead (cond t x y) name → ((t ≡ true) × NameRead x name)
    ⊎ ((t ≡ false) × NameRead y name)
read_chosen true x y name h = inl (refl, h)
read_chosen false x y name h = inr (refl, h)

closed_ok : (rest name : List ℕ) → NameRead (at_closing_quote rest) name → (rest ≡ []) × (name ≡ [])
closed_ok [] name h = (refl, cc)
closed_ok (b ∷ rest) name h = absurd cc

-- ---- the units between the quotes

-- the text with the backslash that stands before it, where one does
abbrev with_backslash : Bool → List ℕ → List ℕ
with_backslash escaping text = cond escaping (backslash ∷ text) text

record Unquotes (escaping : Bool) (text name : List ℕ) : Type 0 where
  pub spelled : with_backslash escaping text ≡ flat_map quoted_byte name ++ quote ∷ []
  pub printable : list_all is_printable name ≡ true

unquotes_special : (b : ℕ) (rest more : List ℕ) → is_escaped_mark b ≡ true → Unquotes false rest more → Unquotes true (b ∷ rest) (b ∷ more)
unquotes_special b rest more s u = record {
  spelled = rw (s, u.spelled) refl;
  printable = and_from (is_printable b) (list_all is_printable more) (special_printable b s) u.printable;
}

plain_byte : (b : ℕ) → eqb b quote ≡ false → eqb b backslash ≡ false → is_escaped_mark b ≡ false
plain_byte b q s = rw (q, s) refl

unquotes_plain : (b : ℕ) (rest more : List ℕ) → eqb b quote ≡ false → eqb b backslash ≡ false → is_printable b ≡ true → Unquotes false rest more
    → Unquotes false (b ∷ rest) (b ∷ more)
unquotes_plain b rest more q s p u = record {
  spelled = rw (plain_byte b q s, u.spelled) refl;
  printable = and_from (is_printable b) (list_all is_printable more) p u.printable;
}

unquotes_end : (b : ℕ) → eqb b quote ≡ true → Unquotes false (b ∷ []) []
unquotes_end b q = record { spelled = rw (eqb-true b quote q) refl; printable = refl }

units_take : (escaping : Bool) (text name : List ℕ) → NameRead (units escaping text) name → Unquotes escaping text name
units_take escaping [] name h = absurd cc
units_take true (b ∷ rest) name h =
    let g = guard_ok (is_escaped_mark b) BadQuoting (with_front (b ∷ []) (units false rest)) name h in
    let f = front_ok b (units false rest) name g.1 in
    rw f.2 (unquotes_special b rest f.0 g.0 (units_take false rest f.0 f.1))
units_take false (b ∷ rest) name h =
    elim (read_chosen (eqb b quote) (at_closing_quote rest)
    (cond (eqb b backslash) (units true rest) (cond (is_printable b) (with_front (b ∷ []) (units false rest)) (Err BadByte))) name h) [
      | inl x ↦
          let e = closed_ok rest name x.1 in
          rw (e.0, e.1) (unquotes_end b x.0)
      | inr x ↦
          elim (read_chosen (eqb b backslash) (units true rest) (cond (is_printable b) (with_front (b ∷ []) (units false rest)) (Err BadByte)) name x.1) [
            | inl y ↦
                let u = units_take true rest name y.1 in
                record { spelled = rw (eqb-true b backslash y.0) u.spelled; printable = u.printable }
            | inr y ↦
                let g = guard_ok (is_printable b) BadByte (with_front (b ∷ []) (units false rest)) name y.1 in
                let f = front_ok b (units false rest) name g.1 in
                rw f.2 (unquotes_plain b rest f.0 x.0 y.0 g.0 (units_take false rest f.0 f.1))
          ]
    ]

units_again : (name : List ℕ) → list_all is_printable name ≡ true → NameRead (units false (flat_map quoted_byte name ++ quote ∷ [])) name
units_again [] h = refl
units_again (b ∷ more) h =
    let p = and_parts (is_printable b) (list_all is_printable more) h in
    let again = units_again more p.1 in
    elim (cases_Bool (is_escaped_mark b)) [
      | inl s ↦ rw (s, s, again) refl
      | inr s ↦
          let q = or_parts (eqb b quote) (eqb b backslash) s in
          rw (s, q.0, q.1, p.0, again) refl
    ]

-- ---- the whole name

fits : (us name : List ℕ) → NameRead (limited_units us) name → (us ≡ name) × (0 < length name) × (length name ≤ 128)
fits us name h =
    elim (read_chosen (eqb (length us) 0) (Err Empty) (cond (ltb 128 (length us)) (Err TooLong) (Ok us)) name h) [
      | inl x ↦ absurd cc
      | inr x ↦
          elim (read_chosen (ltb 128 (length us)) (Err TooLong) (Ok us) name x.1) [
            | inl y ↦ absurd cc
            | inr y ↦
                let e : us ≡ name = cc in
                let n : length us ≡ 0 → ⊥ = eqb-false (length us) 0 x.0 in
                let short : length us ≤ 128 = ltb-false 128 (length us) y.0 in
                (e, rw (← e) (omega arith), rw (← e) short)
          ]
    ]

pub fits_again : (name : List ℕ) → IsName name → NameRead (limited_units name) name
fits_again name n =
    let some : eqb (length name) 0 ≡ false = ne_eqb (length name) 0 (λ e. absurd (omega (arith, n.some))) in
    let short : ltb 128 (length name) ≡ false = le-ltb 128 (length name) n.short in
    rw (some, short) refl

fitted_ok : (r : Result (List ℕ) NameFault) (name : List ℕ) → NameRead (limited_name r) name → (us : List ℕ) × NameRead r us × NameRead (limited_units us) name
fitted_ok (Ok us) name h = (us, refl, h)
fitted_ok (Err e) name h = absurd cc

quoted_found : (rest name : List ℕ) → NameRead (limited_name (units false rest)) name → IsName name × (quote ∷ rest ≡ quoted_name name)
quoted_found rest name h =
    let f = fitted_ok (units false rest) name h in
    let g = fits f.0 name f.2 in
    let u = units_take false rest f.0 f.1 in
    let e : f.0 ≡ name = g.0 in
    (record { some = g.1; short = g.2; printable = rw (← e) u.printable }, rw (← e) (ap (λ (x : List ℕ). quote ∷ x) u.spelled))

atomic_found : (text name : List ℕ) → NameRead (atomic text) name → IsName name × (list_all is_text_byte name ≡ true) × (text ≡ name)
atomic_found text name h =
    let g = guard_ok (list_all is_text_byte text) BadByte (limited_units text) name h in
    let f = fits text name g.1 in
    let e : text ≡ name = f.0 in
    (record { some = f.1; short = f.2; printable = rw (← e) (all_text_printable text g.0) }, rw (← e) g.0, e)

pub found : (text name : List ℕ) → NameRead (name_reading text) name → Spells text name
found [] name h = absurd cc
found (b ∷ rest) name h =
    elim (read_chosen (eqb b quote) (limited_name (units false rest)) (atomic (b ∷ rest)) name h) [
      | inl x ↦
          let q = quoted_found rest name x.1 in
          (q.0, inr (rw (eqb-true b quote x.0) q.1))
      | inr x ↦
          let a = atomic_found (b ∷ rest) name x.1 in
          (a.0, inl (a.1, a.2))
    ]

atomic_again : (name : List ℕ) → IsName name → list_all is_text_byte name ≡ true → NameRead (name_reading name) name
atomic_again [] n t = absurd (omega (arith, n.some))
atomic_again (b ∷ more) n t =
    let p = and_parts (is_text_byte b) (list_all is_text_byte more) t in
    rw (t, text_plain b p.0) (fits_again (b ∷ more) n)

pub again : (text name : List ℕ) → Spells text name → NameRead (name_reading text) name
again text name s =
    elim s.1 [
      | inl x ↦ rw x.1 (atomic_again name s.0 x.0)
      | inr x ↦ rw (x, units_again name s.0.printable) (fits_again name s.0)
    ]

pub found_by : (text : List ℕ) (r : Result (List ℕ) NameFault) → r ≡ name_reading text → IfOk r (Spells text)
found_by text (Ok name) e = found text name (sym e)
found_by text (Err f) e = tt

pub finish_ok : (text items : List ℕ) (count : ℕ) → Scans text items count false (quote ∷ []) → 0 < count → count ≤ 128
    → NameRead (limited_name (units false text)) items
finish_ok text items count s lt le =
    let m = met_all text items count s le in
    let n = scanned_name text items count s lt le in
    finished text items count s ∙ rw (← m) (fits_again items n)

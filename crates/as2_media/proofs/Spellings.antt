-- What is read is spelled so: one value, one parameter, and all.
use Rattle.std.proofs.Common.{◌≡◌, ℕ, zero, suc, ◌-◌, ◌<◌, ◌≤◌, Bool, true, false, List, [], ◌∷◌, ◌++◌, length, Option, Some, None, Result, Ok, Err, refl, sym, ap, ◌∙◌, append-nil, arith, inl, inr}
use Rattle.std.specs.Prelude.{◌&&◌, ◌==◌, not, IfOk, if◌then◌else◌}
use Rattle.std.specs.List.{list_all}
use Rattle.std.proofs.lemmas.Bool.{cases_Bool, and_parts, eqb-true, eqb-false, not-true}
use Rattle.std.proofs.lemmas.List.{nil_from_length}
use Rattle.as2_names.specs.Ascii.{equals_sign, slash, semicolon}
use Rattle.as2_names.specs.Cuts.{cut_at}
use Rattle.as2_names.specs.Trim.{trimmed_text}
use Rattle.as2_names.proofs.Cuts.{cut_found}
use Rattle.as2_media.specs.declared.cuts.Place.TheVariants.{Outside}
use Rattle.as2_media.specs.declared.fault.TypeFault.{TypeFault}
use Rattle.as2_media.specs.Bytes.{is_bare_byte, is_token}
use Rattle.as2_media.specs.Cuts.{segments}
use Rattle.as2_media.specs.Values.{SpellsValue, is_quoted_text, between_quotes, value_among, spelled_value}
use Rattle.as2_media.specs.Parameters.{IsPadded, SpellsParameter, Spell, parameter, parameter_of, parameters, with_name, and_then}
use Rattle.as2_media.specs.MediaTypes.{Media, IsMediaType, behind_semicolons, media_type_reading, reading_of, essence, tokens, media_of}
use Rattle.as2_media.proofs.Fronts.{trimmed_padded, trimmed_again, nothing_kept}
use Rattle.as2_media.proofs.Segments.{joined_segments}
use Rattle.as2_media.proofs.Quotes.{quotes_whole, quoted_found}

-- which way an `if` went that gave something
given : {A : Type 0} (test : Bool) (a : Option A) (x : A) → (if test then a else None) ≡ Some x → (test ≡ true) × (a ≡ Some x)
given true a x h = (refl, h)
given false a x h = absurd cc

value_among_found : (text value : List ℕ) (inside : Option (List ℕ)) → trimmed_text text ≡ text → between_quotes text ≡ inside
    → value_among inside text ≡ Some value → SpellsValue text value
value_among_found text value (Some inner) t b h =
    let g = given (is_quoted_text false inner) (Some inner) value h in
    let e : inner ≡ value = let same : Some inner ≡ Some value = g.1 in cc in
    inr (rw (← e) (quoted_found inner g.0), quotes_whole text value (b ∙ g.1))
value_among_found text value None t b h =
    let g = given (not (length text == 0) && list_all is_bare_byte text) (Some text) value h in
    let p = and_parts (not (length text == 0)) (list_all is_bare_byte text) g.0 in
    let e : text ≡ value = let same : Some text ≡ Some value = g.1 in cc in
    inl (record { some = λ n. eqb-false (length text) 0 (not-true (length text == 0) p.0) (ap length (e ∙ n)); trim = rw (← e) t; bytes = rw (← e) p.1 }, e)

value_found : (text value : List ℕ) → trimmed_text text ≡ text → spelled_value text ≡ Some value → SpellsValue text value
value_found text value t h = value_among_found text value (between_quotes text) t refl h

named_found : (name text : List ℕ) (value : Option (List ℕ)) (p : List ℕ × List ℕ) → spelled_value (trimmed_text text) ≡ value → with_name name value ≡ Some p
    → (name ≡ p.0) × (spelled_value (trimmed_text text) ≡ Some p.1)
named_found name text None p v h = absurd cc
named_found name text (Some value) p v h =
    let e : (name, value) ≡ p = cc in
    (ap (λ (x : List ℕ × List ℕ). x.0) e, v ∙ ap (λ (x : List ℕ × List ℕ). Some x.1) e)

parameter_of_found : (text : List ℕ) (cut : Option (List ℕ × List ℕ)) (p : List ℕ × List ℕ) → cut_at equals_sign text ≡ cut → parameter_of cut ≡ Some p
    → SpellsParameter text p
parameter_of_found text None p e h = absurd cc
parameter_of_found text (Some cut) p e h =
    let g = given (is_token (trimmed_text cut.0)) (with_name (trimmed_text cut.0) (spelled_value (trimmed_text cut.1))) p h in
    let n = named_found (trimmed_text cut.0) cut.1 (spelled_value (trimmed_text cut.1)) p refl g.1 in
    let padded : IsPadded cut.0 (trimmed_text cut.0) = trimmed_padded cut.0 in
    record {
      left = cut.0;
      right = cut.1;
      spelled = trimmed_text cut.1;
      whole = (cut_found equals_sign text cut e).whole;
      token = rw (← n.0) g.0;
      named = rw (← n.0) padded;
      spells = value_found (trimmed_text cut.1) p.1 (trimmed_again cut.1) n.1;
      given = trimmed_padded cut.1;
    }

parameter_found : (text : List ℕ) (p : List ℕ × List ℕ) → parameter text ≡ Some p → SpellsParameter text p
parameter_found text p h = parameter_of_found text (cut_at equals_sign text) p refl h

-- the parameters that are read, of which there are no more than there is room for
record ParametersRead (room : ℕ) (texts : List (List ℕ)) (ps : List (List ℕ × List ℕ)) : Type 0 where
  pub spell : Spell texts ps
  pub few : length ps ≤ room

-- one parameter is read, and those behind it
record ReadsOne (room : ℕ) (text : List ℕ) (rest : Result (List (List ℕ × List ℕ)) TypeFault) (ps : List (List ℕ × List ℕ)) : Type 0 where
  pub first : List ℕ × List ℕ
  pub others : List (List ℕ × List ℕ)
  pub is : ps ≡ first ∷ others
  pub read : parameter text ≡ Some first
  pub behind : rest ≡ Ok others
  pub some : 0 < room

and_then_found : (room : ℕ) (text : List ℕ) (first : Option (List ℕ × List ℕ)) (rest : Result (List (List ℕ × List ℕ)) TypeFault) (ps : List (List ℕ × List ℕ))
    → parameter text ≡ first → and_then room first rest ≡ Ok ps → ReadsOne room text rest ps
and_then_found zero text first rest ps e h = absurd cc
and_then_found (suc room) text None rest ps e h = absurd cc
and_then_found (suc room) text (Some p) (Err f) ps e h = absurd cc
and_then_found (suc room) text (Some p) (Ok others) ps e h =
    record { first = p; others = others; is = sym (let same : p ∷ others ≡ ps = cc in same); read = e; behind = refl; some = omega arith }

parameters_found : (room : ℕ) (texts : List (List ℕ)) (ps : List (List ℕ × List ℕ)) → parameters room texts ≡ Ok ps → ParametersRead room texts ps
parameters_found room [] ps h =
    let none : [] ≡ ps = cc in
    record { spell = sym none; few = rw (← none) (omega arith) }
parameters_found room (text ∷ texts) ps h =
    elim (cases_Bool (length (trimmed_text text) == 0)) [
      | inl blank ↦
          let r = parameters_found room texts ps (rw blank at h) in
          record { spell = inl (nothing_kept text (nil_from_length (trimmed_text text) (eqb-true (length (trimmed_text text)) 0 blank)), r.spell); few = r.few }
      | inr some ↦
          let one = and_then_found room text (parameter text) (parameters (room - 1) texts) ps refl (rw some at h) in
          let r = parameters_found (room - 1) texts one.others one.behind in
          record {
            spell = inr (one.first, one.others, one.is, parameter_found text one.first one.read, r.spell);
            few = omega (arith, ap length one.is, r.few, one.some);
          }
    ]

-- ---- the whole

tokens_found : (cut : Option (List ℕ × List ℕ)) (e : List ℕ × List ℕ) → tokens cut ≡ Ok e → (cut ≡ Some e) × (is_token e.0 ≡ true) × (is_token e.1 ≡ true)
tokens_found None e h = absurd cc
tokens_found (Some cut) e h =
    elim (cases_Bool (is_token cut.0 && is_token cut.1)) [
      | inl both ↦
          let same : cut ≡ e = let ok : Ok cut ≡ Ok e = rw both at h in cc in
          let p = and_parts (is_token cut.0) (is_token cut.1) both in
          (ap (λ (x : List ℕ × List ℕ). Some x) same, rw (← same) p.0, rw (← same) p.1)
      | inr other ↦ absurd (let bad : Err _ ≡ Ok e = rw other at h in cc)
    ]

-- the type and subtype, and the parameters
media_found : (first : Result (List ℕ × List ℕ) TypeFault) (second : Result (List (List ℕ × List ℕ)) TypeFault) (media : Media)
    → media_of first second ≡ Ok media
    → (first ≡ Ok (media.type_name, media.subtype)) × (second ≡ Ok media.parameters)
media_found (Err f) second media h = absurd cc
media_found (Ok e) (Err f) media h = absurd cc
media_found (Ok e) (Ok ps) media h =
    let same : record { type_name = e.0; subtype = e.1; parameters = ps } ≡ media = cc in
    (ap (λ (m : Media). Ok (m.type_name, m.subtype)) same, ap (λ (m : Media). Ok m.parameters) same)

found_in : (text front : List ℕ) (texts : List (List ℕ)) (media : Media) → text ≡ front ++ behind_semicolons texts
    → media_of (essence front) (parameters 8 texts) ≡ Ok media → IsMediaType text media
found_in text front texts media whole h =
    let m = media_found (essence front) (parameters 8 texts) media h in
    let t = tokens_found (cut_at slash (trimmed_text front)) (media.type_name, media.subtype) m.0 in
    let inner : trimmed_text front ≡ media.type_name
    ++ slash ∷ media.subtype = (cut_found slash (trimmed_text front) (media.type_name, media.subtype) t.0).whole in
    let padded : IsPadded front (trimmed_text front) = trimmed_padded front in
    let r = parameters_found 8 texts media.parameters m.1 in
    record {
      essence = front;
      texts = texts;
      whole = whole;
      is = rw inner at padded;
      type_token = t.1;
      subtype_token = t.2;
      spell = r.spell;
      few = r.few;
    }

found_of : (text : List ℕ) (cut : Option (List ℕ × List ℕ)) (media : Media) → cut_at semicolon text ≡ cut → reading_of text cut ≡ Ok media
    → IsMediaType text media
found_of text None media e h = found_in text text [] media (sym (append-nil text)) h
found_of text (Some cut) media e h =
    found_in text cut.0 (segments Outside cut.1) media
    ((cut_found semicolon text cut e).whole ∙ ap (λ (x : List ℕ). cut.0 ++ x) (sym (joined_segments Outside cut.1))) h

found : (text : List ℕ) (media : Media) → media_type_reading text ≡ Ok media → IsMediaType text media
found text media h = found_of text (cut_at semicolon text) media refl h

pub found_by : (text : List ℕ) (r : Result Media TypeFault) → r ≡ media_type_reading text → IfOk r (IsMediaType text)
found_by text (Ok media) e = found text media (sym e)
found_by text (Err f) e = tt

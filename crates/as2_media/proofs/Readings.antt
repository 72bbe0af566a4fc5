-- What is spelled is read: one value, one parameter, and all.
use Rattle.std.proofs.Common.{◌≡◌, ℕ, zero, suc, ◌-◌, ◌≤◌, true, false, List, [], ◌∷◌, ◌++◌, length, Some, Ok, refl, ap, ◌∙◌, append-nil, arith, inl, inr}
use Rattle.std.specs.Prelude.{◌==◌}
use Rattle.std.specs.List.{list_all}
use Rattle.std.proofs.lemmas.Bool.{and_parts, ne_eqb, not-true}
use Rattle.std.proofs.lemmas.List.{nil_from_length}
use Rattle.as2_names.specs.Ascii.{quote, equals_sign, slash, semicolon}
use Rattle.as2_names.specs.Cuts.{cut_at}
use Rattle.as2_names.specs.Trim.{all_fall_off, trimmed_text}
use Rattle.as2_media.specs.Bytes.{is_bare_byte, is_token}
use Rattle.as2_media.specs.Values.{IsBare, SpellsValue, spelled_value}
use Rattle.as2_media.specs.Parameters.{IsPadded, SpellsParameter, Spell, parameter, parameter_of, parameters}
use Rattle.as2_media.specs.MediaTypes.{Media, IsMediaType, behind_semicolons, media_type_reading, reading_of, essence, media_of}
use Rattle.as2_media.proofs.Padding.{padded_trimmed, blank_trimmed}
use Rattle.as2_media.proofs.Fronts.{nothing_kept}
use Rattle.as2_media.proofs.Solid.{token_solid, tokens_solid, value_solid}
use Rattle.as2_media.proofs.Cutting.{is_free, other_byte, cut_free, cut_nowhere, token_free, padded_free, free_append}
use Rattle.as2_media.proofs.Segments.{segments_joined}
use Rattle.as2_media.proofs.Quotes.{between_quoted, between_none, quoted_again}

bare_again : (value : List ℕ) → IsBare value → spelled_value value ≡ Some value
bare_again [] v = absurd (v.some refl)
bare_again (b ∷ rest) v =
    let p = and_parts (is_bare_byte b) (list_all is_bare_byte rest) v.bytes in
    let all : list_all is_bare_byte (b ∷ rest) ≡ true = v.bytes in
    let some : (length (b ∷ rest) == 0) ≡ false = ne_eqb (length (b ∷ rest)) 0 (λ e. absurd (omega (arith, e))) in
    rw (between_none b rest (not-true (b == quote) (other_byte is_bare_byte b quote p.0 refl)), some, all) refl

value_again : (text value : List ℕ) → SpellsValue text value → spelled_value text ≡ Some value
value_again text value s =
    elim s [
      | inl x ↦ rw x.1 (bare_again value x.0)
      | inr x ↦ rw (x.1, between_quoted value, quoted_again value x.0) refl
    ]

parameter_again : (text : List ℕ) (p : List ℕ × List ℕ) → SpellsParameter text p → parameter text ≡ Some p
parameter_again text p s =
    let free = padded_free equals_sign s.left p.0 refl s.named (token_free equals_sign p.0 refl s.token) in
    let cut : cut_at equals_sign text ≡ Some (s.left, s.right) = ap (cut_at equals_sign) s.whole ∙ cut_free equals_sign s.left s.right free in
    let name : trimmed_text s.left ≡ p.0 = padded_trimmed s.left p.0 s.named (token_solid p.0 s.token) in
    let spelled : trimmed_text s.right ≡ s.spelled = padded_trimmed s.right s.spelled s.given (value_solid s.spelled p.1 s.spells) in
    let value : spelled_value (trimmed_text s.right) ≡ Some p.1 = ap spelled_value spelled ∙ value_again s.spelled p.1 s.spells in
    ap parameter_of cut ∙ rw (name, s.token, value) refl

-- a text with `=` is not of blanks alone
equals_stays : (left right : List ℕ) → all_fall_off (left ++ equals_sign ∷ right) ≡ true → equals_sign ≡ 0
equals_stays [] right h = absurd cc
equals_stays (b ∷ left) right h = equals_stays left right (and_parts _ (all_fall_off (left ++ equals_sign ∷ right)) h).1

some_trimmed : (text : List ℕ) (p : List ℕ × List ℕ) → SpellsParameter text p → (length (trimmed_text text) == 0) ≡ false
some_trimmed text p s =
    ne_eqb (length (trimmed_text text)) 0 (λ e.
    let all : all_fall_off text ≡ true = nothing_kept text (nil_from_length (trimmed_text text) e) in
    let no : equals_sign ≡ 0 = equals_stays s.left s.right (rw s.whole at all) in
    absurd cc)

one_again : (room : ℕ) (text : List ℕ) (texts : List (List ℕ)) (first : List ℕ × List ℕ) (others ps : List (List ℕ × List ℕ)) → ps ≡ first ∷ others
    → SpellsParameter text first
    → ((n : ℕ) → length others ≤ n → parameters n texts ≡ Ok others) → length ps ≤ room → parameters room (text ∷ texts) ≡ Ok ps
one_again zero text texts first others ps e s again le = absurd (omega (arith, le, ap length e))
one_again (suc room) text texts first others ps e s again le =
    rw (some_trimmed text first s, parameter_again text first s, again (suc room - 1) (omega (arith, le, ap length e)), e) refl

parameters_again : (room : ℕ) (texts : List (List ℕ)) (ps : List (List ℕ × List ℕ)) → Spell texts ps → length ps ≤ room → parameters room texts ≡ Ok ps
parameters_again room [] ps s le = rw s refl
parameters_again room (text ∷ texts) ps s le =
    elim s [
      | inl x ↦ rw (blank_trimmed text x.0) (parameters_again room texts ps x.1 le)
      | inr x ↦ one_again room text texts x.0 x.1 ps x.2 x.3 (λ n fits. parameters_again n texts x.1 x.4 fits) le
    ]

-- ---- the whole

essence_again : (text type_name subtype : List ℕ) → IsPadded text (type_name ++ slash ∷ subtype) → is_token type_name ≡ true → is_token subtype ≡ true
    → essence text ≡ Ok (type_name, subtype)
essence_again text type_name subtype p t s =
    let inner : trimmed_text text ≡ type_name
    ++ slash ∷ subtype = padded_trimmed text (type_name ++ slash ∷ subtype) p (tokens_solid type_name slash subtype t (token_solid subtype s)) in
    let free = token_free slash type_name refl t in
    rw (inner, cut_free slash type_name subtype free, t, s) refl

-- the text before the first `;`, and the segments behind it
essence_free : (text type_name subtype : List ℕ) → IsPadded text (type_name ++ slash ∷ subtype) → is_token type_name ≡ true → is_token subtype ≡ true
    → is_free semicolon text ≡ true
essence_free text type_name subtype p t s =
    padded_free semicolon text (type_name ++ slash ∷ subtype) refl p
    (free_append semicolon type_name (slash ∷ subtype) (token_free semicolon type_name refl t) (token_free semicolon subtype refl s))

reading_joined : (front : List ℕ) (texts : List (List ℕ)) (ps : List (List ℕ × List ℕ)) → is_free semicolon front ≡ true → Spell texts ps
    → media_type_reading (front ++ behind_semicolons texts) ≡ media_of (essence front) (parameters 8 texts)
reading_joined front [] ps f s = ap media_type_reading (append-nil front) ∙ ap (reading_of front) (cut_nowhere semicolon front f)
reading_joined front (text ∷ texts) ps f s =
    ap (reading_of (front ++ behind_semicolons (text ∷ texts))) (cut_free semicolon front (text ++ behind_semicolons texts) f)
    ∙ ap (λ (x : List (List ℕ)). media_of (essence front) (parameters 8 x)) (segments_joined text texts ps s)

pub again : (text : List ℕ) (media : Media) → IsMediaType text media → media_type_reading text ≡ Ok media
again text media m =
    let free = essence_free m.essence media.type_name media.subtype m.is m.type_token m.subtype_token in
    let front : essence m.essence ≡ Ok (media.type_name, media.subtype) =
    essence_again m.essence media.type_name media.subtype m.is m.type_token m.subtype_token in
    let back : parameters 8 m.texts ≡ Ok media.parameters = parameters_again 8 m.texts media.parameters m.spell m.few in
    ap media_type_reading m.whole ∙ reading_joined m.essence m.texts media.parameters free m.spell ∙ rw (front, back) refl

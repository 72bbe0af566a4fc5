-- Texts that are cut at each `;` outside quotes.
use Rattle.std.proofs.Common.{◌≡◌, ℕ, ◌+◌, ◌-◌, ◌<◌, Bool, true, false, List, [], ◌∷◌, ◌++◌, length, take, drop, get_or, refl, sym, ap, ◌∙◌, append-nil, arith, inl, inr}
use Rattle.std.specs.Prelude.{◌&&◌, ◌==◌, not}
use Rattle.std.specs.List.{onto_first}
use Rattle.std.proofs.lemmas.Bool.{cases_Bool, and_parts, and_from, eqb-true, ne_eqb, not-true}
use Rattle.std.proofs.lemmas.List.{drop_more, drop_all, take_all, take_rest}
use Rattle.as2_names.specs.Ascii.{quote, semicolon, backslash, equals_sign}
use Rattle.as2_names.specs.Trim.{all_fall_off}
use Rattle.as2_names.proofs.CutLists.{Cuts, cuts_on, cuts_here}
use Rattle.as2_media.specs.declared.cuts.Place.{Place}
use Rattle.as2_media.specs.declared.cuts.Place.TheVariants.{Outside, Quoted, Escaped}
use Rattle.as2_media.specs.Bytes.{is_bare_byte, is_line_byte}
use Rattle.as2_media.specs.Cuts.{next_place, is_end, segments}
use Rattle.as2_media.specs.Values.{SpellsValue, is_quoted_text}
use Rattle.as2_media.specs.Parameters.{IsPadded, SpellsParameter, Spell}
use Rattle.as2_media.specs.MediaTypes.{behind_semicolons}
use Rattle.as2_media.proofs.Quotes.{quoted_again}
use Rattle.as2_media.proofs.Cutting.{is_free, blank_free, passing_free, token_free, padded_free}

-- ---- a scan up to a place

not_end : (place : Place) (b : ℕ) → (place ≡ Outside → b ≡ 59 → ⊥) → is_end place b ≡ false
not_end Outside b on = ne_eqb b 59 (on refl)
not_end Quoted b on = refl
not_end Escaped b on = refl

pub scan_on : (place : Place) (text : List ℕ) (i : ℕ) → i < length text → (place ≡ Outside → get_or text i 0 ≡ 59 → ⊥)
    → Cuts (segments Outside text) (segments place) text i → Cuts (segments Outside text) (segments (next_place place (get_or text i 0))) text (i + 1)
scan_on place text i lt on =
    cuts_on (segments Outside text) (segments place) (segments (next_place place (get_or text i 0))) text i lt
    (ap (segments place) (drop_more text i 0 lt) ∙ rw (not_end place (get_or text i 0) on) refl)

pub scan_ends : (place : Place) (text : List ℕ) (i : ℕ) → i < length text → place ≡ Outside → get_or text i 0 ≡ 59
    → Cuts (segments Outside text) (segments place) text i
    → segments Outside text ≡ take i text ∷ segments Outside (take (length text - (i + 1)) (drop (i + 1) text))
scan_ends place text i lt outside end seen =
    cuts_here (segments Outside text) (segments place) (segments Outside) text [] i (ap (segments place) (drop_more text i 0 lt) ∙ rw (outside, end) refl) seen
    ∙ rw (append-nil (take i text), take_rest text (i + 1)) refl

pub scan_all : (place : Place) (text : List ℕ) → Cuts (segments Outside text) (segments place) text (length text) → segments Outside text ≡ text ∷ []
scan_all place text seen =
    cuts_here (segments Outside text) (segments place) (λ (rest : List ℕ). []) text [] (length text)
    (ap (segments place) (drop_all (length text) text (omega arith))) seen
    ∙ rw (append-nil (take (length text) text), take_all (length text) text (omega arith)) refl

-- ---- a text that is one segment

abbrev pub is_outside : Place → Bool
is_outside Outside = true
is_outside Quoted = false
is_outside Escaped = false

-- from a place on, its quotes are closed and no `;` stands outside them
abbrev pub is_closed : Place → List ℕ → Bool
is_closed place [] = is_outside place
is_closed place (b ∷ rest) = not (is_end place b) && is_closed (next_place place b) rest

pub closed_append : (place : Place) (front text : List ℕ) → is_closed place front ≡ true → is_closed Outside text ≡ true
    → is_closed place (front ++ text) ≡ true
closed_append Outside [] text f t = t
closed_append Quoted [] text f t = absurd cc
closed_append Escaped [] text f t = absurd cc
closed_append place (b ∷ front) text f t =
    let p = and_parts (not (is_end place b)) (is_closed (next_place place b) front) f in
    and_from (not (is_end place b)) (is_closed (next_place place b) (front ++ text)) p.0 (closed_append (next_place place b) front text p.1 t)

pub segments_closed : (place : Place) (text rest : List ℕ) → is_closed place text ≡ true
    → segments place (text ++ semicolon ∷ rest) ≡ text ∷ segments Outside rest
segments_closed Outside [] rest h = refl
segments_closed Quoted [] rest h = absurd cc
segments_closed Escaped [] rest h = absurd cc
segments_closed place (b ∷ text) rest h =
    let p = and_parts (not (is_end place b)) (is_closed (next_place place b) text) h in
    rw (not-true (is_end place b) p.0, segments_closed (next_place place b) text rest p.1) refl

pub segments_last : (place : Place) (text : List ℕ) → is_closed place text ≡ true → segments place text ≡ text ∷ []
segments_last place [] h = refl
segments_last place (b ∷ text) h =
    let p = and_parts (not (is_end place b)) (is_closed (next_place place b) text) h in
    rw (not-true (is_end place b) p.0, segments_last (next_place place b) text p.1) refl

-- a text without quotes and `;`
pub plain_closed : (text : List ℕ) → is_free quote text ≡ true → is_free semicolon text ≡ true → is_closed Outside text ≡ true
plain_closed [] q s = refl
plain_closed (b ∷ rest) q s =
    let p = and_parts (not (b == quote)) (is_free quote rest) q in
    let r = and_parts (not (b == semicolon)) (is_free semicolon rest) s in
    rw (not-true (b == quote) p.0, not-true (b == semicolon) r.0) (plain_closed rest p.1 r.1)

pub blank_closed : (text : List ℕ) → all_fall_off text ≡ true → is_closed Outside text ≡ true
blank_closed text h = plain_closed text (blank_free quote text refl h) (blank_free semicolon text refl h)

pub padded_closed : (text inner : List ℕ) → IsPadded text inner → is_closed Outside inner ≡ true → is_closed Outside text ≡ true
padded_closed text inner p h =
    rw p.whole (closed_append Outside (p.front ++ inner) p.back (closed_append Outside p.front inner (blank_closed p.front p.blank_front) h)
    (blank_closed p.back p.blank_back))

-- between quotes
abbrev place_of : Bool → Place
place_of true = Escaped
place_of false = Quoted

units_closed : (escaped : Bool) (value : List ℕ) → is_quoted_text escaped value ≡ true → is_closed (place_of escaped) (value ++ quote ∷ []) ≡ true
units_closed true [] h = absurd cc
units_closed false [] h = refl
units_closed true (b ∷ rest) h = units_closed false rest (and_parts (not (is_line_byte b)) (is_quoted_text false rest) h).1
units_closed false (b ∷ rest) h =
    let p = and_parts (not (is_line_byte b)) (not (b == quote) && is_quoted_text (b == backslash) rest) h in
    let r = and_parts (not (b == quote)) (is_quoted_text (b == backslash) rest) p.1 in
    elim (cases_Bool (b == backslash)) [
      | inl back ↦ rw back (units_closed true rest (let t : is_quoted_text true rest ≡ true = rw back at r.1 in t))
      | inr other ↦ rw (other, not-true (b == quote) r.0) (units_closed false rest (let t : is_quoted_text false rest ≡ true = rw other at r.1 in t))
    ]

value_closed : (text value : List ℕ) → SpellsValue text value → is_closed Outside text ≡ true
value_closed text value s =
    elim s [
      | inl x ↦ rw x.1 (plain_closed value (passing_free is_bare_byte quote value refl x.0.bytes) (passing_free is_bare_byte semicolon value refl x.0.bytes))
      | inr x ↦ rw x.1 (units_closed false value (quoted_again value x.0))
    ]

parameter_closed : (text : List ℕ) (p : List ℕ × List ℕ) → SpellsParameter text p → is_closed Outside text ≡ true
parameter_closed text p s =
    let left = plain_closed s.left (padded_free quote s.left p.0 refl s.named (token_free quote p.0 refl s.token))
    (padded_free semicolon s.left p.0 refl s.named (token_free semicolon p.0 refl s.token)) in
    rw s.whole (closed_append Outside s.left (equals_sign ∷ s.right) left (padded_closed s.right s.spelled s.given (value_closed s.spelled p.1 s.spells)))

pub spell_closed : (text : List ℕ) (texts : List (List ℕ)) (ps : List (List ℕ × List ℕ)) → Spell (text ∷ texts) ps → is_closed Outside text ≡ true
spell_closed text texts ps s =
    elim s [
      | inl x ↦ blank_closed text x.0
      | inr x ↦ parameter_closed text x.0 x.3
    ]

spell_behind : (text : List ℕ) (texts : List (List ℕ)) (ps : List (List ℕ × List ℕ)) → Spell (text ∷ texts) ps → (others : List (List ℕ × List ℕ))
    × Spell texts others
spell_behind text texts ps s =
    elim s [
      | inl x ↦ (ps, x.1)
      | inr x ↦ (x.1, x.4)
    ]

-- texts that spell parameters are the segments of their joining
pub segments_joined : (text : List ℕ) (texts : List (List ℕ)) (ps : List (List ℕ × List ℕ)) → Spell (text ∷ texts) ps
    → segments Outside (text ++ behind_semicolons texts) ≡ text ∷ texts
segments_joined text [] ps s = rw (append-nil text) (segments_last Outside text (spell_closed text [] ps s))
segments_joined text (behind ∷ texts) ps s =
    let others = spell_behind text (behind ∷ texts) ps s in
    segments_closed Outside text (behind ++ behind_semicolons texts) (spell_closed text (behind ∷ texts) ps s)
    ∙ ap (λ (x : List (List ℕ)). text ∷ x) (segments_joined behind texts others.0 others.1)

-- ---- the segments of a text, each behind a `;`, are the text behind one

front_joined : (b : ℕ) (texts : List (List ℕ)) (rest : List ℕ) → behind_semicolons texts ≡ semicolon ∷ rest
    → behind_semicolons (onto_first b texts) ≡ semicolon ∷ b ∷ rest
front_joined b [] rest h = absurd cc
front_joined b (text ∷ texts) rest h = ap (λ (x : List ℕ). semicolon ∷ b ∷ drop 1 x) h

end_semicolon : (place : Place) (b : ℕ) → is_end place b ≡ true → b ≡ semicolon
end_semicolon Outside b h = eqb-true b semicolon h
end_semicolon Quoted b h = absurd cc
end_semicolon Escaped b h = absurd cc

pub joined_segments : (place : Place) (text : List ℕ) → behind_semicolons (segments place text) ≡ semicolon ∷ text
joined_segments place [] = refl
joined_segments place (b ∷ rest) =
    elim (cases_Bool (is_end place b)) [
      | inl end ↦ rw end (ap (λ (x : List ℕ). semicolon ∷ x) (joined_segments Outside rest ∙ ap (λ (x : ℕ). x ∷ rest) (sym (end_semicolon place b end))))
      | inr on ↦ rw on (front_joined b (segments (next_place place b) rest) rest (joined_segments (next_place place b) rest))
    ]

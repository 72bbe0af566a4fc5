-- Texts of lines that end in CRLF.
use Rattle.std.proofs.Common.{◌≡◌, ◌==◌, ℕ, Bool, true, false, List, [], ◌∷◌, ◌++◌, map, reverse, refl, sym, ap, ◌∙◌, append_assoc, append-nil}
use Rattle.std.specs.Prelude.{not, ⊤, ◌||◌}
use Rattle.std.specs.List.{concat, list_all}
use Rattle.std.proofs.lemmas.Bool.{and_parts, and_from, not-true}
use Rattle.std.proofs.lemmas.List.{reverse-append, reverse-reverse}
use Rattle.std.proofs.lemmas.List.Elements.{All-nil, All-cons}
use Rattle.as2_parts.specs.Lines.{lines, without_feed, without_line_end, behind, is_blanks, is_hyphens}
use Rattle.as2_parts.specs.Parts.{IsMark, HasNoMark}
use Rattle.as2_parts.specs.Fields.{IsField, begins_with_blank, fields, is_field_name_byte}
use Rattle.as2_parts.proofs.Deciding.{plain_is}
use Rattle.as2_parts.proofs.Laws.{HasNoFeed, lines_front, fields_front}
use Rattle.as2_names.specs.Trim.{trimmed_text}

-- ---- texts that are put together

-- a text of texts, and its bytes
pub data Joint : Type 0 where
  leaf : List ℕ → Joint
  both : Joint → Joint → Joint

abbrev pub bytes : Joint → List ℕ
bytes (leaf text) = text
bytes (both left right) = bytes left ++ bytes right

-- its bytes before those of a text
abbrev pub before : Joint → List ℕ → List ℕ
before (leaf text) back = text ++ back
before (both left right) back = before left (before right back)

before_is : (t : Joint) (back : List ℕ) → before t back ≡ bytes t ++ back
before_is (leaf text) back = refl
before_is (both left right) back =
    ap (before left) (before_is right back) ∙ before_is left (bytes right ++ back) ∙ sym (append_assoc (bytes left) (bytes right) back)

-- however they are put together
pub same_bytes : (s t : Joint) → before s [] ≡ before t [] → bytes s ≡ bytes t
same_bytes s t e = sym (append-nil (bytes s)) ∙ sym (before_is s []) ∙ e ∙ before_is t [] ∙ append-nil (bytes t)

-- ---- lines

-- the line of a text
abbrev pub crlf : List ℕ → List ℕ
crlf text = text ++ 13 ∷ 10 ∷ []

-- the lines of texts, one behind the other
abbrev pub joined : List (List ℕ) → List ℕ
joined [] = []
joined (text ∷ texts) = text ++ 13 ∷ 10 ∷ joined texts

-- no text has an LF
abbrev pub HaveNoFeed : List (List ℕ) → Type 0
HaveNoFeed [] = ⊤
HaveNoFeed (text ∷ texts) = HasNoFeed text × HaveNoFeed texts

pub no_feed_append : (front back : List ℕ) → HasNoFeed front → HasNoFeed back → HasNoFeed (front ++ back)
no_feed_append [] back f b = b
no_feed_append (x ∷ front) back f b =
    let p = and_parts (not (x == 10)) (list_all (λ b. not (b == 10)) front) f in
    and_from (not (x == 10)) (list_all (λ b. not (b == 10)) (front ++ back)) p.0 (no_feed_append front back p.1 b)

pub lines_of_joined : (texts : List (List ℕ)) → HaveNoFeed texts → lines (joined texts) ≡ map crlf texts
lines_of_joined [] h = refl
lines_of_joined (text ∷ texts) h =
    ap lines (sym (append_assoc text (13 ∷ []) (10 ∷ joined texts)))
    ∙ lines_front (text ++ 13 ∷ []) (joined texts) (no_feed_append text (13 ∷ []) h.0 refl)
    ∙ (λ i. append_assoc text (13 ∷ []) (10 ∷ []) i ∷ lines_of_joined texts h.1 i)

pub concat_crlf : (texts : List (List ℕ)) → concat (map crlf texts) ≡ joined texts
concat_crlf [] = refl
concat_crlf (text ∷ texts) = append_assoc text (13 ∷ 10 ∷ []) (concat (map crlf texts)) ∙ ap (λ (x : List ℕ). text ++ 13 ∷ 10 ∷ x) (concat_crlf texts)

-- an empty line at the end is a line end
pub joined_push : (texts : List (List ℕ)) → joined (texts ++ [] ∷ []) ≡ joined texts ++ 13 ∷ 10 ∷ []
joined_push [] = refl
joined_push (text ∷ texts) = ap (λ (x : List ℕ). text ++ 13 ∷ 10 ∷ x) (joined_push texts) ∙ sym (append_assoc text (13 ∷ 10 ∷ joined texts) (13 ∷ 10 ∷ []))

pub line_end_off : (text : List ℕ) → without_line_end (crlf text) ≡ text
line_end_off text =
    ap (λ (x : List ℕ). reverse (without_feed x)) (reverse-append text (13 ∷ 10 ∷ [])) ∙ reverse-reverse text

-- ---- lines that part nothing

abbrev pub begins_with_hyphen : List ℕ → Bool
begins_with_hyphen [] = false
begins_with_hyphen (b ∷ rest) = b == 45

abbrev behind_mark : List ℕ → List ℕ → Bool
behind_mark boundary text = is_blanks (behind (45 ∷ 45 ∷ boundary) text) || is_hyphens (behind (45 ∷ 45 ∷ boundary) text)

not_behind : (boundary text : List ℕ) → begins_with_hyphen text ≡ false → behind_mark boundary text ≡ false
not_behind boundary [] h = refl
not_behind boundary (b ∷ rest) h = rw h refl

unmarked : (boundary text : List ℕ) → begins_with_hyphen text ≡ false → ¬ IsMark boundary (crlf text)
unmarked boundary text h = plain_is boundary (crlf text) (ap (behind_mark boundary) (line_end_off text) ∙ not_behind boundary text h)

pub no_marks : (boundary : List ℕ) (texts : List (List ℕ)) → list_all (λ text. not (begins_with_hyphen text)) texts ≡ true → HasNoMark boundary (map crlf texts)
no_marks boundary [] h = All-nil (λ line. ¬ IsMark boundary line)
no_marks boundary (text ∷ texts) h =
    let p = and_parts (not (begins_with_hyphen text)) (list_all (λ text. not (begins_with_hyphen text)) texts) h in
    All-cons (λ line. ¬ IsMark boundary line) (crlf text) (map crlf texts) (unmarked boundary text (not-true (begins_with_hyphen text) p.0))
    (no_marks boundary texts p.1)

-- ---- fields

-- the text is that of a field
pub record Names (name raw : List ℕ) : Type 0 where
  pub some : name ≡ [] → ⊥
  pub named : list_all is_field_name_byte name ≡ true
  pub whole : HasNoFeed (name ++ 58 ∷ raw)

pub field_line : (name raw : List ℕ) (texts : List (List ℕ)) → Names name raw → begins_with_blank (joined texts) ≡ false
    → fields (joined ((name ++ 58 ∷ raw) ∷ texts)) ≡ (name, trimmed_text (raw ++ 13 ∷ 10 ∷ [])) ∷ fields (joined texts)
field_line name raw texts n free =
    let text = name ++ 58 ∷ raw in
    let whole : (text ++ 13 ∷ []) ++ 10 ∷ [] ≡ name ++ 58 ∷ (raw ++ 13 ∷ 10 ∷ []) = append_assoc text (13 ∷ []) (10 ∷ [])
    ∙ append_assoc name (58 ∷ raw) (13 ∷ 10 ∷ []) in
    let field : IsField ((text ++ 13 ∷ []) ++ 10 ∷ []) (name, trimmed_text (raw ++ 13 ∷ 10 ∷ [])) =
    record { raw = raw ++ 13 ∷ 10 ∷ []; whole = whole; some = n.some; named = n.named; value = refl } in
    ap fields (sym (append_assoc text (13 ∷ []) (10 ∷ joined texts)))
    ∙ fields_front (text ++ 13 ∷ []) (joined texts) (name, trimmed_text (raw ++ 13 ∷ 10 ∷ [])) (no_feed_append text (13 ∷ []) n.whole refl) free field

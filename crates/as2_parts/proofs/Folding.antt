-- The lines of a text, each with those that go on with it.
use Rattle.std.proofs.Common.{◌≡◌, ◌==◌, ℕ, true, false, cond, List, [], ◌∷◌, ◌++◌, map, Option, Some, None, refl, sym, ap, subst, ◌∙◌, inl, inr}
use Rattle.std.specs.Prelude.{not, All, flat_map, filter_map}
use Rattle.std.specs.List.{concat, onto_first, cons_option}
use Rattle.std.proofs.lemmas.Bool.{cases_Bool, not_from_false, not-true, eqb-true}
use Rattle.std.proofs.lemmas.List.Elements.{All-nil, All-cons, All-head, All-tail}
use Rattle.as2_parts.specs.Lines.{lines}
use Rattle.as2_parts.specs.Fields.{FieldText, FoldedLine, lines_of, GoOn, IsFolded, HoldsFields, HasFields, begins_with_blank, folded_lines, folded_field, fields}
use Rattle.as2_parts.proofs.FieldText.{field_take, field_again, no_field, blank_no_field}

-- the lines at the front that go on with none, and the others with those that go on with them
abbrev Groups : Type 0
Groups = List (List ℕ) × List FoldedLine

abbrev onto_groups : List ℕ → Groups → Groups
onto_groups line groups = cond (begins_with_blank line) (line ∷ groups.0, groups.1) ([], record { line = line; more = groups.0 } ∷ groups.1)

abbrev group : List (List ℕ) → Groups
group [] = ([], [])
group (line ∷ rest) = onto_groups line (group rest)

abbrev Blank : List ℕ → Type 0
Blank line = begins_with_blank line ≡ true

-- ---- the groups are those of the definition

group_whole : (ls : List (List ℕ)) → ls ≡ (group ls).0 ++ flat_map lines_of (group ls).1
group_whole [] = refl
group_whole (line ∷ rest) =
    elim (cases_Bool (begins_with_blank line)) [
      | inl blank ↦ rw blank (ap (λ (ls : List (List ℕ)). line ∷ ls) (group_whole rest))
      | inr first ↦ rw first (ap (λ (ls : List (List ℕ)). line ∷ ls) (group_whole rest))
    ]

group_loose : (ls : List (List ℕ)) → GoOn (group ls).0
group_loose [] = All-nil Blank
group_loose (line ∷ rest) =
    elim (cases_Bool (begins_with_blank line)) [
      | inl blank ↦ rw blank (All-cons Blank line (group rest).0 blank (group_loose rest))
      | inr first ↦ rw first (All-nil Blank)
    ]

group_each : (ls : List (List ℕ)) → All IsFolded (group ls).1
group_each [] = All-nil IsFolded
group_each (line ∷ rest) =
    elim (cases_Bool (begins_with_blank line)) [
      | inl blank ↦ rw blank (group_each rest)
      | inr first ↦ rw first (All-cons IsFolded (record { line = line; more = (group rest).0 }) (group rest).1
          (not_from_false (begins_with_blank line) first, group_loose rest) (group_each rest))
    ]

group_front : (loose : List (List ℕ)) (rest : List (List ℕ)) (groups : List FoldedLine) → GoOn loose → group rest ≡ ([], groups)
    → group (loose ++ rest) ≡ (loose, groups)
group_front [] rest groups go_on e = e
group_front (line ∷ loose) rest groups go_on e =
    let blank : begins_with_blank line ≡ true = All-head Blank line loose go_on in
    rw (group_front loose rest groups (All-tail Blank line loose go_on) e, blank) refl

group_again : (groups : List FoldedLine) → All IsFolded groups → group (flat_map lines_of groups) ≡ ([], groups)
group_again [] each = refl
group_again (f ∷ rest) each =
    let here = All-head IsFolded f rest each in
    let first : begins_with_blank f.line ≡ false = not-true (begins_with_blank f.line) here.0 in
    let more = group_front f.more (flat_map lines_of rest) rest here.1 (group_again rest (All-tail IsFolded f rest each)) in
    rw (more, first) refl

-- ---- the text is cut into them

abbrev joined : List FoldedLine → List (List ℕ)
joined groups = map (λ f. concat (lines_of f)) groups

abbrev blocks : List (List ℕ) → List (List ℕ)
blocks [] = []
blocks (line ∷ rest) = (line ++ concat (group rest).0) ∷ joined (group rest).1

-- the first line begins as the text
lines_some : (b : ℕ) (rest : List ℕ) → (line : List ℕ) × (others : List (List ℕ)) × (lines (b ∷ rest) ≡ (b ∷ line) ∷ others)
lines_some b rest = elim (cases_Bool (b == 10)) [
  | inl feed ↦ ([], lines rest, rw feed refl)
  | inr other ↦ rw other (onto b (lines rest))
]
  where
    onto : (b : ℕ) (ls : List (List ℕ)) → (line : List ℕ) × (others : List (List ℕ)) × (onto_first b ls ≡ (b ∷ line) ∷ others)
    onto b [] = ([], [], refl)
    onto b (line ∷ others) = (line, others, refl)

onto_blocks : (b : ℕ) (ls : List (List ℕ)) → onto_first b (blocks ls) ≡ blocks (onto_first b ls)
onto_blocks b [] = refl
onto_blocks b (line ∷ rest) = refl

-- behind a line end
blocks_behind : (rest : List ℕ)
    → cond (not (begins_with_blank rest)) ((10 ∷ []) ∷ blocks (lines rest)) (onto_first 10 (blocks (lines rest))) ≡ blocks ((10 ∷ []) ∷ lines rest)
blocks_behind [] = refl
blocks_behind (b ∷ rest) =
    let l = lines_some b rest in
    rw l.2 (elim (cases_Bool (begins_with_blank (b ∷ rest))) [
      | inl blank ↦ rw blank refl
      | inr first ↦ rw first refl
    ])

folded_is : (text : List ℕ) → folded_lines text ≡ blocks (lines text)
folded_is [] = refl
folded_is (b ∷ rest) =
    elim (cases_Bool (b == 10)) [
      | inl feed ↦ rw (eqb-true b 10 feed, folded_is rest) (blocks_behind rest)
      | inr other ↦ rw (other, folded_is rest) (onto_blocks b (lines rest))
    ]

-- ---- the fields among them

blank_longer : (line rest : List ℕ) → begins_with_blank line ≡ true → begins_with_blank (line ++ rest) ≡ true
blank_longer [] rest blank = absurd cc
blank_longer (b ∷ line) rest blank = blank

-- lines that go on with none are no field
fields_joined : (ls : List (List ℕ)) → filter_map folded_field (blocks ls) ≡ filter_map folded_field (joined (group ls).1)
fields_joined [] = refl
fields_joined (line ∷ rest) =
    elim (cases_Bool (begins_with_blank line)) [
      | inl blank ↦
          let none : folded_field (line ++ concat (group rest).0) ≡ None =
          blank_no_field (line ++ concat (group rest).0) (blank_longer line (concat (group rest).0) blank) in
          rw (none, blank) refl
      | inr first ↦ rw first refl
    ]

fields_are : (text : List ℕ) → fields text ≡ filter_map folded_field (joined (group (lines text)).1)
fields_are text = ap (filter_map folded_field) (folded_is text) ∙ fields_joined (lines text)

holds_one : (f : FoldedLine) (rest : List FoldedLine) (others : List FieldText) → HoldsFields rest others → (o : Option FieldText)
    → folded_field (concat (lines_of f)) ≡ o → HoldsFields (f ∷ rest) (cons_option o others)
holds_one f rest others more None e = inr ((λ field i. absurd (cc (sym e ∙ field_again (concat (lines_of f)) field i))), more)
holds_one f rest others more (Some field) e = inl (field, others, refl, field_take (concat (lines_of f)) field e, more)

holds : (groups : List FoldedLine) → HoldsFields groups (filter_map folded_field (joined groups))
holds [] = refl
holds (f ∷ rest) = holds_one f rest (filter_map folded_field (joined rest)) (holds rest) (folded_field (concat (lines_of f))) refl

holds_again : (groups : List FoldedLine) (given : List FieldText) → HoldsFields groups given → filter_map folded_field (joined groups) ≡ given
holds_again [] given h = sym h
holds_again (f ∷ rest) given (inl h) = rw (field_again (concat (lines_of f)) h.0 h.3, holds_again rest h.1 h.4) (sym h.2)
holds_again (f ∷ rest) given (inr h) = rw (no_field (concat (lines_of f)) h.0) (holds_again rest given h.1)

pub fields_found : (text : List ℕ) → HasFields text (fields text)
fields_found text = record {
  loose = (group (lines text)).0;
  groups = (group (lines text)).1;
  whole = group_whole (lines text);
  loose_go_on = group_loose (lines text);
  each = group_each (lines text);
  fields_are = subst (HoldsFields (group (lines text)).1) (sym (fields_are text)) (holds (group (lines text)).1);
}

pub fields_only : (text : List ℕ) (given : List FieldText) → HasFields text given → fields text ≡ given
fields_only text given h =
    let same : group (lines text) ≡ (h.loose, h.groups) = ap group h.whole
    ∙ group_front h.loose (flat_map lines_of h.groups) h.groups h.loose_go_on (group_again h.groups h.each) in
    fields_are text ∙ ap (λ (g : Groups). filter_map folded_field (joined g.1)) same ∙ holds_again h.groups given h.fields_are

-- A text that is cut into lists, a byte at a time.
use Rattle.std.proofs.Common.{◌≡◌, ℕ, ◌+◌, ◌<◌, List, [], ◌∷◌, ◌++◌, length, take, drop, get_or, refl, sym, ap, ◌∙◌, arith}
use Rattle.std.proofs.lemmas.List.{drop_all, take_all, take_more}
use Rattle.std.specs.List.{onto_first}

-- the lists with those bytes before the first
abbrev pub onto_front : List ℕ → List (List ℕ) → List (List ℕ)
onto_front [] parts = parts
onto_front (b ∷ front) parts = onto_first b (onto_front front parts)

front_push : (front : List ℕ) (b : ℕ) (parts : List (List ℕ)) → onto_front (front ++ b ∷ []) parts ≡ onto_front front (onto_first b parts)
front_push [] b parts = refl
front_push (a ∷ front) b parts = ap (onto_first a) (front_push front b parts)

front_first : (front part : List ℕ) (parts : List (List ℕ)) → onto_front front (part ∷ parts) ≡ (front ++ part) ∷ parts
front_first [] part parts = refl
front_first (a ∷ front) part parts = ap (onto_first a) (front_first front part parts)

front_alone : (front : List ℕ) → 0 < length front → onto_front front [] ≡ front ∷ []
front_alone [] some = absurd (omega (arith, some))
front_alone (a ∷ []) some = refl
front_alone (a ∷ b ∷ front) some = ap (onto_first a) (front_alone (b ∷ front) (omega arith))

-- what was seen of a text, up to a place, and what the rest is cut into, are the lists of the whole
abbrev pub Cuts : List (List ℕ) → (List ℕ → List (List ℕ)) → List ℕ → ℕ → Type 0
Cuts whole cut text i = onto_front (take i text) (cut (drop i text)) ≡ whole

-- the byte there goes on with the first list, and what follows may be cut in another way
pub cuts_on : (whole : List (List ℕ)) (cut next : List ℕ → List (List ℕ)) (text : List ℕ) (i : ℕ) → i < length text
    → cut (drop i text) ≡ onto_first (get_or text i 0) (next (drop (i + 1) text)) → Cuts whole cut text i → Cuts whole next text (i + 1)
cuts_on whole cut next text i lt here seen =
    rw (take_more text i 0 lt) (front_push (take i text) (get_or text i 0) (next (drop (i + 1) text)) ∙ ap (onto_front (take i text)) (sym here) ∙ seen)

-- the first list ends there with those bytes
pub cuts_here : (whole : List (List ℕ)) (cut next : List ℕ → List (List ℕ)) (text last : List ℕ) (i : ℕ) → cut (drop i text) ≡ last ∷ next (drop (i + 1) text)
    → Cuts whole cut text i → whole ≡ (take i text ++ last) ∷ next (drop (i + 1) text)
cuts_here whole cut next text last i here seen =
    sym seen ∙ ap (onto_front (take i text)) here ∙ front_first (take i text) last (next (drop (i + 1) text))

-- all of the text is one list
pub cuts_end : (whole : List (List ℕ)) (cut : List ℕ → List (List ℕ)) (text : List ℕ) → cut [] ≡ [] → 0 < length text → Cuts whole cut text (length text)
    → whole ≡ take (length text) text ∷ cut (drop (length text) text)
cuts_end whole cut text nothing some seen =
    let none : drop (length text) text ≡ [] = drop_all (length text) text (omega arith) in
    let all : take (length text) text ≡ text = take_all (length text) text (omega arith) in
    sym seen ∙ rw (none, all, nothing) (front_alone text some)

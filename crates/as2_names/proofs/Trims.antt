-- What is taken off the ends of a text, a byte at a time.
use Rattle.std.proofs.Common.{◌≡◌, ℕ, ◌+◌, ◌-◌, ◌<◌, true, false, cond, List, [], ◌∷◌, ◌++◌, length, take, drop, get_or, refl, sym, subst, ◌∙◌, append_assoc, arith, inl, inr}
use Rattle.std.proofs.lemmas.Bool.{cases_Bool}
use Rattle.std.proofs.lemmas.List.{drop_more, take_more, take_all, length-drop}
use Rattle.as2_names.proofs.Cuts.{behind_at}
use Rattle.as2_names.specs.Trim.{falls_off, all_fall_off, without_back}

-- what stays of a text of which `seen` were seen and `rest` were not: all that stays ends at `kept`, or in the rest
abbrev pub Stays : List ℕ → List ℕ → List ℕ → List ℕ → Type 0
Stays text kept seen rest = without_back text ≡ cond (all_fall_off rest) kept (seen ++ without_back rest)

pub none_stays : (text : List ℕ) → all_fall_off text ≡ true → without_back text ≡ []
none_stays [] h = refl
none_stays (b ∷ rest) h = rw h refl

pub stays_first : (text : List ℕ) → Stays text [] [] text
stays_first text =
    elim (cases_Bool (all_fall_off text)) [
      | inl all ↦ rw all (none_stays text all)
      | inr some ↦ rw some refl
    ]

pub stays_off : (text kept seen : List ℕ) (b : ℕ) (rest : List ℕ) → falls_off b rest ≡ true → Stays text kept seen (b ∷ rest)
    → Stays text kept (seen ++ b ∷ []) rest
stays_off text kept seen b rest off s =
    elim (cases_Bool (all_fall_off rest)) [
      | inl all ↦ rw all (s ∙ rw (off, all) refl)
      | inr some ↦ rw some (s ∙ rw (off, some) (sym (append_assoc seen (b ∷ []) (without_back rest))))
    ]

pub stays_on : (text kept seen : List ℕ) (b : ℕ) (rest : List ℕ) → falls_off b rest ≡ false → Stays text kept seen (b ∷ rest)
    → Stays text (seen ++ b ∷ []) (seen ++ b ∷ []) rest
stays_on text kept seen b rest on s =
    elim (cases_Bool (all_fall_off rest)) [
      | inl all ↦ rw all (s ∙ rw (on, none_stays rest all) refl)
      | inr some ↦ rw some (s ∙ rw on (sym (append_assoc seen (b ∷ []) (without_back rest))))
    ]

behind_all : (text : List ℕ) (i : ℕ) → i < length text → behind_at text i ≡ drop (i + 1) text
behind_all text i lt = take_all (length text - (i + 1)) (drop (i + 1) text) (omega (arith, length-drop (i + 1) text))

pub stays_off_at : (text : List ℕ) (kept i : ℕ) → i < length text → falls_off (get_or text i 0) (behind_at text i) ≡ true
    → Stays text (take kept text) (take i text) (drop i text) → Stays text (take kept text) (take (i + 1) text) (drop (i + 1) text)
stays_off_at text kept i lt off s =
    let f : falls_off (get_or text i 0) (drop (i + 1) text) ≡ true = rw (← behind_all text i lt) off in
    let p : Stays text (take kept text) (take i text) (get_or text i 0 ∷ drop (i + 1) text) =
    subst (Stays text (take kept text) (take i text)) (drop_more text i 0 lt) s in
    subst (λ (x : List ℕ). Stays text (take kept text) x (drop (i + 1) text)) (sym (take_more text i 0 lt))
    (stays_off text (take kept text) (take i text) (get_or text i 0) (drop (i + 1) text) f p)

pub stays_on_at : (text : List ℕ) (kept i : ℕ) → i < length text → falls_off (get_or text i 0) (behind_at text i) ≡ false
    → Stays text (take kept text) (take i text) (drop i text) → Stays text (take (i + 1) text) (take (i + 1) text) (drop (i + 1) text)
stays_on_at text kept i lt on s =
    let f : falls_off (get_or text i 0) (drop (i + 1) text) ≡ false = rw (← behind_all text i lt) on in
    let p : Stays text (take kept text) (take i text) (get_or text i 0 ∷ drop (i + 1) text) =
    subst (Stays text (take kept text) (take i text)) (drop_more text i 0 lt) s in
    subst (λ (x : List ℕ). Stays text x x (drop (i + 1) text)) (sym (take_more text i 0 lt))
    (stays_on text (take kept text) (take i text) (get_or text i 0) (drop (i + 1) text) f p)

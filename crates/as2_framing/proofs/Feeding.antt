-- A head that comes in pieces is the head of the whole text.
use Rattle.std.proofs.Common.{◌≡◌, ◌+◌, ◌-◌, ◌<◌, ◌≤◌, ℕ, List, [], ◌∷◌, ◌++◌, length, take, drop, Some, refl, sym, ap, ◌∙◌, subst, append_assoc, length-append, arith, inl, inr, ◌⊎◌}
use Rattle.std.proofs.lemmas.Bool.{cases_Bool}
use Rattle.std.proofs.lemmas.List.{take_all, take-append-drop, take-append-le, length-take-le, length-drop, drop-append-le, drop-drop}
use Rattle.as2_media.specs.Bytes.{is_line_byte}
use Rattle.as2_framing.specs.HeadText.{unblank, up_to_empty_line, head_limit, window, HasHeadText, HasNoHeadText}
use Rattle.as2_framing.specs.HeadPieces.{HoldsText, HoldsHead, EndsHead, LeavesRest}
use Rattle.as2_framing.specs.Scanning.{line_in, scan_from}
use Rattle.as2_framing.specs.declared.head_bytes.HeadBytes.{HeadBytes}
use Rattle.as2_framing.specs.declared.scan.LineSoFar.{LineSoFar}
use Rattle.as2_framing.specs.declared.scan.LineSoFar.TheVariants.{Nothing}
use Rattle.as2_framing.specs.declared.scan.Scanned.TheVariants.{Ended, Open}
use Rattle.as2_framing.proofs.Heads.{unblank_append, line_stays, head_append}
use Rattle.as2_framing.proofs.Scanning.{Runs, runs}

-- a slice up to the end
pub rest_of : (n : ℕ) (xs : List ℕ) → take (length xs - n) (drop n xs) ≡ drop n xs
rest_of n xs = take_all (length xs - n) (drop n xs) (omega (arith, length-drop n xs))

unblank_blank : (text more : List ℕ) → unblank text ≡ [] → unblank (text ++ more) ≡ unblank more
unblank_blank [] more h = refl
unblank_blank (b ∷ text) more h =
    elim (cases_Bool (is_line_byte b)) [
      | inl t ↦ let e : unblank text ≡ [] = rw t at h in rw t (unblank_blank text more e)
      | inr f ↦ let e : b ∷ text ≡ [] = rw f at h in absurd cc
    ]

first_of : (kept : List ℕ) → (kept ≡ [] → ⊥) → (b : ℕ) × (rest : List ℕ) × (kept ≡ b ∷ rest)
first_of [] some = absurd (some refl)
first_of (b ∷ rest) some = (b, rest, refl)

empty_or_not : (kept : List ℕ) → (kept ≡ []) ⊎ (kept ≡ [] → ⊥)
empty_or_not [] = inl refl
empty_or_not (b ∷ rest) = inr (λ e. cc)

-- what is kept is the text behind its CR and LF
unblank_on : (kept text front : List ℕ) (blank : ℕ) → unblank text ≡ kept → LeavesRest kept front blank → unblank (text ++ front) ≡ kept ++ drop blank front
unblank_on kept text front blank behind k =
    elim (empty_or_not kept) [
      | inl none ↦ unblank_blank text front (behind ∙ none) ∙ sym (k.0 none) ∙ ap (λ (t : List ℕ). t ++ drop blank front) (sym none)
      | inr some ↦
          let f = first_of kept some in
          unblank_append text front f.0 f.1 (behind ∙ f.2) ∙ ap (λ (t : List ℕ). t ++ front) behind ∙ ap (λ (n : ℕ). kept ++ drop n front) (sym (k.1 some))
    ]

-- a text within the limit is its own window
pub short_window : (text : List ℕ) → length text ≤ head_limit → window text ≡ unblank text
short_window text le = ap unblank (take_all head_limit text le)

-- the pieces' bytes were scanned, and no empty line ended
pub added_none : (old new : HeadBytes) (text front : List ℕ) (blank : ℕ) (line : LineSoFar) → HoldsText old text → LeavesRest old.text.items front blank
    → blank ≤ length front
    → scan_from 0 old.line (drop blank front) ≡ Open line → new.text.items ≡ old.text.items ++ drop blank front → new.skipped ≡ old.skipped + blank
    → new.line ≡ line → HoldsText new (text ++ front)
added_none old new text front blank line h k le s items skipped same =
    let r : Runs old.text.items (drop blank front) 0 (Open line) =
    subst (Runs old.text.items (drop blank front) 0) s (runs (drop blank front) old.text.items 0 old.line h.none h.line) in
    record {
      behind = unblank_on old.text.items text front blank h.behind k ∙ sym items;
      counted = omega (
        arith,
        ap length items,
        length-append old.text.items (drop blank front),
        length-drop blank front,
        le,
        h.counted,
        length-append text front,
        skipped,
      );
      none = ap up_to_empty_line items ∙ r.0;
      line = ap (line_in Nothing) items ∙ r.1 ∙ sym same;
    }

-- .. or one ended
pub added_some : (old new : HeadBytes) (text front : List ℕ) (blank count : ℕ) → HoldsText old text → LeavesRest old.text.items front blank
    → blank ≤ length front
    → old.skipped + length old.text.items + length front ≤ head_limit
    → scan_from 0 old.line (drop blank front) ≡ Ended count → new.text.items ≡ old.text.items ++ take count (drop blank front)
    → EndsHead new text front (blank + count)
added_some old new text front blank count h k le room s items =
    let rest = drop blank front in
    let r : Runs old.text.items rest 0 (Ended count) = subst (Runs old.text.items rest 0) s (runs rest old.text.items 0 old.line h.none h.line) in
    let m : count ≡ r.0 = omega (arith, r.1) in
    let u : unblank (text ++ front) ≡ old.text.items ++ rest = unblank_on old.text.items text front blank h.behind k in
    let cut : take count rest ++ drop count rest ≡ rest = take-append-drop count rest in
    let kept : old.text.items ++ rest ≡ new.text.items ++ drop count rest =
    ap (λ (t : List ℕ). old.text.items ++ t) (sym cut) ∙ sym (append_assoc old.text.items (take count rest) (drop count rest))
    ∙ ap (λ (t : List ℕ). t ++ drop count rest) (sym items) in
    let size : length (take count rest) ≡ count = length-take-le count rest (omega (arith, m, r.2)) in
    let all : length new.text.items ≡ length old.text.items + count = omega (arith, ap length items, length-append old.text.items (take count rest), size) in
    let ends : up_to_empty_line (old.text.items ++ take count rest) ≡ Some (length old.text.items + count) =
    subst (λ (n : ℕ). up_to_empty_line (old.text.items ++ take n rest) ≡ Some (length old.text.items + n)) (sym m) r.4 in
    let here : up_to_empty_line new.text.items ≡ Some (length new.text.items) = ap up_to_empty_line items ∙ ends ∙ ap (λ (n : ℕ). Some n) (sym all) in
    record {
      some = omega (arith, m, r.3);
      within = omega (arith, m, r.2, length-drop blank front, le);
      found = (
        ap up_to_empty_line (short_window (text ++ front) (omega (arith, length-append text front, h.counted, room)) ∙ u ∙ kept)
            ∙ line_stays new.text.items (drop count rest) (length new.text.items) here,
        u ∙ kept ∙ ap (λ (t : List ℕ). new.text.items ++ t) (drop-drop count blank front),
      );
    }

-- ---- a piece, of which no more than a head may have is looked at

pub fed_whole : (new : HeadBytes) (text bytes : List ℕ) (room n : ℕ) → EndsHead new text (take room bytes) n → EndsHead new text bytes n
fed_whole new text bytes room n e =
    let cut : take room bytes ++ drop room bytes ≡ bytes = take-append-drop room bytes in
    record {
      some = e.some;
      within = omega (arith, e.within, ap length cut, length-append (take room bytes) (drop room bytes));
      found = subst (λ (t : List ℕ). HasHeadText (text ++ t) new.text.items (drop n t)) cut
          (subst (λ (t : List ℕ). HasHeadText t new.text.items (drop n (take room bytes ++ drop room bytes)))
          (append_assoc text (take room bytes) (drop room bytes))
          (subst (λ (t : List ℕ). HasHeadText ((text ++ take room bytes) ++ drop room bytes) new.text.items t)
          (sym (drop-append-le n (take room bytes) (drop room bytes) e.within))
          (head_append (text ++ take room bytes) (drop room bytes) new.text.items (drop n (take room bytes)) e.found)));
    }

pub fed_open : (new : HeadBytes) (text bytes : List ℕ) (room : ℕ) → HoldsText new (text ++ take room bytes) → length bytes < room
    → length text + room ≡ head_limit → HoldsHead new (text ++ bytes)
fed_open new text bytes room h short limit = record {
  holds = subst (λ (t : List ℕ). HoldsText new (text ++ t)) (take_all room bytes (omega (arith, short))) h;
  short = omega (arith, length-append text bytes, short, limit);
}

pub fed_long : (new : HeadBytes) (text bytes : List ℕ) (room : ℕ) → HoldsText new (text ++ take room bytes) → room ≤ length bytes
    → length text + room ≡ head_limit
    → HasNoHeadText (text ++ bytes) × (head_limit ≤ length (text ++ bytes))
fed_long new text bytes room h long limit =
    let front = text ++ take room bytes in
    let size : length front ≡ head_limit = omega (arith, length-append text (take room bytes), length-take-le room bytes long, limit) in
    let all : text ++ bytes ≡ front ++ drop room bytes = ap (λ (t : List ℕ). text ++ t) (sym (take-append-drop room bytes))
    ∙ sym (append_assoc text (take room bytes) (drop room bytes)) in
    let w : window (text ++ bytes) ≡ new.text.items =
    ap window all ∙ ap unblank (take-append-le head_limit front (drop room bytes) (omega (arith, size))) ∙ short_window front (omega (arith, size))
    ∙ h.behind in (
      ap up_to_empty_line w ∙ h.none,
      omega (arith, length-append text bytes, long, limit),
    )

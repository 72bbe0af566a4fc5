-- Trailers within their limit: what of them may come, and what never does.
use Rattle.std.proofs.Common.{◌≡◌, ◌+◌, ◌<◌, ◌≤◌, ℕ, ◌&&◌, eqb, List, [], ◌∷◌, ◌++◌, length, take, drop, Some, None, refl, sym, ap, ◌∙◌, subst, append_assoc, append-nil, length-append, arith, inl, inr}
use Rattle.std.proofs.lemmas.Bool.{cases_Bool, cases_lt}
use Rattle.std.proofs.lemmas.List.{take_all, take-append-drop, take-append-le, length-take-le}
use Rattle.std.proofs.Math.Seq.{drop-append-add, take-append-add}
use Rattle.as2_framing.specs.Chunks.{HasTrailer, HasNoTrailer, MayHaveTrailer, NeverHasTrailer}
use Rattle.as2_framing.specs.HeadText.{up_to_empty_line}
use Rattle.as2_framing.specs.Scanning.{line_in, may_end, missing_of, with_byte}
use Rattle.as2_framing.specs.declared.scan.LineSoFar.{LineSoFar}
use Rattle.as2_framing.specs.declared.scan.LineSoFar.TheVariants.{Nothing, Return, Text}
use Rattle.as2_framing.proofs.Heads.{line_stays, take_more}
use Rattle.as2_framing.proofs.Scanning.{ends_here, ends_nowhere, line_on}

no_line_twice : {n : ℕ} (t : List ℕ) → up_to_empty_line t ≡ Some n → up_to_empty_line t ≡ None → ⊥
no_line_twice t some none = let e = sym some ∙ none in absurd cc

-- ---- what may come

ended_once : (came more : List ℕ) (n : ℕ) → up_to_empty_line (came ++ more) ≡ Some n → length came + length more ≤ 16384 → MayHaveTrailer came
ended_once came more n e short =
    (more, drop n (came ++ more), (n, ap up_to_empty_line (take_all 16384 (came ++ more) (omega (arith, short, length-append came more))) ∙ e, refl))

pub trailer_may : (came : List ℕ) (line : LineSoFar) → up_to_empty_line came ≡ None → line_in Nothing came ≡ line → length came + missing_of line ≤ 16384
    → MayHaveTrailer came
trailer_may came Nothing none at short = ended_once came (10 ∷ []) (length came + 1) (ends_here came 10 none (ap may_end at)) short
trailer_may came Return none at short = ended_once came (10 ∷ []) (length came + 1) (ends_here came 10 none (ap may_end at)) short
trailer_may came Text none at short =
    let next = came ++ 10 ∷ [] in
    let line : line_in Nothing next ≡ Nothing = line_on Nothing came 10 ∙ ap (λ (l : LineSoFar). with_byte l 10) at in
    let end = ends_here next 10 (ends_nowhere came 10 none (ap may_end at)) (ap may_end line) in
    ended_once came (10 ∷ 10 ∷ []) (length next + 1) (ap up_to_empty_line (sym (append_assoc came (10 ∷ []) (10 ∷ []))) ∙ end) short

pub trailer_not_yet : (came : List ℕ) → up_to_empty_line came ≡ None → length came ≤ 16384 → HasNoTrailer came
trailer_not_yet came none short rest h = no_line_twice came (ap up_to_empty_line (sym (take_all 16384 came short)) ∙ h.1) none

-- ---- what never comes

-- no empty line ends in the front of a text in which none ends
front_none : (n : ℕ) (t : List ℕ) {k : ℕ} → up_to_empty_line t ≡ None → up_to_empty_line (take n t) ≡ Some k → ⊥
front_none n t {k} none some = no_line_twice t (ap up_to_empty_line (sym (take-append-drop n t)) ∙ line_stays (take n t) (drop n t) k some) none

-- nor in that with one byte more, where the last line has bytes
byte_none : (t : List ℕ) (b : ℕ) → up_to_empty_line t ≡ None → line_in Nothing t ≡ Text → up_to_empty_line (t ++ b ∷ []) ≡ None
byte_none t b none at =
    elim (cases_Bool (eqb b 10)) [
      | inl y ↦ ends_nowhere t b none (ap (λ (l : LineSoFar). eqb b 10 && may_end l) at ∙ rw y refl)
      | inr f ↦ ends_nowhere t b none (rw f refl)
    ]

two_missing : (t : List ℕ) (line : LineSoFar) → line_in Nothing t ≡ line → 16384 < length t + missing_of line → length t < 16384 → (line_in Nothing t ≡ Text)
    × (length t ≡ 16383)
two_missing t Nothing at long short = absurd (omega (arith, long, short))
two_missing t Return at long short = absurd (omega (arith, long, short))
two_missing t Text at long short = (at, omega (arith, long, short))

byte_short : (t more : List ℕ) → line_in Nothing t ≡ Text → length t ≡ 16383 → up_to_empty_line t ≡ None → (n : ℕ)
    → up_to_empty_line (take 16384 (t ++ more)) ≡ Some n → ⊥
byte_short t [] at size none n end = front_none 16384 t none (ap (λ (u : List ℕ). up_to_empty_line (take 16384 u)) (sym (append-nil t)) ∙ end)
byte_short t (b ∷ more) at size none n end =
    let full : 16384 ≡ length t + 1 = omega (arith, size) in
    let same : take 16384 (t ++ b ∷ more) ≡ t ++ b ∷ [] = ap (λ (k : ℕ). take k (t ++ b ∷ more)) full ∙ take-append-add t (b ∷ more) 1 in
    no_line_twice (t ++ b ∷ []) (ap up_to_empty_line (sym same) ∙ end) (byte_none t b none at)

pub trailer_never : (t : List ℕ) (line : LineSoFar) → up_to_empty_line t ≡ None → line_in Nothing t ≡ line → 16384 < length t + missing_of line
    → NeverHasTrailer t
trailer_never t line none at long more rest h =
    elim (cases_lt (length t) 16384) [
      | inr past ↦ front_none 16384 t none (ap up_to_empty_line (sym (take-append-le 16384 t more past)) ∙ h.1)
      | inl short ↦ let two = two_missing t line at long short in byte_short t more two.0 two.1 none h.0 h.1
    ]

-- what never comes behind a front never comes behind the text
pub never_on : (t rest : List ℕ) → NeverHasTrailer t → NeverHasTrailer (t ++ rest)
never_on t rest never more after h = never (rest ++ more) after (subst (λ (u : List ℕ). HasTrailer u after) (append_assoc t rest more) h)

-- ---- where it ends

pub trailer_ends : (came rest front : List ℕ) (m : ℕ) → (more : List ℕ) × (rest ≡ front ++ more) → m ≤ length front → length came + length front ≤ 16384
    → up_to_empty_line (came ++ take m front) ≡ Some (length came + m) → HasTrailer (came ++ rest) (drop m rest)
trailer_ends came rest front m split within short end =
    let tail = drop m front ++ split.0 in
    let whole : came ++ rest ≡ (came ++ take m front)
    ++ tail = ap (λ (t : List ℕ). came ++ t)
    (split.1 ∙ ap (λ (t : List ℕ). t ++ split.0) (sym (take-append-drop m front)) ∙ append_assoc (take m front) (drop m front) split.0)
    ∙ sym (append_assoc came (take m front) tail) in
    let grown = take_more 16384 (came ++ take m front) tail in
    let fits : length (came ++ take m front) ≤ 16384 = omega (arith, short, length-append came (take m front), length-take-le m front within) in
    let same : take 16384 (came ++ rest) ≡ (came ++ take m front) ++ grown.0 = ap (take 16384) whole ∙ grown.1
    ∙ ap (λ (t : List ℕ). t ++ grown.0) (take_all 16384 (came ++ take m front) fits) in
    (length came + m, ap up_to_empty_line same ∙ line_stays (came ++ take m front) grown.0 (length came + m) end, sym (drop-append-add came rest m))

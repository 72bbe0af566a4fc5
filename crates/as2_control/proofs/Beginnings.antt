-- What came of a frame: its head, as far as it came, and what may come behind it.
use Rattle.std.proofs.Common.{◌≡◌, ℕ, zero, suc, ◌+◌, ◌-◌, ◌*◌, ◌^◌, ◌<◌, ◌≤◌, List, [], ◌∷◌, ◌++◌, length, min, take, drop, replicate, get_or, inl, inr, refl, sym, ◌∙◌, ap, subst, arith}
use Rattle.std.proofs.Math.Nat.{min-le_left, min-le_right}
use Rattle.std.proofs.lemmas.Bool.{cases_lt}
use Rattle.std.proofs.lemmas.Nat.{from_be_bytes-to_be_bytes_4}
use Rattle.std.proofs.lemmas.List.{append_assoc, append-nil, length-append, length-drop, length-take-le, length-replicate, get_or-take, get_or_append_left, get_or-append_right, get_or_past, ext_get_or, take-append-drop, drop_all, drop_at}
use Rattle.as2_control.specs.Coming.{StillAwaits, AwaitsBytes}
use Rattle.as2_control.specs.declared.heads.StillToCome.{StillToCome}
use Rattle.as2_control.specs.declared.heads.StillToCome.TheVariants.{Bytes, Never, Whole}
use Rattle.as2_control.specs.Frames.{length_text, opening_line, head_text, frame_text, IsFrame, IsFrameOf}
use Rattle.as2_control.proofs.Lengths.{length-length_text}

-- the opening line is ten bytes long
length-opening_line : length opening_line ≡ 10
unfolding opening_line
length-opening_line = refl

-- a head is fourteen
length-head_text : (count : ℕ) → length (head_text count) ≡ 14
length-head_text count = omega (arith, length-append opening_line (length_text count), length-length_text count, length-opening_line)

-- the four bytes of a number add up to it
number_is : (n : ℕ) → n < 2 ^ 32 → n ≡ get_or (length_text n) 0 0 * 16777216 + get_or (length_text n) 1 0 * 65536
    + get_or (length_text n) 2 0 * 256 + get_or (length_text n) 3 0
unfolding length_text
number_is n small = sym (from_be_bytes-to_be_bytes_4 n small) ∙ refl

-- the first ten bytes of a head are the opening line, the others the length
opening_at : (count i : ℕ) → i < 10 → get_or (head_text count) i 0 ≡ get_or opening_line i 0
opening_at count i early = get_or_append_left opening_line (length_text count) 0 i (omega (arith, length-opening_line))

length_at : (count j : ℕ) → get_or (head_text count) (10 + j) 0 ≡ get_or (length_text count) j 0
length_at count j =
    get_or-append_right opening_line (length_text count) 10 (10 + j) 0 length-opening_line (omega arith)
    ∙ ap (λ i. get_or (length_text count) i 0) (let e : 10 + j - 10 ≡ j = omega arith in e)

-- ---- what the code finds in the bytes that came

-- the length is told with zeros for those of its bytes that didn't come
abbrev pub Told : List ℕ → ℕ → Type 0
Told came told = length_text told ≡ get_or came 10 0 ∷ get_or came 11 0 ∷ get_or came 12 0 ∷ get_or came 13 0 ∷ []

-- they go along with the opening line
abbrev pub Opens : List ℕ → Type 0
Opens came = take (min (length came) 10) came ≡ take (min (length came) 10) opening_line

told_at : (came : List ℕ) (told : ℕ) → Told came told → (j : ℕ) → j < 4 → get_or (length_text told) j 0 ≡ get_or came (10 + j) 0
told_at came told t zero inside = ap (λ l. get_or l 0 0) t
told_at came told t (suc zero) inside = ap (λ l. get_or l 1 0) t
told_at came told t (suc (suc zero)) inside = ap (λ l. get_or l 2 0) t
told_at came told t (suc (suc (suc zero))) inside = ap (λ l. get_or l 3 0) t
told_at came told t (suc (suc (suc (suc j)))) inside = absurd (omega arith)

-- ---- of a frame

-- the bytes that came are the frame's
came_at : (came more body : List ℕ) → came ++ more ≡ frame_text body → (i : ℕ) → i < length came → i < 14
    → get_or came i 0 ≡ get_or (head_text (length body)) i 0
came_at came more body e i inside early =
    sym (get_or_append_left came more 0 i inside) ∙ (ap (λ l. get_or l i 0) e
    ∙ get_or_append_left (head_text (length body)) body 0 i (omega (arith, length-head_text (length body))))

came_length_at : (came more body : List ℕ) → came ++ more ≡ frame_text body → (j : ℕ) → j < 4 → 10 + j < length came
    → get_or came (10 + j) 0 ≡ get_or (length_text (length body)) j 0
came_length_at came more body e j inside there =
    came_at came more body e (10 + j) there (omega arith) ∙ length_at (length body) j

came_length_le : (came more body : List ℕ) → came ++ more ≡ frame_text body → (j : ℕ) → j < 4
    → get_or came (10 + j) 0 ≤ get_or (length_text (length body)) j 0
came_length_le came more body e j inside = elim (cases_lt (10 + j) (length came)) [
  | inl there ↦ omega (arith, came_length_at came more body e j inside there)
  | inr past ↦ omega (arith, get_or_past came (10 + j) 0 past)
]

-- no shorter frame begins so than is told
pub told_least : (came more body : List ℕ) (told : ℕ) → came ++ more ≡ frame_text body → length body < 2 ^ 32 → Told came told → told < 2 ^ 32
    → told ≤ length body
told_least came more body told e short t small =
    omega (
      arith,
      number_is told small,
      number_is (length body) short,
      told_at came told t 0 (omega arith),
      told_at came told t 1 (omega arith),
      told_at came told t 2 (omega arith),
      told_at came told t 3 (omega arith),
      came_length_le came more body e 0 (omega arith),
      came_length_le came more body e 1 (omega arith),
      came_length_le came more body e 2 (omega arith),
      came_length_le came more body e 3 (omega arith),
    )

-- once the head came, its length is told
pub told_exact : (came more body : List ℕ) (told : ℕ) → came ++ more ≡ frame_text body → length body < 2 ^ 32 → Told came told → told < 2 ^ 32
    → 14 ≤ length came → told ≡ length body
told_exact came more body told e short t small there =
    omega (
      arith,
      number_is told small,
      number_is (length body) short,
      told_at came told t 0 (omega arith),
      told_at came told t 1 (omega arith),
      told_at came told t 2 (omega arith),
      told_at came told t 3 (omega arith),
      came_length_at came more body e 0 (omega arith) (omega arith),
      came_length_at came more body e 1 (omega arith) (omega arith),
      came_length_at came more body e 2 (omega arith) (omega arith),
      came_length_at came more body e 3 (omega arith) (omega arith),
    )

-- what came of a frame goes along with the opening line
pub frame_opens : (came more body : List ℕ) → came ++ more ≡ frame_text body → Opens came
frame_opens came more body e =
    let in_came : min (length came) 10 ≤ length came = min-le_left (length came) 10 in
    let in_line : min (length came) 10 ≤ 10 = min-le_right (length came) 10 in
    let long : length (take (min (length came) 10) came) ≡ min (length came) 10 = length-take-le (min (length came) 10) came in_came in
    let wide : length (take (min (length came) 10) opening_line) ≡ min (length came) 10 =
    length-take-le (min (length came) 10) opening_line (omega (arith, length-opening_line)) in
    ext_get_or 0 (take (min (length came) 10) came) (take (min (length came) 10) opening_line) (long ∙ sym wide)
    (λ i inside. let below : i < min (length came) 10 = omega arith in
    get_or-take (min (length came) 10) came i 0 below
    ∙ (came_at came more body e i (omega arith) (omega arith)
    ∙ (opening_at (length body) i (omega arith)
    ∙ sym (get_or-take (min (length came) 10) opening_line i 0 below))))

-- the lengths of a frame's parts
pub frame_length : (came more body : List ℕ) → came ++ more ≡ frame_text body → length came + length more ≡ 14 + length body
frame_length came more body e =
    omega (arith, length-append came more, ap length e, length-append (head_text (length body)) body, length-head_text (length body))

-- ---- to a frame

-- what goes along with the opening line and tells that length is the head's beginning
agrees_at : (came : List ℕ) (told : ℕ) → Opens came → Told came told → (i : ℕ) → i < length came → i < 14
    → get_or came i 0 ≡ get_or (head_text told) i 0
agrees_at came told opens t i inside early = elim (cases_lt i 10) [
  | inl first ↦
      (let below : i < min (length came) 10 = omega arith in
      sym (get_or-take (min (length came) 10) came i 0 below)
      ∙ (ap (λ l. get_or l i 0) opens
      ∙ (get_or-take (min (length came) 10) opening_line i 0 below
      ∙ sym (opening_at told i first))))
  | inr later ↦
      (let at : 10 + (i - 10) ≡ i = omega arith in
      ap (λ k. get_or came k 0) (sym at)
      ∙ (sym (told_at came told t (i - 10) (omega arith))
      ∙ (sym (length_at told (i - 10))
      ∙ ap (λ k. get_or (head_text told) k 0) at)))
]

-- the head is what came of it and its rest
head_begun : (came : List ℕ) (told : ℕ) → Opens came → Told came told → length came ≤ 14
    → came ++ drop (length came) (head_text told) ≡ head_text told
head_begun came told opens t short =
    let wide : length (take (length came) (head_text told)) ≡ length came =
    length-take-le (length came) (head_text told) (omega (arith, length-head_text told)) in
    let begun : came ≡ take (length came) (head_text told) =
    ext_get_or 0 came (take (length came) (head_text told)) (sym wide)
    (λ i inside. agrees_at came told opens t i inside (omega arith) ∙ sym (get_or-take (length came) (head_text told) i 0 inside)) in
    ap (λ l. l ++ drop (length came) (head_text told)) begun ∙ take-append-drop (length came) (head_text told)

-- once it came, the head stands before the rest
pub head_came : (came : List ℕ) (told : ℕ) → Opens came → Told came told → 14 ≤ length came → came ≡ head_text told ++ drop 14 came
head_came came told opens t long =
    let wide : length (take 14 came) ≡ 14 = length-take-le 14 came long in
    let head : take 14 came ≡ head_text told =
    ext_get_or 0 (take 14 came) (head_text told) (wide ∙ sym (length-head_text told))
    (λ i inside. get_or-take 14 came i 0 (omega arith) ∙ agrees_at came told opens t i (omega arith) (omega arith)) in
    sym (take-append-drop 14 came) ∙ ap (λ l. l ++ drop 14 came) head

-- the rest of the head, and then anything, stand as behind the head
completed : (came : List ℕ) (told : ℕ) (pad : List ℕ) → Opens came → Told came told
    → came ++ (drop (length came) (head_text told) ++ pad) ≡ head_text told ++ (drop 14 came ++ pad)
completed came told pad opens t = elim (cases_lt (length came) 14) [
  | inl short ↦
      sym (append_assoc came (drop (length came) (head_text told)) pad)
      ∙ (ap (λ l. l ++ pad) (head_begun came told opens t (omega arith))
      ∙ ap (λ l. head_text told ++ (l ++ pad)) (sym (drop_all 14 came (omega arith))))
  | inr long ↦
      ap (λ l. came ++ (l ++ pad)) (drop_all (length came) (head_text told) (omega (arith, length-head_text told)))
      ∙ (ap (λ l. l ++ pad) (head_came came told opens t long) ∙ append_assoc (head_text told) (drop 14 came) pad)
]

-- ---- what is answered

pub awaits_bytes : (most : ℕ) (came : List ℕ) (told : ℕ) → most < 2 ^ 32 → Opens came → Told came told → told ≤ most → length came < 14 + told
    → AwaitsBytes most came (14 + told - length came)
awaits_bytes most came told small opens t fits less =
    let body_is : length (drop 14 came ++ replicate (told - length (drop 14 came)) 0) ≡ told =
    omega (
      arith,
      length-append (drop 14 came) (replicate (told - length (drop 14 came)) 0),
      length-drop 14 came,
      length-replicate {A = ℕ} (told - length (drop 14 came)) 0,
    ) in
    let more_is : length (drop (length came) (head_text told) ++ replicate (told - length (drop 14 came)) 0) ≡ 14 + told - length came =
    omega (
      arith,
      length-append (drop (length came) (head_text told)) (replicate (told - length (drop 14 came)) 0),
      length-drop 14 came,
      length-drop (length came) (head_text told),
      length-head_text told,
      length-replicate {A = ℕ} (told - length (drop 14 came)) 0,
    ) in
    record {
      some = omega arith;
      possible = (
        drop (length came) (head_text told) ++ replicate (told - length (drop 14 came)) 0,
        more_is,
        (
          drop 14 came ++ replicate (told - length (drop 14 came)) 0,
          record {
            whole = completed came told (replicate (told - length (drop 14 came)) 0) opens t
                ∙ ap (λ n. head_text n ++ (drop 14 came ++ replicate (told - length (drop 14 came)) 0)) (sym body_is);
            within = omega arith;
          },
        ),
      );
      least = λ more frame. omega (
        arith,
        frame_length came more frame.0 frame.1.whole,
        frame.1.within,
        told_least came more frame.0 told frame.1.whole (omega (arith, frame.1.within)) t (omega arith),
      );
      exact = λ there more frame. omega (
        arith,
        frame_length came more frame.0 frame.1.whole,
        frame.1.within,
        told_exact came more frame.0 told frame.1.whole (omega (arith, frame.1.within)) t (omega arith) there,
      );
    }

pub is_whole : (most : ℕ) (came : List ℕ) (told : ℕ) → Opens came → Told came told → told ≤ most → length came ≡ 14 + told → IsFrame most came
is_whole most came told opens t fits all =
    let body_is : length (drop 14 came) ≡ told = omega (arith, length-drop 14 came) in (
      drop 14 came,
      record {
        whole = head_came came told opens t (omega arith) ∙ ap (λ n. head_text n ++ drop 14 came) (sym body_is);
        within = omega arith;
      },
    )

pub never_opens : (most : ℕ) (came : List ℕ) → ¬ Opens came → (more : List ℕ) → ¬ IsFrame most (came ++ more)
never_opens most came closed more frame = closed (frame_opens came more frame.0 frame.1.whole)

pub never_fits : (most : ℕ) (came : List ℕ) (told : ℕ) → most < 2 ^ 32 → Told came told → told < 2 ^ 32 → most < told
    → (more : List ℕ) → ¬ IsFrame most (came ++ more)
never_fits most came told small t short over more frame =
    omega (arith, frame.1.within, told_least came more frame.0 told frame.1.whole (omega (arith, frame.1.within)) t short)

pub never_longer : (most : ℕ) (came : List ℕ) (told : ℕ) → most < 2 ^ 32 → Told came told → told < 2 ^ 32 → 14 + told < length came
    → (more : List ℕ) → ¬ IsFrame most (came ++ more)
never_longer most came told small t short over more frame =
    omega (
      arith,
      frame.1.within,
      frame_length came more frame.0 frame.1.whole,
      told_exact came more frame.0 told frame.1.whole (omega (arith, frame.1.within)) t short (omega arith),
    )

-- behind its head stands a frame's body
pub frame_body : (most : ℕ) (text : List ℕ) → IsFrame most text → (14 ≤ length text) × IsFrameOf most text (drop 14 text)
frame_body most text frame =
    let body_is : drop 14 text ≡ frame.0 = ap (λ l. drop 14 l) frame.1.whole
    ∙ drop_at (head_text (length frame.0)) frame.0 14 (length-head_text (length frame.0)) in (
      omega (arith, ap length frame.1.whole, length-append (head_text (length frame.0)) frame.0, length-head_text (length frame.0)),
      record { whole = frame.1.whole ∙ ap frame_text (sym body_is); within = omega (arith, ap length body_is, frame.1.within) },
    )

-- a text is the frame of one body
pub one_body : (most : ℕ) (text a b : List ℕ) → IsFrameOf most text a → IsFrameOf most text b → a ≡ b
one_body most text a b frame frame' =
    sym (drop_at (head_text (length a)) a 14 (length-head_text (length a)))
    ∙ (ap (λ l. drop 14 l) (sym frame.whole ∙ frame'.whole) ∙ drop_at (head_text (length b)) b 14 (length-head_text (length b)))

-- what isn't whole is no frame
pub no_frame : (most : ℕ) (text : List ℕ) (r : StillToCome) → StillAwaits most text r → ¬ (r ≡ Whole) → ¬ IsFrame most text
no_frame most text (Bytes n) a other frame =
    omega (arith, a.some, a.least [] (subst (IsFrame most) (sym (append-nil text)) frame))
no_frame most text Whole a other frame = other refl
no_frame most text Never a other frame = a [] (subst (IsFrame most) (sym (append-nil text)) frame)

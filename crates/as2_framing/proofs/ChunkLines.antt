-- Chunk lines within their limit: what of them may come, and what never does.
use Rattle.std.proofs.Common.{◌≡◌, ◌⊎◌, ◌+◌, ◌<◌, ◌≤◌, ℕ, Bool, true, List, [], ◌∷◌, ◌++◌, length, drop, Option, Some, None, Ok, refl, sym, ap, ◌∙◌, subst, append_assoc, append-nil, length-append, arith, inl, inr}
use Rattle.std.proofs.lemmas.List.{drop-append-le, append_cancel_right}
use Rattle.std.proofs.lemmas.Bool.{cases_lt}
use Rattle.std.proofs.lemmas.List.Elements.{All-nil, All-cons, All-head, All-tail}
use Rattle.std.specs.Char.{is_ascii_hexdigit}
use Rattle.httparse.specs.Grammar.{AllPass, is_ows, is_extension_byte, print_extension, IsExtension, ChunkLine, IsChunkLine, print_chunk_line, chunk_size, HasNoChunkLine, NeverHasChunkLine, MayBecomeChunkLine}
use Rattle.httparse.specs.Outcome.{IfComplete, OnPartial}
use Rattle.httparse.specs.Spans.{IsChunkLineAt}
use Rattle.httparse.specs.declared.InvalidChunkSize.{InvalidChunkSize}
use Rattle.httparse.specs.declared.Status.{Status}
use Rattle.httparse.specs.declared.Status.TheVariants.{Complete, Partial}
use Rattle.httparse.proofs.ChunkLemmas.{ReadsChunkLine-append}
use Rattle.as2_framing.specs.Chunks.{HasLine, HasNoLine, MayHaveLine, NeverHasLine}
use Rattle.as2_framing.specs.ChunkPieces.{EndsInReturn}
use Rattle.as2_framing.proofs.Cuts.{cut}

-- ---- the bytes of a line

-- without its CR LF
abbrev text_of : ChunkLine → List ℕ
text_of l = l.digits ++ (l.pad ++ print_extension l.extension)

spelled : (l : ChunkLine) → print_chunk_line l ≡ text_of l ++ 13 ∷ 10 ∷ []
unfolding print_chunk_line
spelled l = simp append_assoc

-- a line that these bytes become with some more
finish : (buf : List ℕ) (l : ChunkLine) (more : List ℕ) → IsChunkLine l → buf ++ more ≡ print_chunk_line l → length buf + length more ≤ 1024 → MayHaveLine buf
finish buf l more is e short = (
  more,
  chunk_size l,
  [],
  record {
    line = l;
    reads = (is, e ∙ sym (append-nil (print_chunk_line l)));
    short = omega (arith, length-append buf more, ap length e);
    says = refl;
  },
)

-- ---- what of a line that is cut may come

-- there is room for CR LF, or for LF behind CR
abbrev pub Room : List ℕ → Type 0
Room buf = (length buf + 2 ≤ 1024) ⊎ ((length buf < 1024) × EndsInReturn buf)

-- the byte that a text ends in belongs to its last part
ends_alone : (c k : List ℕ) → 13 ∷ [] ≡ c ++ k → (k ≡ []) ⊎ ((f : List ℕ) × (k ≡ f ++ 13 ∷ []))
ends_alone [] k e = inr ([], sym e)
ends_alone (b ∷ []) k e = let none : k ≡ [] = cc in inl none
ends_alone (b ∷ d ∷ c) k e = absurd cc

-- the byte that a text ends in belongs to its last part
ends_in : (ahead k front : List ℕ) → ahead ++ k ≡ front ++ 13 ∷ [] → (k ≡ []) ⊎ ((f : List ℕ) × (k ≡ f ++ 13 ∷ []))
ends_in ahead k front e =
    elim (cut ahead k front (13 ∷ []) e) [
      | inl h ↦ inr (h.0, h.2)
      | inr h ↦ ends_alone h.0 k h.2
    ]

last_passes : (test : ℕ → Bool) (f : List ℕ) (b : ℕ) → AllPass test (f ++ b ∷ []) → test b ≡ true
last_passes test [] b all = All-head (λ v. test v ≡ true) b [] all
last_passes test (c ∷ f) b all = last_passes test f b (All-tail (λ v. test v ≡ true) c (f ++ b ∷ []) all)

front_passes : (test : ℕ → Bool) (xs ys : List ℕ) → AllPass test (xs ++ ys) → AllPass test xs
front_passes test [] ys all = All-nil (λ v. test v ≡ true)
front_passes test (c ∷ xs) ys all =
    All-cons (λ v. test v ≡ true) c xs (All-head (λ v. test v ≡ true) c (xs ++ ys) all)
    (front_passes test xs ys (All-tail (λ v. test v ≡ true) c (xs ++ ys) all))

-- CR LF comes, where the text doesn't end in CR
plain_room : (buf ahead k : List ℕ) (test : ℕ → Bool) → buf ≡ ahead ++ k → AllPass test k → (test 13 ≡ true → ⊥) → (k ≡ [] → length ahead ≤ 1022) → Room buf
    → length buf + 2 ≤ 1024
plain_room buf ahead k test e all not_so few (inl room) = room
plain_room buf ahead k test e all not_so few (inr room) =
    elim (ends_in ahead k room.1.0 (sym e ∙ room.1.1)) [
      | inl none ↦ omega (arith, few none, ap length e, length-append ahead k, ap length none)
      | inr h ↦ absurd (not_so (last_passes test h.0 13 (subst (AllPass test) h.1 all)))
    ]

-- .. behind the digits, or what stands behind them
behind_digits : (buf k : List ℕ) (l : ChunkLine) → IsChunkLine l → buf ≡ l.digits ++ k → AllPass is_ows k → Room buf → MayHaveLine buf
behind_digits buf k l is e all room =
    let short = plain_room buf l.digits k is_ows e all (λ t. absurd cc) (λ none. omega (arith, is.digits.1)) room in
    finish buf (record { digits = l.digits; pad = k; extension = None }) (13 ∷ 10 ∷ []) (record { digits = is.digits; pad = all; extension = tt })
    (ap (λ (t : List ℕ). t ++ 13 ∷ 10 ∷ []) (e ∙ ap (λ (t : List ℕ). l.digits ++ t) (sym (append-nil k)))
    ∙ sym (spelled (record { digits = l.digits; pad = k; extension = None }))) short

in_digits : (buf k : List ℕ) (l : ChunkLine) → IsChunkLine l → l.digits ≡ buf ++ k → MayHaveLine buf
in_digits [] k l is e = finish [] (record { digits = 48 ∷ []; pad = []; extension = None }) (48 ∷ 13 ∷ 10 ∷ [])
    (record {
      digits = (
        omega arith,
        omega arith,
        All-cons (λ v. is_ascii_hexdigit v ≡ true) 48 [] refl (All-nil (λ v. is_ascii_hexdigit v ≡ true)),
      );
      pad = All-nil (λ v. is_ows v ≡ true);
      extension = tt;
    })
    (sym (spelled (record { digits = 48 ∷ []; pad = []; extension = None }))) (omega arith)
in_digits (b ∷ buf) k l is e = finish (b ∷ buf) (record { digits = b ∷ buf; pad = []; extension = None }) (13 ∷ 10 ∷ [])
    (record {
      digits = (
        omega arith,
        omega (arith, is.digits.1, ap length e, length-append (b ∷ buf) k),
        front_passes is_ascii_hexdigit (b ∷ buf) k (subst (AllPass is_ascii_hexdigit) e is.digits.2),
      );
      pad = All-nil (λ v. is_ows v ≡ true);
      extension = tt;
    })
    (ap (λ (t : List ℕ). t ++ 13 ∷ 10 ∷ []) (sym (append-nil (b ∷ buf))) ∙ sym (spelled (record { digits = b ∷ buf; pad = []; extension = None })))
    (omega (arith, is.digits.1, ap length e, length-append (b ∷ buf) k))

-- in the extension, behind its semicolon
in_extension : (buf k : List ℕ) (l : ChunkLine) → IsChunkLine l → buf ≡ (l.digits ++ l.pad) ++ 59 ∷ k → AllPass is_extension_byte k → Room buf → MayHaveLine buf
in_extension buf k l is e all room =
    let short = plain_room buf (l.digits ++ l.pad) (59 ∷ k) is_extension_byte e (All-cons (λ v. is_extension_byte v ≡ true) 59 k refl all)
    (λ t. absurd cc) (λ none. absurd cc) room in
    let longer : ChunkLine = record { digits = l.digits; pad = l.pad; extension = Some k } in
    finish buf longer (13 ∷ 10 ∷ []) (record { digits = is.digits; pad = is.pad; extension = all })
    (ap (λ (t : List ℕ). t ++ 13 ∷ 10 ∷ []) (e ∙ append_assoc l.digits l.pad (59 ∷ k)) ∙ sym (spelled longer)) short

few : (buf : List ℕ) → Room buf → length buf + 1 ≤ 1024
few buf (inl room) = omega (arith, room)
few buf (inr room) = omega (arith, room.0)

-- in the line end, of which no more than a byte is missing
in_end : (buf k m : List ℕ) (l : ChunkLine) → IsChunkLine l → buf ++ m ≡ print_chunk_line l → (13 ∷ 10 ∷ [] ≡ k ++ m) → (k ≡ [] → MayHaveLine buf) → Room buf
    → MayHaveLine buf
in_end buf [] m l is e cr plain room = plain refl
in_end buf (b ∷ k) m l is e cr plain room = finish buf l m is e (omega (arith, few buf room, ap length cr, length-append (b ∷ k) m))

behind_pad : (buf k m : List ℕ) (l : ChunkLine) (x : Option (List ℕ)) → IsChunkLine l → l.extension ≡ x → buf ++ m ≡ print_chunk_line l
    → buf ≡ (l.digits ++ l.pad) ++ k → print_extension x ++ 13 ∷ 10 ∷ [] ≡ k ++ m → Room buf → MayHaveLine buf
behind_pad buf k m l None is x e b r room =
    in_end buf k m l is e r
    (λ none. behind_digits buf l.pad l is (b ∙ ap (λ (t : List ℕ). (l.digits ++ l.pad) ++ t) none ∙ append-nil (l.digits ++ l.pad)) is.pad room) room
behind_pad buf [] m l (Some text) is x e b r room = behind_digits buf l.pad l is (b ∙ append-nil (l.digits ++ l.pad)) is.pad room
behind_pad buf (c ∷ k) m l (Some text) is x e b r room =
    let semi : c ≡ 59 = cc in
    let rest : text ++ 13 ∷ 10 ∷ [] ≡ k ++ m = cc in
    let all : AllPass is_extension_byte text = subst IsExtension x is.extension in
    let here : buf ≡ (l.digits ++ l.pad) ++ 59 ∷ k = b ∙ ap (λ (d : ℕ). (l.digits ++ l.pad) ++ d ∷ k) semi in
    elim (cut k m text (13 ∷ 10 ∷ []) (sym rest)) [
      | inl h ↦ in_extension buf k l is here (front_passes is_extension_byte k h.0 (subst (AllPass is_extension_byte) h.1 all)) room
      | inr h ↦ in_end buf h.0 m l is e h.2
          (λ none. in_extension buf k l is here
          (subst (AllPass is_extension_byte) (sym (h.1 ∙ ap (λ (t : List ℕ). text ++ t) none ∙ append-nil text)) all) room) room
    ]

may_have : (buf m : List ℕ) (l : ChunkLine) → IsChunkLine l → buf ++ m ≡ print_chunk_line l → Room buf → MayHaveLine buf
may_have buf m l is e room =
    let e2 : buf ++ m ≡ l.digits ++ (l.pad ++ (print_extension l.extension ++ 13 ∷ 10 ∷ [])) = e ∙ spelled l
    ∙ append_assoc l.digits (l.pad ++ print_extension l.extension) (13 ∷ 10 ∷ [])
    ∙ ap (λ (t : List ℕ). l.digits ++ t) (append_assoc l.pad (print_extension l.extension) (13 ∷ 10 ∷ [])) in
    elim (cut buf m l.digits (l.pad ++ (print_extension l.extension ++ 13 ∷ 10 ∷ [])) e2) [
      | inl h ↦ in_digits buf h.0 l is h.1
      | inr h ↦ elim (cut h.0 m l.pad (print_extension l.extension ++ 13 ∷ 10 ∷ []) (sym h.2)) [
        | inl p ↦ behind_digits buf h.0 l is h.1 (front_passes is_ows h.0 p.0 (subst (AllPass is_ows) p.1 is.pad)) room
        | inr p ↦ behind_pad buf p.0 m l l.extension is refl e
            (h.1 ∙ ap (λ (t : List ℕ). l.digits ++ t) p.1 ∙ sym (append_assoc l.digits l.pad p.0)) p.2 room
      ]
    ]

-- ---- what is no line

no_line : (buf : List ℕ) → HasNoChunkLine buf → HasNoLine buf
no_line buf none size after h = none h.line after h.reads

pub line_open : (buf : List ℕ) → HasNoChunkLine buf → MayBecomeChunkLine buf → Room buf → HasNoLine buf × MayHaveLine buf
line_open buf none may room = (no_line buf none, may_have buf may.0 may.1 may.2.0 (may.2.1 ∙ append-nil (print_chunk_line may.1)) room)

pub line_never : (buf : List ℕ) → NeverHasChunkLine buf → NeverHasLine buf
line_never buf never more size after h = never more h.line after h.reads

-- what a byte more makes of two texts is one only where they are one
same_front : (xs ys : List ℕ) (a b : ℕ) → xs ++ a ∷ [] ≡ ys ++ b ∷ [] → xs ≡ ys
same_front [] [] a b e = refl
same_front [] (y ∷ []) a b e = absurd cc
same_front [] (y ∷ z ∷ ys) a b e = absurd cc
same_front (x ∷ []) [] a b e = absurd cc
same_front (x ∷ z ∷ xs) [] a b e = absurd cc
same_front (x ∷ xs) (y ∷ ys) a b e =
    let same : x ≡ y = cc in
    let rest : xs ++ a ∷ [] ≡ ys ++ b ∷ [] = cc in
    rw same (ap (λ (t : List ℕ). y ∷ t) (same_front xs ys a b rest))

-- a whole line goes on with what is missing of a text: all of it, its LF, or more
ended : (buf k : List ℕ) (l : ChunkLine) → print_chunk_line l ≡ buf ++ k → length (print_chunk_line l) ≤ 1024 → 1024 < length buf + 2
    → (length buf < 1024 → EndsInReturn buf → ⊥) → (buf ≡ print_chunk_line l ++ [] → ⊥) → ⊥
ended buf [] l e short long not_so whole = whole (sym (append-nil buf) ∙ sym e ∙ sym (append-nil (print_chunk_line l)))
ended buf (c ∷ []) l e short long not_so whole =
    let last : buf ++ c ∷ [] ≡ (text_of l ++ 13 ∷ []) ++ 10 ∷ [] = sym e ∙ spelled l ∙ sym (append_assoc (text_of l) (13 ∷ []) (10 ∷ [])) in
    not_so (omega (arith, short, ap length e, length-append buf (c ∷ []))) (text_of l, same_front buf (text_of l ++ 13 ∷ []) c 10 last)
ended buf (c ∷ d ∷ k) l e short long not_so whole = omega (arith, short, long, ap length e, length-append buf (c ∷ d ∷ k))

pub line_too_long : (buf : List ℕ) → HasNoChunkLine buf → 1024 < length buf + 2 → (length buf < 1024 → EndsInReturn buf → ⊥) → NeverHasLine buf
line_too_long buf none long not_so more size after h =
    elim (cut buf more (print_chunk_line h.line) after h.reads.1) [
      | inl k ↦ ended buf k.0 h.line (k.1) h.short long not_so (λ whole. none h.line [] (h.reads.0, whole))
      | inr k ↦ none h.line k.0 (h.reads.0, k.1)
    ]

-- ---- what is a line

pub told_complete : (s : Status (ℕ × ℕ)) (n size : ℕ) (P : ℕ × ℕ → Type 0) → s ≡ Complete (n, size) → IfComplete {A = ℕ × ℕ} {E = InvalidChunkSize} (Ok s) P
    → P (n, size)
told_complete s n size P is h = subst (λ (t : Status (ℕ × ℕ)). IfComplete {A = ℕ × ℕ} {E = InvalidChunkSize} (Ok t) P) is h

pub told_partial : (s : Status (ℕ × ℕ)) (P : Type 0) → s ≡ Partial → OnPartial {A = ℕ × ℕ} {E = InvalidChunkSize} (Ok s) P → P
told_partial s P is h = subst (λ (t : Status (ℕ × ℕ)). OnPartial {A = ℕ × ℕ} {E = InvalidChunkSize} (Ok t) P) is h

pub line_found : (buf : List ℕ) (n size : ℕ) (l : ChunkLine) → IsChunkLineAt buf n size l → length buf ≤ 1024 → (0 < n) × (n ≤ length buf)
    × HasLine buf size (drop n buf)
line_found buf n size l at short =
    let whole : length buf ≡ length (print_chunk_line l) + length (drop n buf) = ap length at.reads.1 ∙ length-append (print_chunk_line l) (drop n buf) in
    let some : length (print_chunk_line l) ≡ length (text_of l) + 2 = ap length (spelled l) ∙ length-append (text_of l) (13 ∷ 10 ∷ []) in (
      omega (arith, some, at.len_is),
      omega (arith, whole, at.len_is),
      record { line = l; reads = at.reads; short = omega (arith, whole, short); says = sym at.size_is },
    )

pub has_line_append : (text more after : List ℕ) (size : ℕ) → HasLine text size after → HasLine (text ++ more) size (after ++ more)
has_line_append text more after size h = record { line = h.line; reads = ReadsChunkLine-append text h.line after more h.reads; short = h.short; says = h.says }

shorter : (buf k : List ℕ) (l : ChunkLine) → print_chunk_line l ≡ buf ++ k → length (print_chunk_line l) ≤ 1024 → (buf ≡ print_chunk_line l ++ [] → ⊥)
    → length buf < 1024
shorter buf [] l e short whole = absurd (whole (sym (append-nil buf) ∙ sym e ∙ sym (append-nil (print_chunk_line l))))
shorter buf (c ∷ k) l e short whole = omega (arith, short, ap length e, length-append buf (c ∷ k))

-- where a line isn't there and may come, less than its limit is
pub open_short : (buf : List ℕ) → HasNoLine buf → MayHaveLine buf → length buf < 1024
open_short buf none may =
    let h = may.3 in
    elim (cut buf may.0 (print_chunk_line h.line) may.2 h.reads.1) [
      | inl k ↦ shorter buf k.0 h.line k.1 h.short
          (λ whole. none may.1 [] (record { line = h.line; reads = (h.reads.0, whole); short = h.short; says = h.says }))
      | inr k ↦ absurd (none may.1 k.0 (record { line = h.line; reads = (h.reads.0, k.1); short = h.short; says = h.says }))
    ]

-- nothing of a line came, and one may
pub nothing_open : HasNoLine [] × MayHaveLine []
nothing_open = (
  λ size after h. omega (
    arith,
    ap length h.reads.1,
    length-append (print_chunk_line h.line) after,
    ap length (spelled h.line),
    length-append (text_of h.line) (13 ∷ 10 ∷ []),
  ),
  in_digits [] (48 ∷ []) (record { digits = 48 ∷ []; pad = []; extension = None })
      (record {
        digits = (
          omega arith,
          omega arith,
          All-cons (λ v. is_ascii_hexdigit v ≡ true) 48 [] refl (All-nil (λ v. is_ascii_hexdigit v ≡ true)),
        );
        pad = All-nil (λ v. is_ows v ≡ true);
        extension = tt;
      }) refl,
)

-- a line behind bytes in which none was ends in what follows them
pub line_behind : (kept rest : List ℕ) (size n : ℕ) → HasNoLine kept → n ≤ length (kept ++ rest) → HasLine (kept ++ rest) size (drop n (kept ++ rest))
    → length kept < n
line_behind kept rest size n none within h =
    elim (cases_lt (length kept) n) [
      | inl less ↦ less
      | inr past ↦
          let tail : drop n (kept ++ rest) ≡ drop n kept ++ rest = drop-append-le n kept rest past in
          let e : kept ++ rest ≡ (print_chunk_line h.line ++ drop n kept) ++ rest = h.reads.1
          ∙ ap (λ (t : List ℕ). print_chunk_line h.line ++ t) tail ∙ sym (append_assoc (print_chunk_line h.line) (drop n kept) rest) in
          absurd (none size (drop n kept)
          (record {
            line = h.line;
            reads = (h.reads.0, append_cancel_right kept (print_chunk_line h.line ++ drop n kept) rest e);
            short = h.short;
            says = h.says;
          }))
    ]

pub nil_of : (xs : List ℕ) → length xs ≡ 0 → xs ≡ []
nil_of [] e = refl
nil_of (x ∷ xs) e = absurd (omega (arith, e))

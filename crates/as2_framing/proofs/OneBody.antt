-- A text has one thing at its front.
use Rattle.std.proofs.Common.{◌≡◌, ◌⊎◌, ◌+◌, ◌<◌, ◌≤◌, ℕ, List, [], ◌∷◌, ◌++◌, length, drop, Some, refl, sym, ap, ◌∙◌, subst, append-nil, length-append, arith, inl, inr}
use Rattle.std.specs.List.{concat}
use Rattle.httparse.specs.Grammar.{chunk_size}
use Rattle.httparse.proofs.ChunkLemmas.{chunk_line_unique}
use Rattle.as2_framing.specs.Chunks.{HasLine, HasChunk, HasChunks, IsBehind, HasTrailer, BeginsChunked, NeverHasLine, NeverHasTrailer, NeverEndsLine, IsTooLarge, IsBadChunk, bad_line, bad_end, bad_trailer, IsOpenChunked, in_line, in_bytes, in_end, in_trailer}
use Rattle.as2_framing.specs.ChunkLaws.{BeginsOneChunked, HasOneFault, NeverFaultyChunked, NeverOpenChunked, NeverOpenFault}
use Rattle.as2_framing.proofs.Cuts.{cut}

-- ---- one line, one chunk, one trailer

line_once : (text after other : List ℕ) (n m : ℕ) → HasLine text n after → HasLine text m other → (n ≡ m) × (after ≡ other)
line_once text after other n m x y =
    let same = chunk_line_unique text x.line y.line after other x.reads y.reads in
    (sym x.says ∙ ap chunk_size same.0 ∙ y.says, same.1)

no_more : (xs : List ℕ) → length xs ≡ 0 → xs ≡ []
no_more [] e = refl
no_more (x ∷ xs) e = absurd (omega (arith, e))

behind_crlf : (xs ys : List ℕ) → 13 ∷ 10 ∷ xs ≡ 13 ∷ 10 ∷ ys → xs ≡ ys
behind_crlf xs ys e = cc

-- texts of one length in front of one text are one
pub front_once : (xs ys a b : List ℕ) → length xs ≡ length ys → xs ++ a ≡ ys ++ b → (xs ≡ ys) × (a ≡ b)
front_once xs ys a b size e =
    elim (cut xs a ys b e) [
      | inl h ↦ let none = no_more h.0 (omega (arith, size, ap length h.1, length-append xs h.0)) in
          (sym (h.1 ∙ ap (λ (t : List ℕ). xs ++ t) none ∙ append-nil xs), h.2 ∙ ap (λ (t : List ℕ). t ++ b) none)
      | inr h ↦ let none = no_more h.0 (omega (arith, size, ap length h.1, length-append ys h.0)) in
          (h.1 ∙ ap (λ (t : List ℕ). ys ++ t) none ∙ append-nil ys, sym (h.2 ∙ ap (λ (t : List ℕ). t ++ a) none))
    ]

chunk_once : (text c d after other : List ℕ) → HasChunk text c after → HasChunk text d other → (c ≡ d) × (after ≡ other)
chunk_once text c d after other x y =
    let line = line_once text x.behind y.behind (length c) (length d) x.line y.line in
    let both = front_once c d (13 ∷ 10 ∷ after) (13 ∷ 10 ∷ other) line.0 (sym x.follows ∙ line.1 ∙ y.follows) in
    (both.0, behind_crlf after other both.1)

some_once : {n m : ℕ} → Some n ≡ Some m → n ≡ m
some_once e = cc

trailer_once : (text rest other : List ℕ) → HasTrailer text rest → HasTrailer text other → rest ≡ other
trailer_once text rest other x y = let same : x.0 ≡ y.0 = some_once (sym x.1 ∙ y.1) in x.2 ∙ ap (λ (n : ℕ). drop n text) same ∙ sym y.2

-- ---- one place behind whole chunks

-- behind so many bytes no further chunk stands that isn't too much
abbrev pub IsLast : List ℕ → ℕ → Type 0
IsLast at n = (chunk after : List ℕ) → HasChunk at chunk after → n + length chunk ≤ 1048576 → ⊥

chunks_once : (cs ds : List (List ℕ)) (text at bt : List ℕ) (n : ℕ) → HasChunks cs text at → HasChunks ds text bt → n + length (concat cs) ≤ 1048576
    → n + length (concat ds) ≤ 1048576
    → IsLast at (n + length (concat cs)) → IsLast bt (n + length (concat ds)) → (cs ≡ ds) × (at ≡ bt)
chunks_once [] [] text at bt n x y few less ends stops = (refl, sym x ∙ y)
chunks_once [] (d ∷ ds) text at bt n x y few less ends stops =
    absurd (ends d y.0 (subst (λ (t : List ℕ). HasChunk t d y.0) x y.1) (omega (arith, less, length-append d (concat ds))))
chunks_once (c ∷ cs) [] text at bt n x y few less ends stops =
    absurd (stops c x.0 (subst (λ (t : List ℕ). HasChunk t c x.0) y x.1) (omega (arith, few, length-append c (concat cs))))
chunks_once (c ∷ cs) (d ∷ ds) text at bt n x y few less ends stops =
    let first = chunk_once text c d x.0 y.0 x.1 y.1 in
    let size : length c ≡ length d = ap length first.0 in
    let here : n + length c + length (concat cs) ≡ n + length (concat (c ∷ cs)) = omega (arith, length-append c (concat cs)) in
    let there : n + length c + length (concat ds) ≡ n + length (concat (d ∷ ds)) = omega (arith, size, length-append d (concat ds)) in
    let more = chunks_once cs ds x.0 at bt (n + length c) x.2 (subst (λ (t : List ℕ). HasChunks ds t bt) (sym first.1) y.2)
    (omega (arith, here, few)) (omega (arith, there, less)) (subst (IsLast at) (sym here) ends) (subst (IsLast bt) (sym there) stops) in
    (rw first.0 (ap (λ (t : List (List ℕ)). d ∷ t) more.0), more.1)

pub place_once : (text at bt bytes other : List ℕ) → IsBehind text at bytes → IsBehind text bt other → IsLast at (length bytes) → IsLast bt (length other)
    → (at ≡ bt) × (bytes ≡ other)
place_once text at bt bytes other x y ends stops =
    let same = chunks_once x.chunks y.chunks text at bt 0 x.all y.all (omega (arith, ap length x.joined, x.short)) (omega (arith, ap length y.joined, y.short))
    (λ chunk after c few. ends chunk after c (omega (arith, few, ap length x.joined)))
    (λ chunk after c few. stops chunk after c (omega (arith, few, ap length y.joined))) in
    (same.1, x.joined ∙ ap concat same.0 ∙ sym y.joined)

-- ---- no further chunk

-- the last line stands there
last_zero : (at trailer : List ℕ) (n : ℕ) → HasLine at 0 trailer → IsLast at n
last_zero at trailer n line chunk after c few = omega (arith, c.some, (line_once at trailer c.behind 0 (length chunk) line c.line).0)

last_without : (at : List ℕ) (n : ℕ) → ((size : ℕ) (after : List ℕ) → HasLine at size after → ⊥) → IsLast at n
last_without at n none chunk after c few = none (length chunk) c.behind c.line

last_short : (at after : List ℕ) (n size : ℕ) → HasLine at size after → length after < size → IsLast at n
last_short at after n size line short chunk rest c few =
    let same = line_once at after c.behind size (length chunk) line c.line in
    omega (arith, same.0, short, ap length same.1, ap length c.follows, length-append chunk (13 ∷ 10 ∷ rest))

-- behind the bytes of the chunk no line end stands
last_unended : (at part after rest : List ℕ) (n : ℕ) → HasLine at (length part) after → after ≡ part ++ rest → ((tail : List ℕ) → rest ≡ 13 ∷ 10 ∷ tail → ⊥)
    → IsLast at n
last_unended at part after rest n line follows never chunk tail c few =
    let same = line_once at after c.behind (length part) (length chunk) line c.line in
    let both = front_once part chunk rest (13 ∷ 10 ∷ tail) same.0 (sym follows ∙ same.1 ∙ c.follows) in
    never tail both.1

last_large : (at after : List ℕ) (n size : ℕ) → HasLine at size after → 1048576 < n + size → IsLast at n
last_large at after n size line large chunk rest c few = omega (arith, large, few, (line_once at after c.behind size (length chunk) line c.line).0)

never_there : (rest : List ℕ) → NeverEndsLine rest → (tail : List ℕ) → rest ≡ 13 ∷ 10 ∷ tail → ⊥
never_there rest never tail e = never [] tail (append-nil rest ∙ e)

less_there : (rest : List ℕ) → (rest ≡ []) ⊎ (rest ≡ 13 ∷ []) → (tail : List ℕ) → rest ≡ 13 ∷ 10 ∷ tail → ⊥
less_there rest (inl none) tail e = let x = sym none ∙ e in absurd cc
less_there rest (inr one) tail e = let x = sym one ∙ e in absurd cc

-- ---- what stands there

-- where whole chunks end, and no further one stands
record Stands (text : List ℕ) : Type 0 where
  at : List ℕ
  bytes : List ℕ
  behind : IsBehind text at bytes
  last : IsLast at (length bytes)

same : (text : List ℕ) (x y : Stands text) → (x.at ≡ y.at) × (x.bytes ≡ y.bytes)
same text x y = place_once text x.at y.at x.bytes y.bytes x.behind y.behind x.last y.last

abbrev begun : (text body rest : List ℕ) → BeginsChunked text body rest → Stands text
begun text body rest b = record { at = b.last; bytes = body; behind = b.behind; last = last_zero b.last b.trailer (length body) b.line }

abbrev large : (text : List ℕ) → IsTooLarge text → Stands text
large text l = record { at = l.at; bytes = l.bytes; behind = l.behind; last = last_large l.at l.after (length l.bytes) l.size l.line l.large }

abbrev bad : (text : List ℕ) → IsBadChunk text → Stands text
bad text (bad_line at bytes behind never) =
    record {
      at = at;
      bytes = bytes;
      behind = behind;
      last = last_without at (length bytes) (λ size after h. never [] size after (subst (λ (t : List ℕ). HasLine t size after) (sym (append-nil at)) h));
    }
bad text (bad_end at bytes chunk after rest behind line some fits follows never) =
    record { at = at; bytes = bytes; behind = behind; last = last_unended at chunk after rest (length bytes) line follows (never_there rest never) }
bad text (bad_trailer at bytes trailer behind line never) = record { at = at; bytes = bytes; behind = behind; last = last_zero at trailer (length bytes) line }

abbrev undecided : (text : List ℕ) → IsOpenChunked text → Stands text
undecided text (in_line at bytes behind none may) = record { at = at; bytes = bytes; behind = behind; last = last_without at (length bytes) none }
undecided text (in_bytes at bytes size after behind line fits short) =
    record { at = at; bytes = bytes; behind = behind; last = last_short at after (length bytes) size line short }
undecided text (in_end at bytes chunk after rest behind line some fits follows less) =
    record { at = at; bytes = bytes; behind = behind; last = last_unended at chunk after rest (length bytes) line follows (less_there rest less) }
undecided text (in_trailer at bytes trailer behind line none may) =
    record { at = at; bytes = bytes; behind = behind; last = last_zero at trailer (length bytes) line }

-- ---- one thing

pub begins_one : BeginsOneChunked
begins_one text body rest other tail x y =
    let place = same text (begun text body rest x) (begun text other tail y) in
    let line = line_once x.last x.trailer y.trailer 0 0 x.line (subst (λ (t : List ℕ). HasLine t 0 y.trailer) (sym place.0) y.line) in
    (place.1, trailer_once x.trailer rest tail x.ends (subst (λ (t : List ℕ). HasTrailer t tail) (sym line.1) y.ends))

-- a line that says 0, and none that says something else
zero_alone : (at bt trailer after : List ℕ) (size : ℕ) → at ≡ bt → HasLine at 0 trailer → HasLine bt size after → (0 ≡ size) × (trailer ≡ after)
zero_alone at bt trailer after size e x y = line_once at trailer after 0 size x (subst (λ (t : List ℕ). HasLine t size after) (sym e) y)

begun_bad : (text body rest : List ℕ) → BeginsChunked text body rest → (b : IsBadChunk text) → ⊥
begun_bad text body rest x (bad_line at bytes behind never) =
    let place = same text (begun text body rest x) (bad text (bad_line at bytes behind never)) in
    never [] 0 x.trailer (subst (λ (t : List ℕ). HasLine t 0 x.trailer) (place.0 ∙ sym (append-nil at)) x.line)
begun_bad text body rest x (bad_end at bytes chunk after tail behind line some fits follows never) =
    let place = same text (begun text body rest x) (bad text (bad_end at bytes chunk after tail behind line some fits follows never)) in
    omega (arith, some, (zero_alone x.last at x.trailer after (length chunk) place.0 x.line line).0)
begun_bad text body rest x (bad_trailer at bytes trailer behind line never) =
    let place = same text (begun text body rest x) (bad text (bad_trailer at bytes trailer behind line never)) in
    let t = zero_alone x.last at x.trailer trailer 0 place.0 x.line line in
    never [] rest (subst (λ (u : List ℕ). HasTrailer u rest) (t.1 ∙ sym (append-nil trailer)) x.ends)

begun_large : (text body rest : List ℕ) → BeginsChunked text body rest → IsTooLarge text → ⊥
begun_large text body rest x l =
    let place = same text (begun text body rest x) (large text l) in
    omega (arith, l.large, x.behind.short, ap length place.1, (zero_alone x.last l.at x.trailer l.after l.size place.0 x.line l.line).0)

pub never_faulty : NeverFaultyChunked
never_faulty text body rest x = (λ b. begun_bad text body rest x b, λ l. begun_large text body rest x l)

pub never_open : NeverOpenChunked
never_open text body rest x (in_line at bytes behind none may) =
    let place = same text (begun text body rest x) (undecided text (in_line at bytes behind none may)) in
    none 0 x.trailer (subst (λ (t : List ℕ). HasLine t 0 x.trailer) place.0 x.line)
never_open text body rest x (in_bytes at bytes size after behind line fits short) =
    let place = same text (begun text body rest x) (undecided text (in_bytes at bytes size after behind line fits short)) in
    omega (arith, short, (zero_alone x.last at x.trailer after size place.0 x.line line).0)
never_open text body rest x (in_end at bytes chunk after tail behind line some fits follows less) =
    let place = same text (begun text body rest x) (undecided text (in_end at bytes chunk after tail behind line some fits follows less)) in
    omega (arith, some, (zero_alone x.last at x.trailer after (length chunk) place.0 x.line line).0)
never_open text body rest x (in_trailer at bytes trailer behind line none may) =
    let place = same text (begun text body rest x) (undecided text (in_trailer at bytes trailer behind line none may)) in
    let t = zero_alone x.last at x.trailer trailer 0 place.0 x.line line in
    none rest (subst (λ (u : List ℕ). HasTrailer u rest) t.1 x.ends)

-- the line of what is too large
large_line : (text at bytes : List ℕ) (l : IsTooLarge text) → (l.at ≡ at) × (l.bytes ≡ bytes) → HasLine at l.size l.after
large_line text at bytes l place = subst (λ (t : List ℕ). HasLine t l.size l.after) place.0 l.line

pub one_fault : HasOneFault
one_fault text (bad_line at bytes behind never) l =
    let place = same text (large text l) (bad text (bad_line at bytes behind never)) in
    never [] l.size l.after (subst (λ (t : List ℕ). HasLine t l.size l.after) (sym (append-nil at)) (large_line text at bytes l place))
one_fault text (bad_end at bytes chunk after rest behind line some fits follows never) l =
    let place = same text (large text l) (bad text (bad_end at bytes chunk after rest behind line some fits follows never)) in
    omega (arith, l.large, fits, ap length place.1, (line_once at l.after after l.size (length chunk) (large_line text at bytes l place) line).0)
one_fault text (bad_trailer at bytes trailer behind line never) l =
    let place = same text (large text l) (bad text (bad_trailer at bytes trailer behind line never)) in
    omega (arith, l.large, l.behind.short, (line_once at l.after trailer l.size 0 (large_line text at bytes l place) line).0)

open_large : (text : List ℕ) → IsOpenChunked text → IsTooLarge text → ⊥
open_large text (in_line at bytes behind none may) l =
    let place = same text (large text l) (undecided text (in_line at bytes behind none may)) in
    none l.size l.after (large_line text at bytes l place)
open_large text (in_bytes at bytes size after behind line fits short) l =
    let place = same text (large text l) (undecided text (in_bytes at bytes size after behind line fits short)) in
    omega (arith, l.large, fits, ap length place.1, (line_once at l.after after l.size size (large_line text at bytes l place) line).0)
open_large text (in_end at bytes chunk after rest behind line some fits follows less) l =
    let place = same text (large text l) (undecided text (in_end at bytes chunk after rest behind line some fits follows less)) in
    omega (arith, l.large, fits, ap length place.1, (line_once at l.after after l.size (length chunk) (large_line text at bytes l place) line).0)
open_large text (in_trailer at bytes trailer behind line none may) l =
    let place = same text (large text l) (undecided text (in_trailer at bytes trailer behind line none may)) in
    omega (arith, l.large, l.behind.short, (line_once at l.after trailer l.size 0 (large_line text at bytes l place) line).0)

-- ---- open, and bad

never_now : (at bt after : List ℕ) (size : ℕ) → NeverHasLine at → at ≡ bt → HasLine bt size after → ⊥
never_now at bt after size never e line = never [] size after (subst (λ (t : List ℕ). HasLine t size after) (sym (append-nil at ∙ e)) line)

not_less : (rest more : List ℕ) → NeverEndsLine rest → rest ≡ more → (more ≡ []) ⊎ (more ≡ 13 ∷ []) → ⊥
not_less rest more never e (inl none) = never (13 ∷ 10 ∷ []) [] (ap (λ (t : List ℕ). t ++ 13 ∷ 10 ∷ []) (e ∙ none))
not_less rest more never e (inr one) = never (10 ∷ []) [] (ap (λ (t : List ℕ). t ++ 10 ∷ []) (e ∙ one))

bad_of_line : (text at bytes : List ℕ) (behind : IsBehind text at bytes) (never : NeverHasLine at) → IsOpenChunked text → ⊥
bad_of_line text at bytes behind never (in_line bt other stands none may) =
    let place = same text (bad text (bad_line at bytes behind never)) (undecided text (in_line bt other stands none may)) in
    never may.0 may.1 may.2 (subst (λ (t : List ℕ). HasLine (t ++ may.0) may.1 may.2) (sym place.0) may.3)
bad_of_line text at bytes behind never (in_bytes bt other size after stands line fits short) =
    let place = same text (bad text (bad_line at bytes behind never)) (undecided text (in_bytes bt other size after stands line fits short)) in
    never_now at bt after size never place.0 line
bad_of_line text at bytes behind never (in_end bt other chunk after rest stands line some fits follows less) =
    let place = same text (bad text (bad_line at bytes behind never)) (undecided text (in_end bt other chunk after rest stands line some fits follows less)) in
    never_now at bt after (length chunk) never place.0 line
bad_of_line text at bytes behind never (in_trailer bt other trailer stands line none may) =
    let place = same text (bad text (bad_line at bytes behind never)) (undecided text (in_trailer bt other trailer stands line none may)) in
    never_now at bt trailer 0 never place.0 line

bad_of_end : (text at bytes chunk after rest : List ℕ) (behind : IsBehind text at bytes) (line : HasLine at (length chunk) after) (some : 0 < length chunk)
    (fits : length bytes + length chunk ≤ 1048576) (follows : after ≡ chunk ++ rest) (never : NeverEndsLine rest) → IsOpenChunked text → ⊥
bad_of_end text at bytes chunk after rest behind line some fits follows never (in_line bt other stands none may) =
    let place = same text (bad text (bad_end at bytes chunk after rest behind line some fits follows never))
    (undecided text (in_line bt other stands none may)) in
    none (length chunk) after (subst (λ (t : List ℕ). HasLine t (length chunk) after) place.0 line)
bad_of_end text at bytes chunk after rest behind line some fits follows never (in_bytes bt other size tail stands says few short) =
    let place = same text (bad text (bad_end at bytes chunk after rest behind line some fits follows never))
    (undecided text (in_bytes bt other size tail stands says few short)) in
    let one = line_once bt after tail (length chunk) size (subst (λ (t : List ℕ). HasLine t (length chunk) after) place.0 line) says in
    omega (arith, short, one.0, ap length one.1, ap length follows, length-append chunk rest)
bad_of_end text at bytes chunk after rest behind line some fits follows never (in_end bt other part tail more stands says any few goes less) =
    let place = same text (bad text (bad_end at bytes chunk after rest behind line some fits follows never))
    (undecided text (in_end bt other part tail more stands says any few goes less)) in
    let one = line_once bt after tail (length chunk) (length part) (subst (λ (t : List ℕ). HasLine t (length chunk) after) place.0 line) says in
    let both = front_once chunk part rest more one.0 (sym follows ∙ one.1 ∙ goes) in
    not_less rest more never both.1 less
bad_of_end text at bytes chunk after rest behind line some fits follows never (in_trailer bt other trailer stands says none may) =
    let place = same text (bad text (bad_end at bytes chunk after rest behind line some fits follows never))
    (undecided text (in_trailer bt other trailer stands says none may)) in
    omega (arith, some, (line_once bt after trailer (length chunk) 0 (subst (λ (t : List ℕ). HasLine t (length chunk) after) place.0 line) says).0)

bad_of_trailer : (text at bytes trailer : List ℕ) (behind : IsBehind text at bytes) (line : HasLine at 0 trailer) (never : NeverHasTrailer trailer)
    → IsOpenChunked text → ⊥
bad_of_trailer text at bytes trailer behind line never (in_line bt other stands none may) =
    let place = same text (bad text (bad_trailer at bytes trailer behind line never)) (undecided text (in_line bt other stands none may)) in
    none 0 trailer (subst (λ (t : List ℕ). HasLine t 0 trailer) place.0 line)
bad_of_trailer text at bytes trailer behind line never (in_bytes bt other size tail stands says few short) =
    let place = same text (bad text (bad_trailer at bytes trailer behind line never)) (undecided text (in_bytes bt other size tail stands says few short)) in
    omega (arith, short, (zero_alone at bt trailer tail size place.0 line says).0)
bad_of_trailer text at bytes trailer behind line never (in_end bt other part tail more stands says any few goes less) =
    let place = same text (bad text (bad_trailer at bytes trailer behind line never))
    (undecided text (in_end bt other part tail more stands says any few goes less)) in
    omega (arith, any, (zero_alone at bt trailer tail (length part) place.0 line says).0)
bad_of_trailer text at bytes trailer behind line never (in_trailer bt other last stands says none may) =
    let place = same text (bad text (bad_trailer at bytes trailer behind line never)) (undecided text (in_trailer bt other last stands says none may)) in
    let t = zero_alone at bt trailer last 0 place.0 line says in
    never may.0 may.1 (subst (λ (u : List ℕ). HasTrailer (u ++ may.0) may.1) (sym t.1) may.2)

open_bad : (text : List ℕ) → IsOpenChunked text → IsBadChunk text → ⊥
open_bad text o (bad_line at bytes behind never) = bad_of_line text at bytes behind never o
open_bad text o (bad_end at bytes chunk after rest behind line some fits follows never) =
    bad_of_end text at bytes chunk after rest behind line some fits follows never o
open_bad text o (bad_trailer at bytes trailer behind line never) = bad_of_trailer text at bytes trailer behind line never o

pub never_open_fault : NeverOpenFault
never_open_fault text o = (λ b. open_bad text o b, λ l. open_large text o l)

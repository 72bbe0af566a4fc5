-- Chunks one after the other, and what of a body is kept.
use Rattle.std.proofs.Common.{◌≡◌, ◌+◌, ◌-◌, ◌<◌, ◌≤◌, ℕ, List, [], ◌∷◌, ◌++◌, length, take, drop, get_or, Some, refl, sym, ap, ◌∙◌, subst, append_assoc, append-nil, length-append, arith, inl, inr}
use Rattle.std.specs.List.{concat}
use Rattle.std.proofs.lemmas.List.Folds.{concat-append}
use Rattle.std.proofs.lemmas.List.{take_all, take-append-drop, length-take-le, drop-append-le, drop_all}
use Rattle.std.proofs.Math.Seq.{drop-append-add}
use Rattle.std.proofs.lemmas.Bool.{cases_lt}
use Rattle.as2_framing.specs.Chunks.{HasLine, HasChunk, HasChunks, IsBehind, HasTrailer, BeginsChunked, HasNoLine, MayHaveLine, NeverHasLine, HasNoTrailer, MayHaveTrailer, NeverHasTrailer, NeverEndsLine, IsTooLarge, IsBadChunk, bad_line, bad_end, bad_trailer, IsOpenChunked, in_line, in_bytes, in_end, in_trailer}
use Rattle.as2_framing.specs.ChunkPieces.{ReadsLine, FindsLine, HoldsLine, HoldsBytes, HoldsChunk, HoldsTrailer, HoldsAt, HoldsChunked, StepsTo}
use Rattle.as2_framing.specs.Places.{GoesOn}
use Rattle.as2_framing.specs.declared.chunk_line.LineRead.{LineRead}
use Rattle.as2_framing.specs.declared.chunk_line.LineRead.TheVariants as read
use Rattle.as2_framing.specs.declared.chunked.ChunkStep.{ChunkStep}
use Rattle.as2_framing.specs.Scanning.{missing_of, scan_from}
use Rattle.as2_framing.specs.declared.chunked_body.ChunkedBody.{ChunkedBody}
use Rattle.as2_framing.specs.declared.place.ChunkPlace.{ChunkPlace}
use Rattle.as2_framing.specs.declared.place.ChunkPlace.TheVariants as place
use Rattle.as2_framing.specs.declared.scan.LineSoFar.{LineSoFar}
use Rattle.as2_framing.specs.declared.scan.LineSoFar.TheVariants.{Nothing, Return, Text}
use Rattle.as2_framing.specs.declared.scan.Scanned.TheVariants.{Ended, Open}
use Rattle.as2_framing.proofs.Scanning.{Runs, runs}
use Rattle.as2_framing.proofs.ChunkLines.{has_line_append, nothing_open, open_short, line_behind}
use Rattle.as2_framing.proofs.Trailers.{trailer_may, trailer_not_yet, trailer_never, trailer_ends, never_on}

-- ---- chunks

chunk_append : (text bytes after more : List ℕ) → HasChunk text bytes after → HasChunk (text ++ more) bytes (after ++ more)
chunk_append text bytes after more c = record {
  behind = c.behind ++ more;
  line = has_line_append text more c.behind (length bytes) c.line;
  some = c.some;
  follows = ap (λ (t : List ℕ). t ++ more) c.follows ∙ append_assoc bytes (13 ∷ 10 ∷ after) more;
}

chunks_append : (chunks : List (List ℕ)) (text after more : List ℕ) → HasChunks chunks text after → HasChunks chunks (text ++ more) (after ++ more)
chunks_append [] text after more all = ap (λ (t : List ℕ). t ++ more) all
chunks_append (bytes ∷ chunks) text after more all = (all.0 ++ more, chunk_append text bytes all.0 more all.1, chunks_append chunks all.0 after more all.2)

pub behind_append : (text after bytes more : List ℕ) → IsBehind text after bytes → IsBehind (text ++ more) (after ++ more) bytes
behind_append text after bytes more b = record { chunks = b.chunks; all = chunks_append b.chunks text after more b.all; joined = b.joined; short = b.short }

chunks_push : (chunks : List (List ℕ)) (text at bytes after : List ℕ) → HasChunks chunks text at → HasChunk at bytes after
    → HasChunks (chunks ++ bytes ∷ []) text after
chunks_push [] text at bytes after all chunk = (after, subst (λ (t : List ℕ). HasChunk t bytes after) (sym all) chunk, refl)
chunks_push (first ∷ chunks) text at bytes after all chunk = (all.0, all.1, chunks_push chunks all.0 at bytes after all.2 chunk)

pub behind_push : (text at bytes chunk after : List ℕ) → IsBehind text at bytes → HasChunk at chunk after → length bytes + length chunk ≤ 1048576
    → IsBehind text after (bytes ++ chunk)
behind_push text at bytes chunk after b c fits = record {
  chunks = b.chunks ++ chunk ∷ [];
  all = chunks_push b.chunks text at chunk after b.all c;
  joined = ap (λ (t : List ℕ). t ++ chunk) b.joined ∙ ap (λ (t : List ℕ). concat b.chunks ++ t) (sym (append-nil chunk))
      ∙ sym (concat-append b.chunks (chunk ∷ []));
  short = omega (arith, fits, length-append bytes chunk);
}

pub behind_nothing : (text : List ℕ) → IsBehind text text []
behind_nothing text = record { chunks = []; all = refl; joined = refl; short = omega arith }

-- ---- what is kept stays so when more comes

on : (xs ys more : List ℕ) → xs ≡ ys ++ [] → xs ++ more ≡ ys ++ more
on xs ys more e = ap (λ (t : List ℕ). t ++ more) (e ∙ append-nil ys)

line_more : (kept body text more : List ℕ) → HoldsLine kept body text [] → HoldsLine kept body (text ++ more) more
line_more kept body text more h =
    record { at = h.at ++ more; behind = behind_append text h.at body more h.behind; follows = on h.at kept more h.follows; none = h.none; may = h.may }

bytes_more : (missing : ℕ) (body text more : List ℕ) → HoldsBytes missing body text [] → HoldsBytes missing body (text ++ more) more
bytes_more missing body text more h = record {
  at = h.at ++ more;
  bytes = h.bytes;
  size = h.size;
  after = h.after ++ more;
  part = h.part;
  behind = behind_append text h.at h.bytes more h.behind;
  line = has_line_append h.at more h.after h.size h.line;
  follows = on h.after h.part more h.follows;
  joined = h.joined;
  counted = h.counted;
  some = h.some;
  fits = h.fits;
}

chunk_more : (front body text more : List ℕ) → HoldsChunk front body text [] → HoldsChunk front body (text ++ more) more
chunk_more front body text more h = record {
  at = h.at ++ more;
  bytes = h.bytes;
  chunk = h.chunk;
  after = h.after ++ more;
  behind = behind_append text h.at h.bytes more h.behind;
  line = has_line_append h.at more h.after (length h.chunk) h.line;
  some = h.some;
  follows = ap (λ (t : List ℕ). t ++ more) (h.follows ∙ ap (λ (t : List ℕ). h.chunk ++ t) (append-nil front)) ∙ append_assoc h.chunk front more;
  joined = h.joined;
  fits = h.fits;
}

trailer_more : (count : ℕ) (line : LineSoFar) (body text more : List ℕ) → HoldsTrailer count line body text []
    → HoldsTrailer count line body (text ++ more) more
trailer_more count line body text more h = record {
  at = h.at ++ more;
  trailer = h.trailer ++ more;
  came = h.came;
  behind = behind_append text h.at body more h.behind;
  says = has_line_append h.at more h.trailer 0 h.says;
  follows = on h.trailer h.came more h.follows;
  counted = h.counted;
  none = h.none;
  last = h.last;
  short = h.short;
}

at_more : (p : ChunkPlace) (kept body text more : List ℕ) → HoldsAt p kept body text [] → HoldsAt p kept body (text ++ more) more
at_more place.Line kept body text more h = line_more kept body text more h
at_more (place.Bytes missing) kept body text more h = (h.0, bytes_more missing body text more h.1)
at_more place.Behind kept body text more h = (h.0, chunk_more [] body text more h.1)
at_more place.Return kept body text more h = (h.0, chunk_more (13 ∷ []) body text more h.1)
at_more (place.Trailer count line) kept body text more h = (h.0, trailer_more count line body text more h.1)

pub holds_more : (c : ChunkedBody) (body text more : List ℕ) → HoldsChunked c body text [] → HoldsChunked c body (text ++ more) more
holds_more c body text more h = at_more c.place c.line.items body text more h

-- ---- a text of which all is kept is open

few_of : (line : LineSoFar) (came : List ℕ) → length came + missing_of line ≤ 16384 → length came ≤ 16384
few_of line came short = omega (arith, short)

at_open : (p : ChunkPlace) (kept body text : List ℕ) → HoldsAt p kept body text [] → IsOpenChunked text
at_open place.Line kept body text h =
    let same : kept ≡ h.at = sym (h.follows ∙ append-nil kept) in
    in_line h.at body h.behind (subst HasNoLine same h.none) (subst MayHaveLine same h.may)
at_open (place.Bytes missing) kept body text h =
    in_bytes h.1.at h.1.bytes h.1.size h.1.after h.1.behind h.1.line h.1.fits
    (omega (arith, h.1.counted, h.1.some, ap length (h.1.follows ∙ append-nil h.1.part)))
at_open place.Behind kept body text h = in_end h.1.at h.1.bytes h.1.chunk h.1.after [] h.1.behind h.1.line h.1.some h.1.fits h.1.follows (inl refl)
at_open place.Return kept body text h = in_end h.1.at h.1.bytes h.1.chunk h.1.after (13 ∷ []) h.1.behind h.1.line h.1.some h.1.fits h.1.follows (inr refl)
at_open (place.Trailer count line) kept body text h =
    let same : h.1.came ≡ h.1.trailer = sym (h.1.follows ∙ append-nil h.1.came) in
    let short = h.1.short in
    in_trailer h.1.at body h.1.trailer h.1.behind h.1.says
    (subst HasNoTrailer same (trailer_not_yet h.1.came h.1.none (few_of line h.1.came (subst (λ (n : ℕ). n + missing_of line ≤ 16384) h.1.counted short))))
    (subst MayHaveTrailer same (trailer_may h.1.came line h.1.none h.1.last (subst (λ (n : ℕ). n + missing_of line ≤ 16384) h.1.counted short)))

pub holds_open : (c : ChunkedBody) (body text : List ℕ) → HoldsChunked c body text [] → IsOpenChunked text
holds_open c body text h = at_open c.place c.line.items body text h

-- ---- chunk lines

omega_none : {A : Type 0} → ⊥ → A
omega_none x = absurd x

pub length_take : (n : ℕ) (xs : List ℕ) → length (take n xs) ≤ n
length_take n xs =
    elim (cases_lt n (length xs)) [
      | inl long ↦ omega (arith, length-take-le n xs (omega (arith, long)))
      | inr all ↦ omega (arith, all, ap length (take_all n xs all))
    ]

-- no more than there is
pub length_of_take : (n : ℕ) (xs : List ℕ) → length (take n xs) ≤ length xs
length_of_take n xs =
    elim (cases_lt n (length xs)) [
      | inl long ↦ omega (arith, long, length-take-le n xs (omega (arith, long)))
      | inr all ↦ omega (arith, ap length (take_all n xs all))
    ]

missing_some : (line : LineSoFar) → 0 < missing_of line
missing_some Nothing = omega arith
missing_some Return = omega arith
missing_some Text = omega arith

take_short : (n : ℕ) (xs : List ℕ) → length (take n xs) < n → take n xs ≡ xs
take_short n xs less =
    elim (cases_lt n (length xs)) [
      | inl long ↦ omega_none (omega (arith, less, length-take-le n xs (omega (arith, long))))
      | inr all ↦ take_all n xs all
    ]

-- the text in which a line is looked for, and what stands behind it
looked_in : (m : ℕ) (kept front rest at : List ℕ) → front ≡ take m rest → at ≡ kept ++ rest → at ≡ (kept ++ front) ++ drop m rest
looked_in m kept front rest at is follows =
    follows ∙ ap (λ (t : List ℕ). kept ++ t) (sym (take-append-drop m rest) ∙ ap (λ (t : List ℕ). t ++ drop m rest) (sym is))
    ∙ sym (append_assoc kept front (drop m rest))

pub finds_open : (kept front rest body text : List ℕ) → front ≡ take (1024 - length kept) rest → HasNoLine (kept ++ front) × MayHaveLine (kept ++ front)
    → HoldsLine kept body text rest → HoldsLine (kept ++ front) body text []
finds_open kept front rest body text is opened h =
    let short = open_short (kept ++ front) opened.0 opened.1 in
    let less : length (take (1024 - length kept) rest) < 1024 - length kept = omega (arith, short, length-append kept front, ap length is) in
    let all : front ≡ rest = is ∙ take_short (1024 - length kept) rest less in
    record {
      at = h.at;
      behind = h.behind;
      follows = h.follows ∙ ap (λ (t : List ℕ). kept ++ t) (sym all) ∙ sym (append-nil (kept ++ front));
      none = opened.0;
      may = opened.1;
    }

pub finds_line : (kept front rest body text : List ℕ) (n size : ℕ) → front ≡ take (1024 - length kept) rest
    → (0 < n) × (n ≤ length (kept ++ front)) × HasLine (kept ++ front) size (drop n (kept ++ front)) → HoldsLine kept body text rest
    → (at : List ℕ) × IsBehind text at body × HasLine at size (drop (n - length kept) rest)
finds_line kept front rest body text n size is found h =
    let m = 1024 - length kept in
    let past = line_behind kept front size n h.none found.1 found.2 in
    let k = n - length kept in
    let whole : n ≡ length kept + k = omega (arith, past) in
    let within : k ≤ length front = omega (arith, past, found.1, length-append kept front) in
    let split : rest ≡ front ++ drop m rest = sym (take-append-drop m rest) ∙ ap (λ (t : List ℕ). t ++ drop m rest) (sym is) in
    let tail : drop n (kept ++ front) ++ drop m rest ≡ drop k rest =
    ap (λ (t : List ℕ). t ++ drop m rest) (ap (λ (i : ℕ). drop i (kept ++ front)) whole ∙ drop-append-add kept front k)
    ∙ sym (drop-append-le k front (drop m rest) within) ∙ ap (drop k) (sym split) in
    let line = has_line_append (kept ++ front) (drop m rest) (drop n (kept ++ front)) size found.2 in (
      h.at,
      h.behind,
      subst (λ (t : List ℕ). HasLine t size (drop k rest)) (sym (looked_in m kept front rest h.at is h.follows))
          (subst (HasLine ((kept ++ front) ++ drop m rest) size) tail line),
    )

pub finds_bad : (m : ℕ) (kept front rest body text : List ℕ) → front ≡ take m rest → NeverHasLine (kept ++ front) → HoldsLine kept body text rest
    → IsBadChunk text
finds_bad m kept front rest body text is never h =
    bad_line h.at body h.behind (λ more size after l. never (drop m rest ++ more) size after
    (subst (λ (t : List ℕ). HasLine t size after)
    (ap (λ (t : List ℕ). t ++ more) (looked_in m kept front rest h.at is h.follows) ∙ append_assoc (kept ++ front) (drop m rest) more) l))

-- ---- behind a chunk line

pub begins_trailer : (body text rest : List ℕ) (n : ℕ) → (at : List ℕ) × IsBehind text at body × HasLine at 0 (drop n rest)
    → HoldsTrailer 0 Nothing body text (drop n rest)
begins_trailer body text rest n found = record {
  at = found.0;
  trailer = drop n rest;
  came = [];
  behind = found.1;
  says = found.2;
  follows = refl;
  counted = refl;
  none = refl;
  last = refl;
  short = omega arith;
}

pub begins_bytes : (body text rest : List ℕ) (n size : ℕ) → 0 < size → length body + size ≤ 1048576 → (at : List ℕ) × IsBehind text at body
    × HasLine at size (drop n rest) → HoldsBytes size body text (drop n rest)
begins_bytes body text rest n size some fits found = record {
  at = found.0;
  bytes = body;
  size = size;
  after = drop n rest;
  part = [];
  behind = found.1;
  line = found.2;
  follows = refl;
  joined = sym (append-nil body);
  counted = omega arith;
  some = some;
  fits = fits;
}

pub too_large : (body text rest : List ℕ) (n size : ℕ) → 1048576 < length body + size → (at : List ℕ) × IsBehind text at body × HasLine at size (drop n rest)
    → IsTooLarge text
too_large body text rest n size large found =
    record { at = found.0; bytes = body; size = size; after = drop n rest; behind = found.1; line = found.2; large = large }

-- ---- the bytes of a chunk

pub takes_bytes : (missing used : ℕ) (body text rest : List ℕ) → used ≤ length rest → used < missing → HoldsBytes missing body text rest
    → HoldsBytes (missing - used) (body ++ take used rest) text (drop used rest)
takes_bytes missing used body text rest within less h = record {
  at = h.at;
  bytes = h.bytes;
  size = h.size;
  after = h.after;
  part = h.part ++ take used rest;
  behind = h.behind;
  line = h.line;
  follows = h.follows ∙ ap (λ (t : List ℕ). h.part ++ t) (sym (take-append-drop used rest)) ∙ sym (append_assoc h.part (take used rest) (drop used rest));
  joined = ap (λ (t : List ℕ). t ++ take used rest) h.joined ∙ append_assoc h.bytes h.part (take used rest);
  counted = omega (arith, h.counted, length-append h.part (take used rest), length-take-le used rest within, less);
  some = omega (arith, less);
  fits = h.fits;
}

pub takes_chunk : (missing : ℕ) (body text rest : List ℕ) → missing ≤ length rest → HoldsBytes missing body text rest
    → HoldsChunk [] (body ++ take missing rest) text (drop missing rest)
takes_chunk missing body text rest within h =
    let chunk = h.part ++ take missing rest in
    let size : h.size ≡ length chunk = omega (arith, h.counted, length-append h.part (take missing rest), length-take-le missing rest within) in
    record {
      at = h.at;
      bytes = h.bytes;
      chunk = chunk;
      after = h.after;
      behind = h.behind;
      line = subst (λ (n : ℕ). HasLine h.at n h.after) size h.line;
      some = omega (arith, size, h.counted, h.some);
      follows = h.follows ∙ ap (λ (t : List ℕ). h.part ++ t) (sym (take-append-drop missing rest))
          ∙ sym (append_assoc h.part (take missing rest) (drop missing rest));
      joined = ap (λ (t : List ℕ). t ++ take missing rest) h.joined ∙ append_assoc h.bytes h.part (take missing rest);
      fits = omega (arith, size, h.fits);
    }

-- ---- behind a chunk

first_is : (rest : List ℕ) (b : ℕ) → 0 < length rest → get_or rest 0 0 ≡ b → rest ≡ b ∷ drop 1 rest
first_is [] b some is = omega_none (omega (arith, some))
first_is (c ∷ rest) b some is = ap (λ (d : ℕ). d ∷ rest) is

pub takes_return : (body text rest : List ℕ) → 0 < length rest → get_or rest 0 0 ≡ 13 → HoldsChunk [] body text rest
    → HoldsChunk (13 ∷ []) body text (drop 1 rest)
takes_return body text rest some is h = record {
  at = h.at;
  bytes = h.bytes;
  chunk = h.chunk;
  after = h.after;
  behind = h.behind;
  line = h.line;
  some = h.some;
  follows = h.follows ∙ ap (λ (t : List ℕ). h.chunk ++ t) (first_is rest 13 some is);
  joined = h.joined;
  fits = h.fits;
}

never_return : (rest : List ℕ) → 0 < length rest → (get_or rest 0 0 ≡ 13 → ⊥) → NeverEndsLine rest
never_return [] some is more after e = omega (arith, some)
never_return (c ∷ rest) some is more after e = let same : c ≡ 13 = cc in is same

never_feed : (rest : List ℕ) → 0 < length rest → (get_or rest 0 0 ≡ 10 → ⊥) → NeverEndsLine (13 ∷ rest)
never_feed [] some is more after e = omega (arith, some)
never_feed (c ∷ rest) some is more after e = let same : c ≡ 10 = cc in is same

pub no_return : (body text rest : List ℕ) → 0 < length rest → (get_or rest 0 0 ≡ 13 → ⊥) → HoldsChunk [] body text rest → IsBadChunk text
no_return body text rest some is h = bad_end h.at h.bytes h.chunk h.after rest h.behind h.line h.some h.fits h.follows (never_return rest some is)

pub no_feed : (body text rest : List ℕ) → 0 < length rest → (get_or rest 0 0 ≡ 10 → ⊥) → HoldsChunk (13 ∷ []) body text rest → IsBadChunk text
no_feed body text rest some is h = bad_end h.at h.bytes h.chunk h.after (13 ∷ rest) h.behind h.line h.some h.fits h.follows (never_feed rest some is)

pub takes_feed : (body text rest : List ℕ) → 0 < length rest → get_or rest 0 0 ≡ 10 → HoldsChunk (13 ∷ []) body text rest → HoldsLine [] body text (drop 1 rest)
takes_feed body text rest some is h =
    let chunk : HasChunk h.at h.chunk (drop 1 rest) =
    record { behind = h.after; line = h.line; some = h.some; follows = h.follows ∙ ap (λ (t : List ℕ). h.chunk ++ 13 ∷ t) (first_is rest 10 some is) } in
    record {
      at = drop 1 rest;
      behind = subst (IsBehind text (drop 1 rest)) (sym h.joined) (behind_push text h.at h.bytes h.chunk (drop 1 rest) h.behind chunk h.fits);
      follows = refl;
      none = nothing_open.0;
      may = nothing_open.1;
    }

-- ---- the trailer

pub takes_end : (count : ℕ) (line : LineSoFar) (front body text rest : List ℕ) (k : ℕ) → front ≡ take (16384 - count) rest → scan_from 0 line front ≡ Ended k
    → HoldsTrailer count line body text rest → BeginsChunked text body (drop k rest)
takes_end count line front body text rest k is end h =
    let ran : Runs h.came front 0 (Ended k) = subst (Runs h.came front 0) end (runs front h.came 0 line h.none h.last) in
    let split : rest ≡ front ++ drop (16384 - count) rest = sym (take-append-drop (16384 - count) rest)
    ∙ ap (λ (t : List ℕ). t ++ drop (16384 - count) rest) (sym is) in
    let fits : length h.came + length front ≤ 16384 = omega (arith, h.counted, h.short, ap length is, length_take (16384 - count) rest) in
    let same : k ≡ ran.0 = omega (arith, ran.1) in
    let ends = trailer_ends h.came rest front ran.0 (drop (16384 - count) rest, split) ran.2 fits ran.4 in
    record {
      last = h.at;
      trailer = h.trailer;
      behind = h.behind;
      line = h.says;
      ends = subst (λ (n : ℕ). HasTrailer h.trailer (drop n rest)) (sym same) (subst (λ (t : List ℕ). HasTrailer t (drop ran.0 rest)) (sym h.follows) ends);
    }

pub takes_trailer : (count : ℕ) (line next : LineSoFar) (front body text rest : List ℕ) → front ≡ take (16384 - count) rest → scan_from 0 line front ≡ Open next
    → length front + missing_of next ≤ 16384 - count → HoldsTrailer count line body text rest
    → HoldsTrailer (16384 - (16384 - count - length front)) next body text (drop (length front) rest)
takes_trailer count line next front body text rest is opened room h =
    let ran : Runs h.came front 0 (Open next) = subst (Runs h.came front 0) opened (runs front h.came 0 line h.none h.last) in
    let some = missing_some next in
    let less : length (take (16384 - count) rest) < 16384 - count = omega (arith, room, some, ap length is) in
    let all : front ≡ rest = is ∙ take_short (16384 - count) rest less in
    record {
      at = h.at;
      trailer = h.trailer;
      came = h.came ++ front;
      behind = h.behind;
      says = h.says;
      follows = h.follows ∙ ap (λ (t : List ℕ). h.came ++ t) (sym all) ∙ sym (append-nil (h.came ++ front))
          ∙ ap (λ (t : List ℕ). (h.came ++ front) ++ t) (sym (drop_all (length front) rest (omega (arith, ap length all))));
      counted = omega (arith, h.counted, room, some, length-append h.came front);
      none = ran.0;
      last = ran.1;
      short = omega (arith, room, some);
    }

pub bad_trailer_of : (count : ℕ) (line next : LineSoFar) (front body text rest : List ℕ) → front ≡ take (16384 - count) rest
    → scan_from 0 line front ≡ Open next
    → 16384 - count < length front + missing_of next → HoldsTrailer count line body text rest → IsBadChunk text
bad_trailer_of count line next front body text rest is opened long h =
    let ran : Runs h.came front 0 (Open next) = subst (Runs h.came front 0) opened (runs front h.came 0 line h.none h.last) in
    let split : rest ≡ front ++ drop (16384 - count) rest = sym (take-append-drop (16384 - count) rest)
    ∙ ap (λ (t : List ℕ). t ++ drop (16384 - count) rest) (sym is) in
    let whole : h.trailer ≡ (h.came ++ front) ++ drop (16384 - count) rest = h.follows ∙ ap (λ (t : List ℕ). h.came ++ t) split
    ∙ sym (append_assoc h.came front (drop (16384 - count) rest)) in
    bad_trailer h.at body h.trailer h.behind h.says
    (subst NeverHasTrailer (sym whole) (never_on (h.came ++ front) (drop (16384 - count) rest)
    (trailer_never (h.came ++ front) next ran.0 ran.1 (omega (arith, long, h.counted, h.short, length-append h.came front)))))

-- ---- what is read, by cases

pub read_as : (t : List ℕ) (r q : LineRead) → r ≡ q → ReadsLine t r → ReadsLine t q
read_as t r q is h = subst (ReadsLine t) is h

pub found_as : (kept body text rest : List ℕ) (r q : LineRead) → r ≡ q → FindsLine kept body text rest r → FindsLine kept body text rest q
found_as kept body text rest r q is h = subst (FindsLine kept body text rest) is h

pub stepped_as : (c : ChunkedBody) (body text rest : List ℕ) (s q : ChunkStep) → s ≡ q → StepsTo c body text rest s → StepsTo c body text rest q
stepped_as c body text rest s q is h = subst (StepsTo c body text rest) is h

pub stays_in_line : (c : ChunkedBody) (body text rest : List ℕ) → c.place ≡ place.Line → HoldsLine c.line.items body text []
    → HoldsChunked c body text (drop (length rest) rest)
stays_in_line c body text rest is h =
    subst (λ (p : ChunkPlace). HoldsAt p c.line.items body text (drop (length rest) rest)) (sym is)
    (subst (HoldsLine c.line.items body text) (sym (drop_all (length rest) rest (omega arith))) h)

pub goes_on : (p : ChunkPlace) (kept body text rest : List ℕ) (n size came : ℕ) → length body ≡ came → FindsLine kept body text rest (read.Line n size)
    → GoesOn size came (Some p)
    → HoldsAt p kept body text (drop n rest)
goes_on p kept body text rest n size came many found (inl ends) =
    subst (λ (q : ChunkPlace). HoldsAt q kept body text (drop n rest)) (sym ends.1)
    (found.0, begins_trailer body text rest n (found.1.0, found.1.1, subst (λ (k : ℕ). HasLine found.1.0 k (drop n rest)) ends.0 found.1.2))
goes_on p kept body text rest n size came many found (inr more) =
    subst (λ (q : ChunkPlace). HoldsAt q kept body text (drop n rest)) (sym more.2)
    (found.0, begins_bytes body text rest n size more.0 (omega (arith, more.1, many)) found.1)

pub goes_nowhere : (kept body text rest : List ℕ) (n size came : ℕ) → length body ≡ came → FindsLine kept body text rest (read.Line n size)
    → 1048576 < came + size → IsTooLarge text
goes_nowhere kept body text rest n size came many found large = too_large body text rest n size (omega (arith, large, many)) found.1

pub all_taken : (c : ChunkedBody) (body text rest : List ℕ) → rest ≡ [] → HoldsChunked c body text rest → IsOpenChunked text × HoldsChunked c body text []
all_taken c body text rest none h = let held = subst (HoldsChunked c body text) none h in (holds_open c body text held, held)

-- What a text begins with stays so when more bytes come.
use Rattle.std.proofs.Common.{◌≡◌, ◌∙◌, ◌≤◌, ℕ, List, ◌++◌, length, take, Some, ap, sym, subst, append_assoc, arith}
use Rattle.std.proofs.lemmas.List.{drop-append-le}
use Rattle.as2_framing.specs.Chunks.{HasTrailer, BeginsChunked, NeverHasLine, HasLine, NeverEndsLine, IsTooLarge, IsBadChunk, bad_line, bad_end, bad_trailer}
use Rattle.as2_framing.specs.HeadText.{up_to_empty_line}
use Rattle.as2_framing.proofs.Chunking.{behind_append, length_of_take}
use Rattle.as2_framing.proofs.ChunkLines.{has_line_append}
use Rattle.as2_framing.proofs.Heads.{cut_of, line_end, line_stays, take_more}
use Rattle.as2_framing.proofs.Trailers.{never_on}

-- an empty line ends within the text
within : (text : List ℕ) (n : ℕ) → up_to_empty_line text ≡ Some n → n ≤ length text
within text n e = let l = line_end text n e in omega (arith, l.1, cut_of text l.0)

trailer_append : (text rest more : List ℕ) → HasTrailer text rest → HasTrailer (text ++ more) (rest ++ more)
trailer_append text rest more h =
    let grown = take_more 16384 text more in
    let short : h.0 ≤ length text = omega (arith, within (take 16384 text) h.0 h.1, length_of_take 16384 text) in (
      h.0,
      ap up_to_empty_line grown.1 ∙ line_stays (take 16384 text) grown.0 h.0 h.1,
      ap (λ (t : List ℕ). t ++ more) h.2 ∙ sym (drop-append-le h.0 text more short),
    )

pub begins_append : (text body rest more : List ℕ) → BeginsChunked text body rest → BeginsChunked (text ++ more) body (rest ++ more)
begins_append text body rest more b = record {
  last = b.last ++ more;
  trailer = b.trailer ++ more;
  behind = behind_append text b.last body more b.behind;
  line = has_line_append b.last more b.trailer 0 b.line;
  ends = trailer_append b.trailer rest more b.ends;
}

pub large_append : (text more : List ℕ) → IsTooLarge text → IsTooLarge (text ++ more)
large_append text more l = record {
  at = l.at ++ more;
  bytes = l.bytes;
  size = l.size;
  after = l.after ++ more;
  behind = behind_append text l.at l.bytes more l.behind;
  line = has_line_append l.at more l.after l.size l.line;
  large = l.large;
}

never_line : (at more : List ℕ) → NeverHasLine at → NeverHasLine (at ++ more)
never_line at more never later size after h = never (more ++ later) size after (subst (λ (t : List ℕ). HasLine t size after) (append_assoc at more later) h)

never_end : (rest more : List ℕ) → NeverEndsLine rest → NeverEndsLine (rest ++ more)
never_end rest more never later tail e = never (more ++ later) tail (sym (append_assoc rest more later) ∙ e)

pub bad_append : (text more : List ℕ) → IsBadChunk text → IsBadChunk (text ++ more)
bad_append text more (bad_line at bytes behind never) = bad_line (at ++ more) bytes (behind_append text at bytes more behind) (never_line at more never)
bad_append text more (bad_end at bytes chunk after rest behind line some fits follows never) =
    bad_end (at ++ more) bytes chunk (after ++ more) (rest ++ more) (behind_append text at bytes more behind)
    (has_line_append at more after (length chunk) line) some fits
    (ap (λ (t : List ℕ). t ++ more) follows ∙ append_assoc chunk rest more) (never_end rest more never)
bad_append text more (bad_trailer at bytes trailer behind line never) =
    bad_trailer (at ++ more) bytes (trailer ++ more) (behind_append text at bytes more behind) (has_line_append at more trailer 0 line)
    (never_on trailer more never)

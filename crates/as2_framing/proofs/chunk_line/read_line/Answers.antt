use Rattle.std.proofs.Common.{ℕ}
use Rattle.httparse.specs.Grammar.{ChunkLine, HasNoChunkLine, MayBecomeChunkLine}
use Rattle.httparse.specs.Spans.{IsChunkLineAt}
use Rattle.as2_framing.proofs.ChunkLines.{line_found, line_open, line_too_long, told_complete, told_partial}
use Rattle.as2_framing.proofs.chunk_line.read_line.Goals as goal

pub returns-in-Ok-Complete : goal.returns-in-Ok-Complete
returns-in-Ok-Complete c =
    let t = c.args.text.now in
    let at = told_complete c.in-Ok-Complete.field-0 c.in-Ok-Complete.length c.in-Ok-Complete.size
    (λ (r : ℕ × ℕ). (l : ChunkLine) × IsChunkLineAt t r.0 r.1 l) c.in-Ok-Complete.field-0-is c.in-Ok-Complete.ensures.complete in
    line_found t c.in-Ok-Complete.length c.in-Ok-Complete.size at.0 at.1 c.requires

pub returns-in-Ok-Partial : goal.returns-in-Ok-Partial
returns-in-Ok-Partial c =
    let t = c.args.text.now in
    line_open t (told_partial c.in-Ok-Partial.field-0 (HasNoChunkLine t) c.in-Ok-Partial.field-0-is c.in-Ok-Partial.ensures.partial)
    (told_partial c.in-Ok-Partial.field-0 (MayBecomeChunkLine t) c.in-Ok-Partial.field-0-is c.in-Ok-Partial.ensures.unfinished) c.if-has_room.ensures

pub returns-in-Ok-Partial-2 : goal.returns-in-Ok-Partial-2
returns-in-Ok-Partial-2 c =
    let t = c.args.text.now in
    let long = c.if-has_room.ensures in
    line_too_long t (told_partial c.in-Ok-Partial.field-0 (HasNoChunkLine t) c.in-Ok-Partial.field-0-is c.in-Ok-Partial.ensures.partial) long.0 long.1

use Rattle.std.proofs.Common.{◌≡◌, ◌∙◌, ◌-◌, ◌<◌, ◌++◌, ℕ, List, [], length, length-append, take, drop, Ok, rules, ap, subst, sym, arith}
use Rattle.as2_framing.specs.Chunks.{HasNoLine, HasLine}
use Rattle.as2_framing.specs.ChunkPieces.{HoldsLine, ReadsLine}
use Rattle.as2_framing.specs.declared.chunk_line.LineRead.{LineRead}
use Rattle.as2_framing.specs.declared.chunk_line.LineRead.TheVariants.{Open, Line, Bad}
use Rattle.as2_framing.proofs.ChunkLines.{line_behind, nothing_open, open_short}
use Rattle.as2_framing.proofs.Chunking.{finds_bad, finds_line, finds_open, length_of_take, read_as}
use Rattle.as2_framing.proofs.chunked_body.ChunkedBody.find_line.Goals as goal

pub invariant_of-self : goal.invariant_of-self
invariant_of-self c =
    let empty : c.replace-text.new.dest.items ≡ [] = search rules in
    record { within = search rules; none = subst HasNoLine (sym empty) nothing_open.0; some = c.args.self.now.some }

pub invariant_of-self-in-Open : goal.invariant_of-self-in-Open
invariant_of-self-in-Open c =
    let opened = read_as _ c.in_ok-read_behind.field-0 Open c.in-Open.is c.in_ok-read_behind.ensures.read in
    let kept = c.in_ok-read_behind.ensures.kept (ap (λ (r : LineRead). Ok r) c.in-Open.is) in
    let short : length c.read_behind.new.text.items < 1024 =
    omega (arith, open_short (c.replace-text.result.items ++ c.first.result.now) opened.0 opened.1, ap length kept) in
    record { within = omega (arith, short); none = subst HasNoLine (sym kept) opened.0; some = c.args.self.now.some }

pub invariant_of-self-in-Line-1 : goal.invariant_of-self-in-Line-1
invariant_of-self-in-Line-1 c =
    let empty : c.replace-text.new.dest.items ≡ [] = search rules in
    record { within = search rules; none = subst HasNoLine (sym empty) nothing_open.0; some = c.args.self.now.some }

pub overflow_sub-result : goal.overflow_sub-result
overflow_sub-result c =
    let front = c.first.result.now in
    let same : c.replace-text.result.items ≡ c.args.self.now.line.items = search rules in
    let size_of : c.len-kept.result ≡ length c.args.self.now.line.items = search rules in
    let room : front ≡ take (1024 - length c.args.self.now.line.items) c.args.rest.now = c.first.ensures
    ∙ ap (λ (n : ℕ). take (1024 - n) c.args.rest.now) size_of in
    let found = read_as (c.replace-text.result.items ++ front) c.in_ok-read_behind.field-0
    (Line c.in-Line.used c.in-Line.size) c.in-Line.is c.in_ok-read_behind.ensures.read in
    let read : ReadsLine (c.args.self.now.line.items ++ front) (Line c.in-Line.used c.in-Line.size) =
    subst (λ (t : List ℕ). ReadsLine (t ++ front) (Line c.in-Line.used c.in-Line.size)) same found in
    omega (arith, size_of, line_behind c.args.self.now.line.items front c.in-Line.size c.in-Line.used c.args.self.now.none read.1 read.2)

pub invariant_of-self-in-Bad : goal.invariant_of-self-in-Bad
invariant_of-self-in-Bad c =
    let empty : c.replace-text.new.dest.items ≡ [] = search rules in
    record { within = search rules; none = subst HasNoLine (sym empty) nothing_open.0; some = c.args.self.now.some }

pub returns-in-Open-clause-found : goal.returns-in-Open-clause-found
returns-in-Open-clause-found c = λ body text h.
    let front = c.first.result.now in
    let same : c.replace-text.result.items ≡ c.args.self.now.line.items = search rules in
    let size_of : c.len-kept.result ≡ length c.args.self.now.line.items = search rules in
    let room : front ≡ take (1024 - length c.args.self.now.line.items) c.args.rest.now = c.first.ensures
    ∙ ap (λ (n : ℕ). take (1024 - n) c.args.rest.now) size_of in
    let opened = read_as (c.replace-text.result.items ++ front) c.in_ok-read_behind.field-0 Open c.in-Open.is c.in_ok-read_behind.ensures.read in
    let read : ReadsLine (c.args.self.now.line.items ++ front) Open = subst (λ (t : List ℕ). ReadsLine (t ++ front) Open) same opened in
    let kept = c.in_ok-read_behind.ensures.kept (ap (λ (r : LineRead). Ok r) c.in-Open.is) in
    subst (λ (t : List ℕ). HoldsLine t body text []) (sym (kept ∙ ap (λ (t : List ℕ). t ++ front) same))
    (finds_open c.args.self.now.line.items front c.args.rest.now body text room read h)

pub returns-in-Line-clause-within : goal.returns-in-Line-clause-within
returns-in-Line-clause-within c =
    let front = c.first.result.now in
    let same : c.replace-text.result.items ≡ c.args.self.now.line.items = search rules in
    let size_of : c.len-kept.result ≡ length c.args.self.now.line.items = search rules in
    let room : front ≡ take (1024 - length c.args.self.now.line.items) c.args.rest.now = c.first.ensures
    ∙ ap (λ (n : ℕ). take (1024 - n) c.args.rest.now) size_of in
    let found = read_as (c.replace-text.result.items ++ front) c.in_ok-read_behind.field-0
    (Line c.in-Line.used c.in-Line.size) c.in-Line.is c.in_ok-read_behind.ensures.read in
    let read : ReadsLine (c.args.self.now.line.items ++ front) (Line c.in-Line.used c.in-Line.size) =
    subst (λ (t : List ℕ). ReadsLine (t ++ front) (Line c.in-Line.used c.in-Line.size)) same found in
    let past = line_behind c.args.self.now.line.items front c.in-Line.size c.in-Line.used c.args.self.now.none read.1 read.2 in (
      omega (arith, size_of, past),
      omega (
        arith,
        size_of,
        read.1,
        length-append c.args.self.now.line.items front,
        ap length room,
        length_of_take (1024 - length c.args.self.now.line.items) c.args.rest.now,
      ),
    )

pub returns-in-Line-clause-found : goal.returns-in-Line-clause-found
returns-in-Line-clause-found c = λ body text h.
    let front = c.first.result.now in
    let same : c.replace-text.result.items ≡ c.args.self.now.line.items = search rules in
    let size_of : c.len-kept.result ≡ length c.args.self.now.line.items = search rules in
    let room : front ≡ take (1024 - length c.args.self.now.line.items) c.args.rest.now = c.first.ensures
    ∙ ap (λ (n : ℕ). take (1024 - n) c.args.rest.now) size_of in
    let found = read_as (c.replace-text.result.items ++ front) c.in_ok-read_behind.field-0
    (Line c.in-Line.used c.in-Line.size) c.in-Line.is c.in_ok-read_behind.ensures.read in
    let read : ReadsLine (c.args.self.now.line.items ++ front) (Line c.in-Line.used c.in-Line.size) =
    subst (λ (t : List ℕ). ReadsLine (t ++ front) (Line c.in-Line.used c.in-Line.size)) same found in
    let empty : c.replace-text.new.dest.items ≡ [] = search rules in
    let there = finds_line c.args.self.now.line.items front c.args.rest.now body text c.in-Line.used c.in-Line.size room read h in
    (empty, (there.0, there.1, subst (λ (n : ℕ). HasLine there.0 c.in-Line.size (drop (c.in-Line.used - n) c.args.rest.now)) (sym size_of) there.2))

pub returns-in-Bad-clause-found : goal.returns-in-Bad-clause-found
returns-in-Bad-clause-found c = λ body text h.
    let front = c.first.result.now in
    let same : c.replace-text.result.items ≡ c.args.self.now.line.items = search rules in
    let size_of : c.len-kept.result ≡ length c.args.self.now.line.items = search rules in
    let room : front ≡ take (1024 - length c.args.self.now.line.items) c.args.rest.now = c.first.ensures
    ∙ ap (λ (n : ℕ). take (1024 - n) c.args.rest.now) size_of in
    let bad = read_as (c.replace-text.result.items ++ front) c.in_ok-read_behind.field-0 Bad c.in-Bad.is c.in_ok-read_behind.ensures.read in
    let read : ReadsLine (c.args.self.now.line.items ++ front) Bad = subst (λ (t : List ℕ). ReadsLine (t ++ front) Bad) same bad in
    finds_bad (1024 - length c.args.self.now.line.items) c.args.self.now.line.items front c.args.rest.now body text room read h

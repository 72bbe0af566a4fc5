use Rattle.std.proofs.Common.{◌≡◌, ◌∙◌, ◌++◌, List, ℕ, [], rules, subst, sym}
use Rattle.as2_framing.specs.ChunkPieces.{ReadsLine}
use Rattle.as2_framing.proofs.ChunkLines.{nil_of}
use Rattle.as2_framing.proofs.chunked.read_behind.Goals as goal

pub returns-then-not-is_empty-clause-read : goal.returns-then-not-is_empty-clause-read
returns-then-not-is_empty-clause-read c =
    subst (λ (t : List ℕ). ReadsLine t c.read_line.result) (c.deref.ensures.value ∙ c.in_ok-extend_from_slice.ensures.items) c.read_line.ensures

pub returns-in_ok-extend_from_slice-2-clause-read : goal.returns-in_ok-extend_from_slice-2-clause-read
returns-in_ok-extend_from_slice-2-clause-read c =
    let none : c.args.text.now.items ≡ [] = nil_of c.args.text.now.items (search rules) in
    subst (λ (t : List ℕ). ReadsLine (t ++ c.args.front.now) c.read_line-read.result) (sym none) c.read_line-read.ensures

pub returns-else-eq-clause-read : goal.returns-else-eq-clause-read
returns-else-eq-clause-read c =
    let none : c.args.text.now.items ≡ [] = nil_of c.args.text.now.items (search rules) in
    subst (λ (t : List ℕ). ReadsLine (t ++ c.args.front.now) c.read_line-read.result) (sym none) c.read_line-read.ensures

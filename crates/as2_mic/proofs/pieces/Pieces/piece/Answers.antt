use Rattle.std.proofs.Common.{rules, ◌≡◌, ◌<◌, ◌≤◌, ◌+◌, ◌*◌, length, List, ℕ, Some, Vec, Global, sym, ap, ◌∙◌, arith}
use Rattle.as2_mic.specs.Pieces.{piece_at}
use Rattle.as2_mic.proofs.Piecewise.{piece_whole, piece_last, piece_none}
use Rattle.as2_mic.proofs.pieces.Pieces.piece.Goals as goal
use Rattle.as2_mic.proofs.pieces.Pieces.piece.Goals.{else-i-len-2-via-then-i-len-2+else-not-is_empty, else-i-len-2-via-else-i-len-2}

abbrev bytes : Vec ℕ Global → List ℕ
bytes v = v.items

pub returns-then-i-len : goal.returns-then-i-len
returns-then-i-len c =
    let p = c.self.inside in
    let inside : c.args.i < length p.full.items = search rules in
    let shown = piece_whole bytes p.full.items p.last.items c.args.i c.index.result.now c.self.invariant.0 inside in
    ap (λ (x : List ℕ). Some x) (c.as_slice.ensures.value ∙ ap bytes c.index.ensures) ∙ sym shown ∙ ap (λ (x : List ℕ). piece_at x c.args.i) c.self.view_is

pub returns-then-not-is_empty : goal.returns-then-not-is_empty
returns-then-not-is_empty c =
    let p = c.self.inside in
    let behind : c.args.i ≡ length p.full.items = search rules in
    let some : 0 < length p.last.items = search rules in
    let shown = piece_last bytes p.full.items p.last.items c.args.i c.self.invariant.0 c.self.invariant.1 some behind in
    ap (λ (x : List ℕ). Some x) c.as_slice-then-not-is_empty.ensures.value ∙ sym shown ∙ ap (λ (x : List ℕ). piece_at x c.args.i) c.self.view_is

pub returns-else-i-len-2 : goal.returns-else-i-len-2
returns-else-i-len-2 c =
    let p = c.self.inside in
    let past : length p.full.items * 65536 + length p.last.items ≤ c.args.i * 65536 =
    elim c.else-i-len-2.branch [
      | else-i-len-2-via-then-i-len-2+else-not-is_empty w ↦
          let behind : c.args.i ≡ length p.full.items = search rules in
          let none : length p.last.items ≡ 0 = search rules in
          omega (arith, behind, none)
      | else-i-len-2-via-else-i-len-2 w ↦
          let behind : length p.full.items < c.args.i = search rules in
          omega (arith, behind, c.self.invariant.1)
    ] in
    sym (piece_none bytes p.full.items p.last.items c.args.i c.self.invariant.0 past) ∙ ap (λ (x : List ℕ). piece_at x c.args.i) c.self.view_is

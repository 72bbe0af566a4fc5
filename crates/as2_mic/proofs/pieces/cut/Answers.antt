use Rattle.std.proofs.Common.{rules, ◌≡◌, ◌<◌, ◌≤◌, ◌-◌, ◌*◌, ◌/◌, length, take, slice_index_or, List, ℕ, Vec, Global, refl, ap, ◌∙◌}
use Rattle.as2_mic.proofs.Piecewise.{cut_piece, cut_last, kept_along, take_removed}
use Rattle.as2_mic.proofs.pieces.cut.Goals as goal
use Rattle.as2_mic.proofs.pieces.cut.Goals.{then-whole-len, else-whole-len}

abbrev bytes : Vec ℕ Global → List ℕ
bytes v = v.items

pub returns : goal.returns
returns c =
    let full = c.args.full.now.items in
    let last = c.args.last.now.items in
    let n = c.args.len in
    let at = c.saturating_sub-whole.result / 65536 in
    let is : at ≡ (n - 1) / 65536 = ap (λ (x : ℕ). x / 65536) c.saturating_sub-whole.ensures in
    elim c.if-whole-len.branch [
      | then-whole-len w ↦
          let inside : at < length full = search rules in
          let first : c.if-whole-len.full.items ≡ take at full =
          rw w.full-is (w.truncate.ensures.items ∙ ap (take at) w.remove.ensures.items ∙ take_removed full at inside) in
          let rest : c.truncate-2.new.self.items ≡ take (n - at * 65536) (bytes w.remove.result) = c.truncate-2.ensures.items ∙ rw w.last-is refl in
          let piece : bytes w.remove.result ≡ bytes (slice_index_or full at w.remove.result) = ap bytes w.remove.ensures.value in
          kept_along bytes _ _ _ _ _ first (rest ∙ ap (take (n - at * 65536)) piece)
          (cut_piece bytes full last n at w.remove.result c.requires.whole c.requires.within is inside)
      | else-whole-len w ↦
          let outside : length full ≤ at = search rules in
          let first : c.if-whole-len.full.items ≡ full = rw w.full-is refl in
          let rest : c.truncate-2.new.self.items ≡ take (n - at * 65536) last = c.truncate-2.ensures.items ∙ rw w.last-is refl in
          kept_along bytes _ _ _ _ _ first rest (cut_last bytes full last n at c.requires.whole c.requires.short c.requires.within is outside)
    ]

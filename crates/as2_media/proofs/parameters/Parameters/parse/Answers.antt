use Rattle.std.proofs.Common.{◌≡◌, ◌∷◌, ◌-◌, ◌<◌, ◌≤◌, false, length, List, ℕ, option_map, Some, sym, ap, ◌∙◌, arith}
use Rattle.std.specs.Prelude.{◌==◌}
use Rattle.std.proofs.lemmas.Bool.{eqb-false}
use Rattle.as2_names.specs.Trim.{trimmed_text}
use Rattle.as2_media.specs.Cuts.{segments_of}
use Rattle.as2_names.specs.Names.{with_front}
use Rattle.as2_media.specs.Parameters.{parameter, parameters}
use Rattle.as2_media.proofs.Counting.{taken}
use Rattle.as2_media.proofs.parameters.Parameters.parse.Goals as goal

pub loop-rest-preserved-in-Some-parse : goal.loop-rest-preserved-in-Some-parse
loop-rest-preserved-in-Some-parse c =
    let held = c.loop-rest.held.items in
    let text = c.cut_segment.result.0.now in
    let texts = segments_of (option_map (λ t. t.now) c.cut_segment.result.1) in
    let parsed : parameter text ≡ Some c.in-Some-parse.parameter = sym c.parse.ensures ∙ c.in-Some-parse.is in
    let some : (length (trimmed_text text) == 0) ≡ false = ap (λ (x : List ℕ). length x == 0) (sym c.without_blanks_and_line_ends.ensures)
    ∙ sym c.is_empty.ensures ∙ c.if-not-is_empty.true in
    let other : length held ≡ 8 → ⊥ = eqb-false (length held) 8 (sym c.is_full.ensures.value ∙ c.if-is_full.false) in
    let fits : length held ≤ 8 = c.is_full.ensures.fits in
    let room : length held < 8 = omega (arith, other, fits) in
    let cut : segments_of (option_map (λ t. t.now) c.loop-rest.rest) ≡ text ∷ texts =
    ap (λ r. segments_of (option_map (λ t. t.now) r)) c.in-Some.is ∙ c.cut_segment.ensures in
    rw c.push.ensures.items (taken held c.in-Some-parse.parameter text texts room some parsed
    ∙ ap (λ (x : List (List ℕ)). with_front held (parameters (8 - length held) x)) (sym cut)
    ∙ c.loop-rest.invariant)

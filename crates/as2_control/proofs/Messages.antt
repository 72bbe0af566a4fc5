-- A frame is that of one message.
use Rattle.std.proofs.Common.{◌≡◌, ℕ, ◌-◌, ◌^◌, ◌<◌, List, [], ◌∷◌, ◌++◌, length, get_or, refl, ◌∙◌, ap, arith}
use Rattle.std.proofs.lemmas.List.{length-append}
use Rattle.as2_control.specs.Demands.{DemandValue, IsDemandFrame, demand_body, words_text}
use Rattle.as2_control.specs.Frames.{IsFrameOf, framed_field}
use Rattle.as2_control.specs.Outcomes.{IsOutcomeFrame, OutcomeValue, file_text, files_text, outcome_body}
use Rattle.as2_control.proofs.Beginnings.{one_body}
use Rattle.as2_control.proofs.Bodies.{Cut, cut_is, cut_small}
use Rattle.as2_control.proofs.Lengths.{length-framed_field}
use Rattle.as2_control.proofs.Sequences.{fields_are_code, files_are_code, one_sequence}

-- of a short text, a field at its front is cut
front : (text field rest : List ℕ) → text ≡ framed_field field ++ rest → length text < 2 ^ 32 → Cut text field rest
front text field rest e small = record {
  whole = e;
  short = omega (arith, ap length e, length-append (framed_field field) rest, length-framed_field field);
}

-- two fields at the front of one short text are one, and so is what stands behind
same_front : (text a r b s : List ℕ) → length text < 2 ^ 32 → text ≡ framed_field a ++ r → text ≡ framed_field b ++ s
    → (a ≡ b) × (r ≡ s) × (length r < 2 ^ 32)
same_front text a r b s small e e' =
    let c = front text a r e small in
    let same = cut_is text a r b s c small e' in
    (same.0, same.1, cut_small text a r c small)

pub one_demand : (frame : List ℕ) (a b : DemandValue) → IsDemandFrame frame a → IsDemandFrame frame b → a ≡ b
one_demand frame a b f g =
    let small : length (demand_body a) < 2 ^ 32 = omega (arith, f.frame.within) in
    let first = same_front (demand_body a) a.agreements (framed_field a.content ++ words_text a.words) b.agreements (framed_field b.content ++ words_text b.words)
    small refl (one_body 2097152 frame (demand_body a) (demand_body b) f.frame g.frame) in
    let second = same_front (framed_field a.content ++ words_text a.words) a.content (words_text a.words) b.content (words_text b.words) first.2 refl first.1 in
    let words : a.words ≡ b.words = one_sequence framed_field fields_are_code a.words b.words (omega (arith, second.2, ap length second.1)) second.1 in
    ap (λ x. record { agreements = x; content = a.content; words = a.words }) first.0
    ∙ (ap (λ x. record { agreements = b.agreements; content = x; words = a.words }) second.0
    ∙ ap (λ x. record { agreements = b.agreements; content = b.content; words = x }) words)

pub one_outcome : (frame : List ℕ) (a b : OutcomeValue) → IsOutcomeFrame frame a → IsOutcomeFrame frame b → a ≡ b
one_outcome frame a b f g =
    let small : length (outcome_body a) < 2 ^ 32 = omega (arith, f.frame.within) in
    let first = same_front (outcome_body a) (a.status ∷ []) (framed_field a.output ++ (framed_field a.errors ++ files_text a.files))
    (b.status ∷ []) (framed_field b.output ++ (framed_field b.errors ++ files_text b.files))
    small refl (one_body (2 ^ 32 - 1) frame (outcome_body a) (outcome_body b) f.frame g.frame) in
    let second = same_front (framed_field a.output ++ (framed_field a.errors ++ files_text a.files)) a.output (framed_field a.errors ++ files_text a.files)
    b.output (framed_field b.errors ++ files_text b.files) first.2 refl first.1 in
    let third = same_front (framed_field a.errors ++ files_text a.files) a.errors (files_text a.files) b.errors (files_text b.files) second.2 refl second.1 in
    let files : a.files ≡ b.files = one_sequence file_text files_are_code a.files b.files (omega (arith, third.2, ap length third.1)) third.1 in
    let status : a.status ≡ b.status = ap (λ l. get_or l 0 0) first.0 in
    ap (λ x. record { status = x; output = a.output; errors = a.errors; files = a.files }) status
    ∙ (ap (λ x. record { status = b.status; output = x; errors = a.errors; files = a.files }) second.0
    ∙ (ap (λ x. record { status = b.status; output = b.output; errors = x; files = a.files }) third.0
    ∙ ap (λ x. record { status = b.status; output = b.output; errors = b.errors; files = x }) files))

pub never_both : (frame : List ℕ) (a : DemandValue) (b : OutcomeValue) → IsDemandFrame frame a → ¬ IsOutcomeFrame frame b
never_both frame a b f g =
    let wide : IsFrameOf (2 ^ 32 - 1) frame (demand_body a) = record { whole = f.frame.whole; within = omega (arith, f.frame.within) } in
    let first = same_front (demand_body a) a.agreements (framed_field a.content ++ words_text a.words)
    (b.status ∷ []) (framed_field b.output ++ (framed_field b.errors ++ files_text b.files))
    (omega (arith, f.frame.within)) refl (one_body (2 ^ 32 - 1) frame (demand_body a) (outcome_body b) wide g.frame) in
    let lengths : length a.agreements ≡ 1 = ap length first.0 in
    omega (arith, f.checksum)

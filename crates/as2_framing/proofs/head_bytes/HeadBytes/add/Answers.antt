use Rattle.std.proofs.Common.{ℕ, List, ◌++◌, take, rules, refl, sym, ap, ◌∙◌}
use Rattle.as2_framing.specs.Scanning.{scan_from}
use Rattle.as2_framing.proofs.Feeding.{added_none, added_some, rest_of}
use Rattle.as2_framing.proofs.head_bytes.HeadBytes.add.Goals as goal

pub returns-in_ok-extend_from_slice-in-Ended-clause-added : goal.returns-in_ok-extend_from_slice-in-Ended-clause-added
returns-in_ok-extend_from_slice-in-Ended-clause-added c = λ text holds.
    let same = rest_of c.blank_in-blank.result c.args.front.now in
    added_some c.args.self.now _ text c.args.front.now c.blank_in-blank.result c.in-Ended.count holds c.blank_in-blank.ensures.rest c.blank_in-blank.ensures.within (search rules)
    (sym (ap (scan_from 0 c.args.self.now.line) same) ∙ sym c.scan.ensures.exact ∙ c.in-Ended.is)
    (search rules ∙ ap (λ (t : List ℕ). c.args.self.now.text.items ++ take c.in-Ended.count t) same)

pub returns-in_ok-extend_from_slice-in-Open-clause-added : goal.returns-in_ok-extend_from_slice-in-Open-clause-added
returns-in_ok-extend_from_slice-in-Open-clause-added c = λ text holds.
    let same = rest_of c.blank_in-blank.result c.args.front.now in
    added_none c.args.self.now _ text c.args.front.now c.blank_in-blank.result c.in-Open.line holds c.blank_in-blank.ensures.rest c.blank_in-blank.ensures.within
    (sym (ap (scan_from 0 c.args.self.now.line) same) ∙ sym c.scan.ensures.exact ∙ c.in-Open.is)
    (search rules ∙ ap (λ (t : List ℕ). c.args.self.now.text.items ++ t) same) refl refl

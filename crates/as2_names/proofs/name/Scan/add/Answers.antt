use Rattle.std.proofs.Common.{◌≡◌, ◌++◌, ◌∷◌, [], length, ◌≤◌, arith, sym, ◌∙◌}
use Rattle.std.proofs.lemmas.Bool.{eqb-true, eqb-false}
use Rattle.std.proofs.lemmas.List.{take_all, take_at, length_push}
use Rattle.as2_names.proofs.name.Scan.add.Goals as goal
use Rattle.as2_names.proofs.name.Scan.add.Goals.{then-not-is_full, else-not-is_full}

pub returns-clause-kept : goal.returns-clause-kept
returns-clause-kept c =
    let old = c.args.self.now.kept.items in
    let fits : length old ≤ 128 = c.is_full.ensures.fits in
    elim c.if-not-is_full.branch [
      | then-not-is_full w ↦
          let not_full : length old ≡ 128 → ⊥ = eqb-false (length old) 128 (sym c.is_full.ensures.value ∙ w.if-not-is_full.true) in
          rw (w.self-is, w.push.ensures.items) (sym (take_all 128 (old ++ c.args.unit ∷ []) (omega (arith, length_push old c.args.unit))))
      | else-not-is_full w ↦
          let full : length old ≡ 128 = eqb-true (length old) 128 (sym c.is_full.ensures.value ∙ w.if-not-is_full.false) in
          rw w.self-is (sym (take_at old (c.args.unit ∷ []) 128 full))
    ]

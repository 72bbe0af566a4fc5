use Rattle.std.proofs.Common.{◌≡◌, ◌∙◌, length, sym, ap, subst, arith}
use Rattle.std.proofs.lemmas.Bool.Decides.{nat_tests}
use Rattle.std.proofs.lemmas.List.{length-map}
use Rattle.sqlite.specs.Held.{state}
use Rattle.as2_rows.specs.Waiting.{kind_code}
use Rattle.as2_store.specs.Due.{due_numbers, number_row}
use Rattle.as2_store.specs.Tables.{VersionThree}
use Rattle.as2_store.specs.Stands.{Stands, all_waiting}
use Rattle.as2_store.proofs.PassedTables.{documents_of, due_count, due_small, no_number, no_row, none_over, stands_passed, waits_of}
use Rattle.as2_store.proofs.Committing.{inside_at}
use Rattle.as2_store.proofs.expiring.pass_due.Goals as goal

pub returns-then-is_empty-clause-passed : goal.returns-then-is_empty-clause-passed
returns-then-is_empty-clause-passed g c clean way s stood =
    let old = state g.S.Store c.args.tx.now.conn.now in
    let new = state g.S.Store c.due_rows.new.tx.conn.now in
    let kind = kind_code c.args.wait in
    let found = c.in_ok-found.ensures.rows clean way s stood in
    let empty = c.if-is_empty.ensures in
    let zero : length c.as_slice-rows.result.now ≡ 0 = grind (arith, nat_tests) in
    let none = none_over kind c.args.moment c.args.detail c.requires.passes old s stood
    (no_number (due_numbers kind c.args.moment s) (sym (c.as_slice-rows.ensures.value ∙ found.1) ∙ no_row c.as_slice-rows.result.now zero)) in
    (subst (Stands (VersionThree way) new.now) (sym none.0) (subst (λ d. Stands (VersionThree way) d s) (sym found.0) stood), sym none.1)

pub returns-clause-passed : goal.returns-clause-passed
returns-clause-passed g c clean way s stood =
    let mid = state g.S.Store c.due_rows.new.tx.conn.now in
    let one = state g.S.Store c.pass_each.new.tx.conn.now in
    let last = state g.S.Store c.take_due.new.tx.conn.now in
    let kind = kind_code c.args.wait in
    let m = c.args.moment in
    let detail = c.args.detail in
    let was_one = c.take_due.ensures.within.clean clean in
    let was_mid = c.pass_each.ensures.within.clean was_one in
    let found = c.in_ok-found.ensures.rows was_mid way s stood in
    let still : Stands (VersionThree way) mid.now s = subst (λ d. Stands (VersionThree way) d s) (sym found.0) stood in
    let passed = c.in_ok-pass_each.ensures.put was_one way (due_numbers kind m s) s.outbox (due_small kind m mid s still)
    (c.as_slice-rows.ensures.value ∙ found.1) (documents_of mid.now s still) in
    let taken = c.in_ok-take_due.ensures.put clean way (all_waiting s) (waits_of mid one s _ still passed) in (
      stands_passed way kind m detail c.requires.passes mid one last s still passed taken,
      ap length (c.as_slice-rows.ensures.value ∙ found.1)
          ∙ length-map (due_numbers kind m s) number_row ∙ due_count kind m detail c.requires.passes s,
    )

pub returns-in_err-take_due-clause-within : goal.returns-in_err-take_due-clause-within
returns-in_err-take_due-clause-within g c =
    let old = state g.S.Store c.args.tx.now.conn.now in
    inside_at old (state g.S.Store c.pass_each.new.tx.conn.now) (state g.S.Store c.take_due.new.tx.conn.now) c.args.tx.now.at c.pass_each.new.tx.at
    (c.pass_each.ensures.place ∙ c.due_rows.ensures.place)
    (inside_at old (state g.S.Store c.due_rows.new.tx.conn.now)
    (state g.S.Store c.pass_each.new.tx.conn.now) c.args.tx.now.at c.due_rows.new.tx.at c.due_rows.ensures.place
    c.due_rows.ensures.within c.pass_each.ensures.within) c.take_due.ensures.within

pub returns-clause-within : goal.returns-clause-within
returns-clause-within g c =
    let old = state g.S.Store c.args.tx.now.conn.now in
    inside_at old (state g.S.Store c.pass_each.new.tx.conn.now) (state g.S.Store c.take_due.new.tx.conn.now) c.args.tx.now.at c.pass_each.new.tx.at
    (c.pass_each.ensures.place ∙ c.due_rows.ensures.place)
    (inside_at old (state g.S.Store c.due_rows.new.tx.conn.now)
    (state g.S.Store c.pass_each.new.tx.conn.now) c.args.tx.now.at c.due_rows.new.tx.at c.due_rows.ensures.place
    c.due_rows.ensures.within c.pass_each.ensures.within) c.take_due.ensures.within

pub returns-in_err-pass_each-clause-within : goal.returns-in_err-pass_each-clause-within
returns-in_err-pass_each-clause-within g c =
    inside_at (state g.S.Store c.args.tx.now.conn.now) (state g.S.Store c.due_rows.new.tx.conn.now)
    (state g.S.Store c.pass_each.new.tx.conn.now) c.args.tx.now.at c.due_rows.new.tx.at c.due_rows.ensures.place
    c.due_rows.ensures.within c.pass_each.ensures.within

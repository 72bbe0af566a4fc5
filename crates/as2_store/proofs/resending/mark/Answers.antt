use Rattle.std.proofs.Common.{◌≡◌, ◌≢◌, ◌∙◌, [], length, vec_len, map, sym, ap, arith}
use Rattle.std.proofs.lemmas.Bool.Decides.{nat_tests}
use Rattle.sqlite.specs.Held.{state}
use Rattle.as2_store.specs.Due.{number_row}
use Rattle.as2_store.specs.Resending.{tried_numbers}
use Rattle.as2_store.proofs.PassedTables.{no_number, no_row}
use Rattle.as2_store.proofs.ResentTables.{holds_resent, ready_tried, ready_untried}
use Rattle.as2_store.proofs.Committing.{inside_at}
use Rattle.as2_store.proofs.resending.mark.Goals as goal

pub returns-then-is_empty-clause-marked : goal.returns-then-is_empty-clause-marked
returns-then-is_empty-clause-marked g c clean way s stood =
    let old = state g.S.Store c.args.tx.now.conn.now in
    let new = state g.S.Store c.tried_rows.new.tx.conn.now in
    let n = c.args.number in
    let found = c.in_ok-found.ensures.rows clean way s stood in
    let len : vec_len c.in_ok-found.found ≡ 0 = grind (arith, nat_tests, c.is_empty.ensures, c.if-is_empty.true) in
    let none : c.in_ok-found.found.items ≡ [] = no_row _ (sym c.in_ok-found.found.ok.0 ∙ len) in
    ready_untried way old new s n stood found.0 (no_number (tried_numbers n s) (sym found.1 ∙ none))

pub returns-clause-marked : goal.returns-clause-marked
returns-clause-marked g c clean way s stood =
    let old = state g.S.Store c.args.tx.now.conn.now in
    let mid = state g.S.Store c.tried_rows.new.tx.conn.now in
    let one = state g.S.Store c.take_resent.new.tx.conn.now in
    let new = state g.S.Store c.put_resent.new.tx.conn.now in
    let n = c.args.number in
    let was_one = c.put_resent.ensures.within.clean clean in
    let found = c.in_ok-found.ensures.rows (c.take_resent.ensures.within.clean was_one) way s stood in
    let len : vec_len c.in_ok-found.found ≢ 0 = λ z. grind (arith, nat_tests, c.is_empty.ensures, c.if-is_empty.false, z) in
    let some : tried_numbers n s ≢ [] = λ none. len (c.in_ok-found.found.ok.0 ∙ ap length (found.1 ∙ ap (map number_row) none)) in
    let taken = c.in_ok-take_resent.ensures.put was_one way _ (holds_resent old mid s stood found.0) in
    let put = c.in_ok-put_resent.ensures.put clean way taken.schema_is in
    ready_tried way old mid one new s n stood found.0 some taken put

pub returns-clause-within : goal.returns-clause-within
returns-clause-within g c =
    let old = state g.S.Store c.args.tx.now.conn.now in
    inside_at old (state g.S.Store c.take_resent.new.tx.conn.now) (state g.S.Store c.put_resent.new.tx.conn.now) c.args.tx.now.at c.take_resent.new.tx.at
    (c.take_resent.ensures.place ∙ c.tried_rows.ensures.place)
    (inside_at old (state g.S.Store c.tried_rows.new.tx.conn.now)
    (state g.S.Store c.take_resent.new.tx.conn.now) c.args.tx.now.at c.tried_rows.new.tx.at c.tried_rows.ensures.place
    c.tried_rows.ensures.within c.take_resent.ensures.within) c.put_resent.ensures.within

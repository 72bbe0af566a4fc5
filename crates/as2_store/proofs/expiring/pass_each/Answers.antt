use Rattle.std.proofs.Common.{◌∙◌, ◌+◌, ◌<◌, map, take, get_or, length, refl, sym, ap, subst, arith}
use Rattle.std.proofs.lemmas.List.{length-map}
use Rattle.sqlite.specs.Held.{state}
use Rattle.sqlite.specs.Order.{column}
use Rattle.sql_tables.specs.Changes.{ChangesTable}
use Rattle.as2_rows.specs.Rows.{out_row}
use Rattle.as2_store.specs.Tables.{store_schema, outbox_tree}
use Rattle.as2_store.specs.Due.{number_row}
use Rattle.as2_store.specs.Expiring.{RewritesDocuments, passed_documents, passing_one}
use Rattle.as2_store.specs.Calls.{IsInside}
use Rattle.as2_store.proofs.Committing.{inside_then}
use Rattle.as2_store.proofs.Querying.{nothing_inside}
use Rattle.as2_store.proofs.PassedDocuments.{none_passed, one_more_passed}
use Rattle.as2_store.proofs.PassedTables.{all_passed, asked_number, none_rewritten, number_here, rewritten_more}
use Rattle.as2_store.proofs.expiring.pass_each.Goals as goal

pub rows-init : goal.rows-init
rows-init g c =
    let old = state g.S.Store c.args.tx.now.conn.now in (
      refl,
      refl,
      nothing_inside old,
      λ clean way ns ds small all held. subst (RewritesDocuments way old old) (sym (none_passed c.args.detail ds)) (none_rewritten way old ds held),
    )

pub rows-preserved : goal.rows-preserved
rows-preserved g c =
    let old = state g.S.Store c.args.tx.now.conn.now in
    let mid = state g.S.Store c.rows.tx.conn.now in
    let new = state g.S.Store c.pass.new.tx.conn.now in
    let so_far = c.rows.invariant in
    let detail = c.args.detail in
    let i = c.rows.row-index in (
      c.pass.ensures.same_reference ∙ so_far.0,
      c.pass.ensures.place ∙ so_far.1,
      inside_then old mid new so_far.2 (subst (λ at. IsInside (at + 1) mid new) so_far.1 c.pass.ensures.within),
      λ clean way ns ds small all held.
          let before = so_far.3 (c.pass.ensures.within.clean clean) way ns ds small all held in
          let n = get_or ns i 0 in
          let within : i < length ns = omega (arith, c.rows-test.true, ap length all, length-map ns number_row) in
          let shown = number_here c.args.rows.now ns i c.row-item.result c.in_ok-number.number all c.rows-test.true
          (ap (λ r. column r 0) (sym c.row-item.is) ∙ c.in_ok-number.ensures.ok.1) in
          let is = asked_number ns i c.in_ok-number.number c.asked.result small within shown c.asked.ensures.within in
          let one = subst (λ k. ChangesTable mid new (store_schema way) outbox_tree
          (map out_row (passing_one detail k (passed_documents detail (take i ns) ds)))) is
          (c.in_ok-pass.ensures.put clean way (passed_documents detail (take i ns) ds) before.holds) in
          subst (RewritesDocuments way old new) (one_more_passed detail ns i 0 within ds)
          (rewritten_more way old mid new detail n (passed_documents detail (take i ns) ds) before one),
    )

pub returns-clause-put : goal.returns-clause-put
returns-clause-put g c clean way ns ds small all held =
    let old = state g.S.Store c.args.tx.now.conn.now in
    let new = state g.S.Store c.rows.tx.conn.now in
    subst (RewritesDocuments way old new) (all_passed c.args.detail c.args.rows.now ns c.rows.row-index ds all (omega (arith, c.rows-test.false)))
    (c.rows.invariant.3 clean way ns ds small all held)

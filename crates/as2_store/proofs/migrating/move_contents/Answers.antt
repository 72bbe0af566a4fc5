use Rattle.as2_store.proofs.migrating.move_contents.Goals as goal

pub returns-clause-moved : goal.returns-clause-moved
returns-clause-moved g c clean s it =
    let was_3 = c.move_rest.ensures.within.clean clean in
    let was_2 = c.move_below-3.ensures.within.clean was_3 in
    let was_1 = c.move_below-2.ensures.within.clean was_2 in
    c.in_ok-move_rest.ensures.moved clean s
    (c.in_ok-move_below-3.ensures.moved was_3 s (c.in_ok-move_below-2.ensures.moved was_2 s (c.in_ok-move_below.ensures.moved was_1 s it)))

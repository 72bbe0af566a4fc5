use Rattle.as2_store.proofs.migrating.move_tables.Goals as goal

pub returns-clause-moved : goal.returns-clause-moved
returns-clause-moved g c clean layout s it which next =
    let near = c.in_ok-move_to.ensures.moved (c.raise_version.ensures.within.clean clean) layout s it which next in
    record {
      state = near.state;
      is = near.is;
      holds = record { way = near.way; stands = c.in_ok-raise_version.ensures.raised clean near.number near.way near.state near.stands };
    }

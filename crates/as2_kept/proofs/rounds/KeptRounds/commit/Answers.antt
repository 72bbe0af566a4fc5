use Rattle.std.proofs.Common.{sym, subst}
use Rattle.sqlite.specs.Held.{Held, state}
use Rattle.as2_records.specs.Rounds.{IsLost}
use Rattle.as2_kept.specs.Instance.{tables}
use Rattle.as2_kept.specs.Round.{standing_in_round}
use Rattle.as2_kept.proofs.Rounding.{lost}
use Rattle.as2_kept.proofs.rounds.KeptRounds.commit.Goals as goal

pub returns-in-Err-clause-lost : goal.returns-in-Err-clause-lost
returns-in-Err-clause-lost g c =
    let ends = c.commit.ensures.ends in
    let round = c.args.round in
    let left = c.lost-in-Err.result in
    subst (λ (h : Held g.row.S.Denot). IsLost {M = tables} (standing_in_round round.failures (state g.S.Store round.store))
    (standing_in_round left.failures (state g.S.Store h))) (sym c.lost-in-Err.ensures.store)
    (lost round.failures left.failures (state g.S.Store round.store) (state g.S.Store c.commit.new.self) c.lost-in-Err.ensures.failures ends.clean
    ends.survives.counts c.is_alone.result c.if-is_alone.false c.is_alone.ensures)

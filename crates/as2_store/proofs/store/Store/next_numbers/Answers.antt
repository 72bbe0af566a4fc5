use Rattle.std.proofs.Common.{ap}
use Rattle.sqlite.specs.Held.{state}
use Rattle.as2_store.proofs.ReadsBy.{read_of}
use Rattle.as2_store.proofs.store.Store.next_numbers.Goals as goal

pub returns-clause-numbers : goal.returns-clause-numbers
returns-clause-numbers g c = read_of _ _ _ _ _ (ap (state g.S.Store) c.self.view_is) c.next_numbers.ensures.numbers

use Rattle.std.proofs.Common.{◌≡◌, map, filter, take}
use Rattle.as2_exchange.specs.State.{is_settled}
use Rattle.as2_lists.proofs.outbox.settled_numbers.Given as goal

abbrev pub invariant-loop-document : goal.invariant-loop-document
invariant-loop-document l = l.numbers.items ≡ map (λ d. d.number) (filter is_settled (take l.document-index l.documents))

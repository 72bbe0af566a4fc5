use Rattle.std.proofs.Common.{◌∙◌, ℕ, List, Option, [], None, replicate, sym, ap, subst, arith}
use Rattle.as2_hub.specs.Places.{StandAfter}
use Rattle.as2_hub.specs.declared.talk.Talk.{Talk}
use Rattle.as2_hub.proofs.Standing.{vacant}
use Rattle.as2_hub.proofs.Within.{within_vacant}
use Rattle.as2_hub.proofs.hub.Hub.new.Goals as goal

pub returns-clause-stands : goal.returns-clause-stands
returns-clause-stands c = subst (λ (l : List (Option Talk)). StandAfter l []) (sym c.loop.invariant) (vacant c.loop.counter)

pub returns-clause-within : goal.returns-clause-within
returns-clause-within c = within_vacant _ (c.loop.invariant ∙ ap (λ (n : ℕ). replicate n None) (omega arith))

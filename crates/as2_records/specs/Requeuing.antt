-- A receipt is to be sent anew.
use Rattle.std.specs.Prelude.{ℕ, Option, Some}
use Rattle.as2_exchange.specs.Recording.{requeued_receipt}
use Rattle.as2_exchange.specs.State.{State, change_received}

-- the state once the receipt of the entry of this number, if there is one, is to be sent so
abbrev pub requeued_in : ℕ → ℕ → State → Option State
requeued_in n m s = Some (change_received s n (requeued_receipt m))

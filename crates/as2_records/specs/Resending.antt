-- A document is to be sent anew.
use Rattle.std.specs.Prelude.{ℕ, Option, option_map}
pub use Rattle.as2_exchange.specs.Documents.{queued_anew}
use Rattle.as2_exchange.specs.State.{State, document, change_document}

-- the state once the document of this number is queued so, if there is one
abbrev pub resent_in : ℕ → ℕ → State → Option State
resent_in n m s = option_map (λ _. change_document s n (queued_anew m)) (document s n)

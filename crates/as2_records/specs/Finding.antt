-- Which entry is looked for, and which numbers are next.
use Rattle.std.specs.Prelude.{◌≡◌, find, ℕ, List, Option}
use Rattle.as2_exchange.specs.State.{State, has_key}
use Rattle.as2_exchange.specs.declared.inbox.InEntry.{InEntry}
use Rattle.as2_records.specs.declared.numbers.NextNumbers.{NextNumbers}

-- what is found is the entry that this sender posted to this receiver under an identifier of this value, if there is one
abbrev pub IsPostedAs : List ℕ → List ℕ → List ℕ → State → Option InEntry → Type 0
IsPostedAs sender receiver value s found = found ≡ find (λ e. has_key sender receiver value e.posted) s.inbox

-- the numbers that the next entries get
pub record AreNext (next : NextNumbers) (s : State) : Type 0 where
  pub receipt : next.receipt ≡ s.next_in
  pub document : next.document ≡ s.next_out

-- Which calls of a device count as failed.
use Rattle.std.specs.Prelude.{◌≡◌, ◌<◌, ℕ, zero, suc, List, [], ◌∷◌, Result, Ok, Err}

-- a read, where it fails
abbrev pub pull_faults : {E : Type 0} → Result ℕ E → ℕ
pull_faults (Ok n) = 0
pull_faults (Err fault) = 1

-- a write of so many bytes of some, where it takes none
abbrev pub taken_faults : List ℕ → ℕ → ℕ
taken_faults [] n = 0
taken_faults (b ∷ bytes) zero = 1
taken_faults (b ∷ bytes) (suc n) = 0

-- a write, where it fails, or takes none of some bytes
abbrev pub push_faults : {E : Type 0} → List ℕ → Result ℕ E → ℕ
push_faults bytes (Ok n) = taken_faults bytes n
push_faults bytes (Err fault) = 1

-- a new ledger of that name and of so many parts, one at least, may be opened as that of a type
abbrev pub OpensLedger : ℕ → ℕ → ℕ → ℕ → Type 0
OpensLedger name parts of_type parts_of_type = (name ≡ of_type) × (parts ≡ parts_of_type) × (0 < parts)

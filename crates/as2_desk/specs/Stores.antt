-- The store of a command line: the one that is kept under its path, or one in memory.
use Rattle.std.specs.Prelude.{◌≡◌, ℕ, List, Bool, true, false, codes, ⊤}
use Rattle.std.specs.Str.{bytes_eq}
use Rattle.as2_exchange.specs.State.{LaterVersion, State, empty}
use Rattle.as2_host.specs.Stores.{MayCome}
use Rattle.as2_exchange.specs.declared.fault.StoreFault.TheVariants.{NotAStore}
use Rattle.as2_host.specs.declared.stores.OpenFault.{OpenFault}
use Rattle.as2_host.specs.declared.stores.OpenFault.TheVariants.{Store}

-- the path of a store in memory
abbrev pub is_in_memory : List ℕ → Bool
is_in_memory path = bytes_eq path (codes ":memory:")

-- the one of a store in memory, the other of one that is kept
abbrev pub ByPlace : Bool → Type 0 → Type 0 → Type 0
ByPlace true InMemory Kept = InMemory
ByPlace false InMemory Kept = Kept

-- The store begins with that state. One in memory begins with no entry, and this first number. Another begins with what is kept,
-- or is made with that number (Keeps). Its medium returned what was written until the store was closed (Clean).
abbrev pub StoreBegins : List ℕ → ℕ → Type 0 → (ℕ → State → Type 0) → State → Type 0
StoreBegins path first Clean Keeps s = ByPlace (is_in_memory path) (s ≡ empty (LaterVersion 0) first) (Keeps first s × Clean)

-- that state is kept once the store is closed, whatever number is given from then on (Keeps); one in memory is kept nowhere
abbrev pub IsKeptAt : List ℕ → (ℕ → State → Type 0) → State → Type 0
IsKeptAt path Keeps s = ByPlace (is_in_memory path) ⊤ ((first : ℕ) → Keeps first s)

-- how many stores are opened for that path, beside one in memory
abbrev pub opens_at : Bool → ℕ
opens_at true = 0
opens_at false = 1

-- why no store is open: in memory, a fault that may come of any call; else that for which what is kept can't be opened (Fails)
abbrev pub IsFaultAt : List ℕ → (OpenFault → Type 0) → OpenFault → Type 0
IsFaultAt path Fails fault = ByPlace (is_in_memory path) (MayCome fault) (Fails fault)

-- why a store isn't migrated: one in memory is none; else that for which what is kept stays as it is (Stays)
abbrev pub IsStayAt : List ℕ → (OpenFault → Type 0) → OpenFault → Type 0
IsStayAt path Stays fault = ByPlace (is_in_memory path) (fault ≡ Store NotAStore) (Stays fault)

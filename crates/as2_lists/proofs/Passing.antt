-- A moment passes over the documents, one after the other.
use Rattle.std.proofs.Common.{◌≡◌, ℕ, suc, zero, ◌<◌, List, [], ◌∷◌, ◌++◌, map, take, drop, length, get_or, refl, arith}

-- those behind the ones that were changed are as they were
pub still_there : {X : Type 0} (f : X → X) (xs : List X) (i : ℕ) (d : X) → i < length xs → get_or (map f (take i xs) ++ drop i xs) i d ≡ get_or xs i d
still_there f [] i d lt = absurd (omega arith)
still_there f (x ∷ xs) zero d lt = refl
still_there f (x ∷ xs) (suc i) d lt = still_there f xs i d (omega arith)

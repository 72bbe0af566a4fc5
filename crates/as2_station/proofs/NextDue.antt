-- What is to be sent next.
use Rattle.std.proofs.Common.{◌≡◌, ℕ, Option, Result, sym, subst}
use Rattle.as2_records.specs.Standing.{Medium, Standing}
use Rattle.as2_exchange.specs.Due.{IsNext, next}
use Rattle.as2_exchange.specs.declared.fault.StoreFault.{StoreFault}
use Rattle.as2_exchange.specs.declared.next.Next.{Next}
use Rattle.as2_records.specs.Calls.{Reads}
use Rattle.as2_exchange.proofs.Least.{next_is}
use Rattle.as2_records.proofs.Following.{reads_less}

-- what is next is due, and of the least number
pub is_least : {M : Medium} (m : ℕ) (old new : Standing M) (r : Result (Option Next) StoreFault) → Reads (λ s found. found ≡ next s m) old new r
    → Reads (λ s found. IsNext s m found) old new r
is_least m old new r it =
    reads_less (λ s found. IsNext s m found) (λ s found. found ≡ next s m) old new r (λ s found rests is. subst (IsNext s m) (sym is) (next_is s m)) it

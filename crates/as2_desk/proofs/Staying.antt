-- Why a store isn't migrated.
use Rattle.std.proofs.Common.{◌≡◌, ℕ, Bool, List, true, false, Result, Ok, Err, IfErr, refl, sym, subst}
use Rattle.as2_exchange.specs.declared.fault.StoreFault.TheVariants.{NotAStore}
use Rattle.as2_host.specs.declared.stores.OpenFault.{OpenFault}
use Rattle.as2_host.specs.declared.stores.OpenFault.TheVariants.{Store}
use Rattle.as2_desk.specs.Stores.{ByPlace, IsStayAt, is_in_memory}

-- one in memory is no store
pub stays_in_memory : (path : List ℕ) (Stays : OpenFault → Type 0) → is_in_memory path ≡ true → IsStayAt path Stays (Store NotAStore)
stays_in_memory path Stays is = subst (λ (b : Bool). ByPlace b (Store NotAStore ≡ Store NotAStore) (Stays (Store NotAStore))) (sym is) refl

-- what is kept has a fault of its own
pub stays_kept : {A : Type 0} (path : List ℕ) (Stays : OpenFault → Type 0) (r : Result A OpenFault) → is_in_memory path ≡ false → IfErr r Stays
    → IfErr r (IsStayAt path Stays)
stays_kept path Stays (Ok a) away it = tt
stays_kept path Stays (Err fault) away it = subst (λ (b : Bool). ByPlace b (fault ≡ Store NotAStore) (Stays fault)) (sym away) it

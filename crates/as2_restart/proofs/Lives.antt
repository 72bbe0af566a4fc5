-- What was done before a stop, and after it.
use Rattle.std.proofs.Common.{◌≡◌, ◌∙◌, ℕ, true, List, [], ◌∷◌, Option, Some, None, refl, sym, ap, subst}
use Rattle.std.specs.Prelude.{IsSomeAnd}
use Rattle.as2_mdn.specs.Details.{class_of}
use Rattle.as2_mdn.specs.declared.detail.DetailClass.TheVariants.{S}
use Rattle.as2_exchange.specs.Agreement.{Agreements}
use Rattle.as2_exchange.specs.Invariants.{IsCounter, IsEntry, IsWellFormed, is_by_receipt}
use Rattle.as2_exchange.specs.Run.{Trace, Run}
use Rattle.as2_exchange.specs.State.{State, Version, document, empty, is_settled}
use Rattle.as2_exchange.specs.declared.outbox.OutEntry.{OutEntry}
use Rattle.as2_exchange.proofs.Finds.{all_found}
use Rattle.as2_exchange.proofs.Lists.{all_map}
use Rattle.as2_exchange.proofs.Success.{class_of_success}
use Rattle.as2_station.specs.Theorem.{EndsByHistory, IsSuccessful}
use Rattle.as2_station.proofs.ByHistory.{ends_by_history, run_then, stands_by_history}
use Rattle.as2_restart.specs.Restarts.{ComesInTurn}

pub one : (A : Agreements) (lists : List Trace) (events : Trace) (s t : State) → ComesInTurn A lists events s t → Run A s events t
one A [] events s t it = subst (λ (l : Trace). Run A s l t) (sym it.0) it.1
one A (told ∷ rest) events s u it = subst (λ (l : Trace). Run A s l u) (sym it.3) (run_then A s it.0 u it.1.events it.2 it.1.run (one A rest it.2 it.0 u it.4))

pub one_by_history : (A : Agreements) (lists : List Trace) (events : Trace) (s t : State) → ComesInTurn A lists events s t → EndsByHistory A s events t
one_by_history A lists events s t it = ends_by_history A s events t (one A lists events s t it)

-- a receipt settled what is successful
settled : (A : Agreements) (s : State) (k : ℕ) (d : OutEntry) → IsWellFormed A s → document s k ≡ Some d → class_of d.detail ≡ S → is_settled d ≡ true
settled A s k d formed is successful =
    let entry : IsEntry d = all_found IsEntry (λ (e : OutEntry). e) _ s.outbox d
    (all_map IsEntry (λ (e : OutEntry). e) (λ e it. it) s.outbox formed.sent.entries) is in
    entry.evidence ∙ ap is_by_receipt ((class_of_success d.detail).0 successful)

as_it_stood : (d : OutEntry) (o : Option OutEntry) → class_of d.detail ≡ S → IsSomeAnd o (λ (e : OutEntry). (e.detail ≡ d.detail) × (e.evidence ≡ d.evidence))
    → IsSomeAnd o (λ (e : OutEntry). class_of e.detail ≡ S)
as_it_stood d None successful same = absurd same
as_it_stood d (Some e) successful same = ap class_of same.0 ∙ successful

stays : (A : Agreements) (v : Version) (first : ℕ) (before more : Trace) (s t : State) (k : ℕ) (o : Option OutEntry) → document s k ≡ o → IsCounter first
    → Run A (empty v first) before s → Run A s more t
    → IsSomeAnd o (λ (d : OutEntry). class_of d.detail ≡ S) → IsSuccessful t k
stays A v first before more s t k None is counter run on successful = absurd successful
stays A v first before more s t k (Some d) is counter run on successful =
    let stood = stands_by_history A v first before s counter run in
    as_it_stood d (document t k) successful (stood.settled k d is (settled A s k d stood.formed is successful) more t on)

pub successful : (A : Agreements) (v : Version) (first : ℕ) (before : Trace) (lists : List Trace) (events : Trace) (s t : State) (k : ℕ) → IsCounter first
    → Run A (empty v first) before s → ComesInTurn A lists events s t → IsSuccessful s k → IsSuccessful t k
successful A v first before lists events s t k counter run it = stays A v first before events s t k (document s k) refl counter run (one A lists events s t it)

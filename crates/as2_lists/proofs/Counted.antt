-- Each change leaves a state counted.
use Rattle.std.proofs.Common.{◌≡◌, ℕ, ◌+◌, ◌<◌, ◌≤◌, Bool, true, false, List, [], ◌∷◌, ◌++◌, map, refl, sym, ap, ◌∙◌, subst, arith}
use Rattle.std.specs.Prelude.{◌==◌, if◌then◌else◌}
use Rattle.std.specs.List.{IsDistinct}
use Rattle.as2_exchange.specs.State.{LaterVersion, State, empty, end_of_numbers}
use Rattle.as2_exchange.specs.declared.inbox.InEntry.{InEntry}
use Rattle.as2_exchange.specs.declared.outbox.OutEntry.{OutEntry}
use Rattle.as2_exchange.specs.Invariants.{IsCounter, AreNumbers}
use Rattle.as2_exchange.proofs.Lists.{map_last, map_kept}
use Rattle.as2_exchange.proofs.WellFormed.{numbers_push}
use Rattle.as2_records.specs.Adding.{with_received, with_document}
use Rattle.as2_records.specs.Standing.{IsCounted}

-- ---- none

no_numbers : (next : ℕ) → AreNumbers next []
unfolding IsDistinct
no_numbers next = record { below = tt; distinct = tt; in_order = tt }

pub empty_counted : (first : ℕ) → 1 ≤ first → first < end_of_numbers → IsCounted (empty (LaterVersion 0) first)
empty_counted first least most = record {
  receipts = (record { least = least; most = omega (arith, most) }, no_numbers first);
  documents = (record { least = least; most = omega (arith, most) }, no_numbers first);
}

-- ---- an entry more

one_more : (n : ℕ) → n < end_of_numbers → IsCounter n → IsCounter (n + 1)
one_more n small h = record { least = omega (arith, h.least); most = omega arith }

numbers_more : {X : Type 0} (number : X → ℕ) (next : ℕ) (xs : List X) (x : X) → number x ≡ next → AreNumbers next (map number xs)
    → AreNumbers (next + 1) (map number (xs ++ x ∷ []))
numbers_more number next xs x is h =
    subst (AreNumbers (next + 1)) (sym (map_last number xs x ∙ ap (λ k. map number xs ++ k ∷ []) is)) (numbers_push next (map number xs) h)

pub received_counted : (s : State) (e : InEntry) → e.number ≡ s.next_in → s.next_in < end_of_numbers → IsCounted s → IsCounted (with_received s e)
received_counted s e is small h = record {
  receipts = (one_more s.next_in small h.receipts.0, numbers_more (λ (x : InEntry). x.number) s.next_in s.inbox e is h.receipts.1);
  documents = h.documents;
}

pub document_counted : (s : State) (d : OutEntry) → d.number ≡ s.next_out → s.next_out < end_of_numbers → IsCounted s → IsCounted (with_document s d)
document_counted s d is small h = record {
  receipts = h.receipts;
  documents = (one_more s.next_out small h.documents.0, numbers_more (λ (x : OutEntry). x.number) s.next_out s.outbox d is h.documents.1);
}

-- ---- entries that keep their numbers

either_kept : {X : Type 0} (number : X → ℕ) (b : Bool) (x y : X) → number x ≡ number y → number (if b then x else y) ≡ number y
either_kept number true x y h = h
either_kept number false x y h = refl

numbers_kept : {X : Type 0} (number : X → ℕ) (next : ℕ) (f : X → X) → ((x : X) → number (f x) ≡ number x) → (xs : List X) → AreNumbers next (map number xs)
    → AreNumbers next (map number (map f xs))
numbers_kept number next f kept xs h = subst (AreNumbers next) (sym (map_kept number f kept xs)) h

pub inbox_counted : (s : State) (f : InEntry → InEntry) → ((e : InEntry) → (f e).number ≡ e.number) → IsCounted s
    → IsCounted (record s { inbox = map f s.inbox })
inbox_counted s f kept h = record {
  receipts = (h.receipts.0, numbers_kept (λ (e : InEntry). e.number) s.next_in f kept s.inbox h.receipts.1);
  documents = h.documents;
}

pub outbox_counted : (s : State) (f : OutEntry → OutEntry) → ((d : OutEntry) → (f d).number ≡ d.number) → IsCounted s
    → IsCounted (record s { outbox = map f s.outbox })
outbox_counted s f kept h = record {
  receipts = h.receipts;
  documents = (h.documents.0, numbers_kept (λ (d : OutEntry). d.number) s.next_out f kept s.outbox h.documents.1);
}

pub one_received_counted : (s : State) (n : ℕ) (f : InEntry → InEntry) → ((e : InEntry) → (f e).number ≡ e.number) → IsCounted s
    → IsCounted (record s { inbox = map (λ e. if e.number == n then f e else e) s.inbox })
one_received_counted s n f kept h =
    inbox_counted s (λ e. if e.number == n then f e else e) (λ e. either_kept (λ (x : InEntry). x.number) (e.number == n) (f e) e (kept e)) h

pub one_document_counted : (s : State) (n : ℕ) (f : OutEntry → OutEntry) → ((d : OutEntry) → (f d).number ≡ d.number) → IsCounted s
    → IsCounted (record s { outbox = map (λ d. if d.number == n then f d else d) s.outbox })
one_document_counted s n f kept h =
    outbox_counted s (λ d. if d.number == n then f d else d) (λ d. either_kept (λ (x : OutEntry). x.number) (d.number == n) (f d) d (kept d)) h

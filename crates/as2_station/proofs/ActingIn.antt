-- An act on a received entry that is found.
use Rattle.std.proofs.Common.{◌≡◌, ◌∙◌, List, Some, ap, ap₂}
use Rattle.as2_exchange.specs.State.{State, received_entry, change_received}
use Rattle.as2_exchange.specs.Step.{act_in, on_received}
use Rattle.as2_exchange.specs.declared.answer.Answer.{Answer}
use Rattle.as2_exchange.specs.declared.inbox.InEntry.{InEntry}
use Rattle.as2_exchange.proofs.Refusing.{left_as_is}
use Rattle.as2_records.specs.Standing.{IsCounted}
use Rattle.as2_station.proofs.Numbers.{changes_alike}

module _ (s : State) (e : InEntry) (stands : IsCounted s) (found : received_entry s e.number ≡ Some e) (act : InEntry → Answer × InEntry) (a : Answer) where
  -- it leaves it
  pub leaves_in : act e ≡ (a, e) → on_received s e.number act ≡ (a, s)
  leaves_in is =
      ap (act_in s e.number act) found
      ∙ ap₂ (λ (x : Answer) (es : List InEntry). (x, record s { inbox = es })) (ap (λ y. y.0) is)
      (left_as_is (λ (x : InEntry). x.number) (λ x. (act x).1) e.number e s.inbox stands.receipts.1.distinct found (ap (λ y. y.1) is))

  -- or changes it so
  pub changes_in : (g : InEntry → InEntry) → act e ≡ (a, g e) → on_received s e.number act ≡ (a, change_received s e.number g)
  changes_in g is =
      ap (act_in s e.number act) found
      ∙ ap₂ (λ (x : Answer) (es : List InEntry). (x, record s { inbox = es })) (ap (λ y. y.0) is)
      (changes_alike (λ (x : InEntry). x.number) (λ x. (act x).1) g e.number e s.inbox stands.receipts.1.distinct found (ap (λ y. y.1) is))

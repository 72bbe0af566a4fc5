-- Worked rows of what is next.
use Rattle.std.proofs.Common.{◌≡◌, ℕ, List, [], ◌∷◌, Option, Some, None, refl}
use Rattle.std.specs.Prelude.{nat_le, codes, option_map}
use Rattle.as2_names.specs.Identifiers.{without_brackets as bare}
use Rattle.as2_exchange.specs.Detail.{Detail, Sending, Awaiting, Attempt, Idle, Running, Last}
use Rattle.as2_exchange.specs.Readings.{value_of}
use Rattle.as2_exchange.specs.State.{LaterVersion, State, OutEntry}
use Rattle.as2_exchange.specs.Events.{Event, Post, Begin, Outcome, BeginReceipt, OutcomeReceipt, NoAnswer}
use Rattle.as2_exchange.specs.Documents.{begun_document, closed_document, submit}
use Rattle.as2_exchange.specs.Due.{next}
use Rattle.as2_exchange.specs.OwedReceipts.{begun_receipt, closed_receipt}
use Rattle.as2_exchange.specs.Recording.{record_post, answer_to}
use Rattle.as2_exchange.specs.declared.next.Next.{Next}
use Rattle.as2_exchange.specs.declared.next.Next.TheVariants.{Receipt, Document}
use Rattle.as2_exchange.proofs.Fixture.{buyer, abc, post_head, m1, return_head, p1_from_depot}
use Rattle.as2_exchange.proofs.Rows.{play, submit_to, new_store}

-- what is next at two moments
abbrev next_at : ℕ → ℕ → State → Option Next × Option Next
next_at m n s = (next s m, next s n)

-- what is looked at after events
seen : {X : Type 0} → (State → X) → State → List Event → Option X
unfolding play
seen view s es = option_map (λ r. r.1) (play view s es)

abbrev standing : ℕ → ℕ → Attempt → Option ℕ → Detail → OutEntry
standing n tries attempt due detail = record {
  number = n;
  organization = codes "Supplier";
  partner = codes "Depot";
  id = codes "<out-1@station.example>";
  content = abc;
  moment = 1000;
  begun = nat_le 1 tries;
  tries = tries;
  attempt = attempt;
  due = due;
  detail = detail;
  evidence = None;
}

-- a document that is awaited, one whose last try is open, and one whose first try is
abbrev under_way : State
under_way = record {
  version = LaterVersion 0;
  inbox = [];
  outbox = standing 3 1 Idle (Some 1000) Awaiting ∷ standing 4 2 Last (Some 1000) Sending ∷ standing 5 1 Running (Some 1031) Sending ∷ [];
  next_in = 1;
  next_out = 6;
}

-- which of them may be begun, at two moments
due_of_them : next_at 1031 1030 under_way ≡ (Some (Document 5), None)
due_of_them = refl

-- a document is due when its retry is, and not a second before
retry_is_next : (seen (next_at 1029 1030) new_store (submit_to buyer ∷ Begin 1 1000 ∷ Outcome 1 NoAnswer 1000 ∷ []) ≡ Some (None, Some (Document 1)))
unfolding seen play submit begun_document closed_document
retry_is_next = refl

-- of two documents the one of the smaller number goes first
least_is_next : seen (next_at 1000 1000) new_store (submit_to buyer ∷ submit_to buyer ∷ []) ≡ Some (Some (Document 1), Some (Document 1))
unfolding seen play submit
least_is_next = refl

-- a receipt goes before a document
receipt_is_next : seen (next_at 1000 1000) new_store (submit_to buyer ∷ Post (post_head (codes "Depot") m1 return_head) abc 1000 ∷ [])
    ≡ Some (Some (Receipt 1), Some (Receipt 1))
unfolding seen play submit record_post answer_to value_of bare
receipt_is_next = rw p1_from_depot refl

-- a receipt that failed is due again after thirty seconds; sent, it is queued again by a repeat
receipt_is_due_again : (seen (next_at 1029 1030) new_store
    (Post (post_head (codes "Depot") m1 return_head) abc 1000 ∷ BeginReceipt 1 1000 ∷ OutcomeReceipt 1 NoAnswer 1000 ∷ [])
    ≡ Some (None, Some (Receipt 1)))
unfolding seen play record_post answer_to begun_receipt closed_receipt value_of bare
receipt_is_due_again = rw p1_from_depot refl

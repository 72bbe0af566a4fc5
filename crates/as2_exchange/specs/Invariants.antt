-- What holds in every state that a run leads to.
use Rattle.std.specs.Prelude.{◌≡◌, ℕ, ◌<◌, ◌≤◌, Bool, true, false, ◌==◌, nat_lt, List, map, None, is_some}
use Rattle.std.specs.List.{AllByRecursion, IsDistinct}
use Rattle.std.specs.Str.{bytes_eq}
use Rattle.as2_exchange.specs.Agreement.{Agreements}
use Rattle.as2_exchange.specs.Detail.{Detail, New, Sending, Awaiting, Retry, Processed, NoReceiptAsked, Warning, NoMic, UnknownMic, NotProcessed, ErrorModifier, MicDiffers, TriesUsed, Overdue, Idle}
use Rattle.as2_exchange.specs.Readings.{is_processed, value_of, out_id}
use Rattle.as2_exchange.specs.State.{State, Posted, InEntry, OutEntry, end_of_numbers, same_key, is_settled}

-- the next number, or the end of numbers once all are given
pub record IsCounter (next : ℕ) : Type 0 where
  pub least : 1 ≤ next
  pub most : next ≤ end_of_numbers

-- the numbers that were given before the next one: each is below it, no two are the same, and none stands behind a
-- greater one
pub record AreNumbers (next : ℕ) (numbers : List ℕ) : Type 0 where
  pub below : AllByRecursion (λ n. n < next) numbers
  pub distinct : IsDistinct (λ a b. a == b) numbers
  pub in_order : IsDistinct (λ a b. nat_lt b a) numbers

-- digest and MIC are there exactly for a processed document
abbrev pub IsRecorded : Posted → Type 0
IsRecorded p = is_some p.mic ≡ is_processed p.outcome

-- the inbox: numbers and keys are distinct
pub record IsInbox (next : ℕ) (inbox : List InEntry) : Type 0 where
  pub counter : IsCounter next
  pub numbers : AreNumbers next (map (λ e. e.number) inbox)
  pub keys : IsDistinct same_key (map (λ e. e.posted) inbox)
  pub recorded : AllByRecursion IsRecorded (map (λ e. e.posted) inbox)

-- a receipt alone gives this detail
abbrev pub is_by_receipt : Detail → Bool
is_by_receipt New = false
is_by_receipt Sending = false
is_by_receipt Awaiting = false
is_by_receipt Retry = false
is_by_receipt Processed = true
is_by_receipt NoReceiptAsked = false
is_by_receipt Warning = true
is_by_receipt NoMic = true
is_by_receipt UnknownMic = true
is_by_receipt NotProcessed = true
is_by_receipt ErrorModifier = true
is_by_receipt MicDiffers = true
is_by_receipt TriesUsed = false
is_by_receipt Overdue = false

-- A document has evidence exactly where a receipt gave its detail. Then no try is open, and nothing is waited for. One that
-- was tried is begun.
pub record IsEntry (d : OutEntry) : Type 0 where
  pub evidence : is_settled d ≡ is_by_receipt d.detail
  pub at_rest : is_settled d ≡ true → (d.attempt ≡ Idle) × (d.due ≡ None)
  pub tried : 1 ≤ d.tries → d.begun ≡ true

-- the outbox: numbers and identifiers' values are distinct, and each identifier is that of its number
pub record IsOutbox (A : Agreements) (next : ℕ) (outbox : List OutEntry) : Type 0 where
  pub counter : IsCounter next
  pub numbers : AreNumbers next (map (λ d. d.number) outbox)
  pub named : AllByRecursion (λ d. d.id ≡ out_id A d.number) outbox
  pub identifiers : IsDistinct bytes_eq (map (λ d. value_of d.id) outbox)
  pub entries : AllByRecursion IsEntry outbox

-- the state is well formed
pub record IsWellFormed (A : Agreements) (s : State) : Type 0 where
  pub received : IsInbox s.next_in s.inbox
  pub sent : IsOutbox A s.next_out s.outbox

-- no two entries of a box have the same number
pub record HasDistinctNumbers (s : State) : Type 0 where
  pub received : IsDistinct (λ a b. a == b) (map (λ e. e.number) s.inbox)
  pub sent : IsDistinct (λ a b. a == b) (map (λ d. d.number) s.outbox)

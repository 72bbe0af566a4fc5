-- What is due, and what is to be sent next.
use Rattle.std.specs.Prelude.{◌≡◌, ℕ, ◌≤◌, IsTrue, ◌==◌, Bool, true, false, ◌&&◌, List, [], ◌∷◌, map, nat_le, if◌then◌else◌, Option, Some, None}
use Rattle.std.specs.List.{AllByRecursion, filter, list_any}
use Rattle.as2_exchange.specs.Detail.{Detail, New, Sending, Retry, Attempt, Idle, Running, ReceiptStage, Pending}
use Rattle.as2_exchange.specs.State.{State, InEntry, OutEntry}
use Rattle.as2_exchange.specs.Tries.{is_due}
use Rattle.as2_exchange.specs.declared.next.Next.{Next}
use Rattle.as2_exchange.specs.declared.next.Next.TheVariants.{Receipt, Document}

-- a try of such a document may begin once its moment has come
abbrev pub may_begin : Detail → Attempt → Bool
may_begin New attempt = true
may_begin Retry attempt = true
may_begin Sending Running = true
may_begin detail attempt = false

-- a try of the document may begin at this moment
abbrev pub is_due_document : ℕ → OutEntry → Bool
is_due_document m d = may_begin d.detail d.attempt && is_due m d.due

-- the numbers of the documents that are to be sent at this moment
abbrev pub due_documents : State → ℕ → List ℕ
due_documents s m = map (λ d. d.number) (filter (is_due_document m) s.outbox)

-- a try of such a receipt may begin once its moment has come
abbrev pub receipt_may_begin : ReceiptStage → Attempt → Bool
receipt_may_begin Pending Idle = true
receipt_may_begin Pending Running = true
receipt_may_begin receipt_stage attempt = false

-- a try of the receipt may begin at this moment
abbrev pub is_due_receipt : ℕ → InEntry → Bool
is_due_receipt m e = receipt_may_begin e.receipt_stage e.attempt && is_due m e.due

-- the numbers of the receipts that are to be sent at this moment
abbrev pub due_receipts : State → ℕ → List ℕ
due_receipts s m = map (λ e. e.number) (filter (is_due_receipt m) s.inbox)

-- the smaller of the two, where there are two
abbrev pub smaller : ℕ → Option ℕ → ℕ
smaller n None = n
smaller n (Some k) = if nat_le n k then n else k

-- the least of the numbers
abbrev pub least : List ℕ → Option ℕ
least [] = None
least (n ∷ ns) = Some (smaller n (least ns))

-- the number is one of them, and none is smaller; without a number, there are none
abbrev pub IsLeast : List ℕ → Option ℕ → Type 0
IsLeast ns None = ns ≡ []
IsLeast ns (Some n) = IsTrue (list_any (λ k. k == n) ns) × AllByRecursion (λ k. n ≤ k) ns

-- a receipt, else a document, else nothing
abbrev pub next_of : Option ℕ → Option ℕ → Option Next
next_of (Some n) document = Some (Receipt n)
next_of None (Some n) = Some (Document n)
next_of None None = None

-- what is to be sent next: the due receipt of the least number, else the due document of the least number
abbrev pub next : State → ℕ → Option Next
next s m = next_of (least (due_receipts s m)) (least (due_documents s m))

-- What may be told to be next: a due receipt of the least number. Where no receipt is due, a due document of the least
-- number. Where neither is due, nothing.
abbrev pub IsNext : State → ℕ → Option Next → Type 0
IsNext s m None = (due_receipts s m ≡ []) × (due_documents s m ≡ [])
IsNext s m (Some (Receipt n)) = IsLeast (due_receipts s m) (Some n)
IsNext s m (Some (Document n)) = (due_receipts s m ≡ []) × IsLeast (due_documents s m) (Some n)

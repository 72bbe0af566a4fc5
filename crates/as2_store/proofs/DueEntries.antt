-- What is due is what waits so, and whose moment has come: documents to be sent, and receipts.
use Rattle.std.proofs.Common.{◌≡◌, ℕ, ◌==◌, ◌&&◌, List, [], ◌∷◌, ◌++◌, map, filter, Option, option_map, Some, None, IfSome, Bool, true, false, cond, refl, sym, ap, ap₂, ◌∙◌, arith, append-nil}
use Rattle.std.specs.List.{AllByRecursion, cons_option, filter_map}
use Rattle.std.proofs.lemmas.Bool.Decides.{nat_tests}
use Rattle.std.proofs.lemmas.List.Elements.{filter-append, filter_agree}
use Rattle.as2_mdn.specs.declared.detail.Detail.{Detail}
use Rattle.as2_mdn.specs.declared.detail.Detail.TheVariants.{New, Sending, Awaiting, Retry, Processed, NoReceiptAsked, Warning, NoMic, UnknownMic, NotProcessed, ErrorModifier, MicDiffers, TriesUsed, Overdue}
use Rattle.as2_exchange.specs.State.{State}
use Rattle.as2_exchange.specs.Tries.{is_due}
use Rattle.as2_exchange.specs.Due.{due_documents, due_receipts, is_due_document, is_due_receipt, may_begin, receipt_may_begin}
use Rattle.as2_exchange.specs.declared.attempt.Attempt.{Attempt}
use Rattle.as2_exchange.specs.declared.attempt.Attempt.TheVariants.{Idle, Running, Last, Used}
use Rattle.as2_exchange.specs.declared.inbox.InEntry.{InEntry}
use Rattle.as2_exchange.specs.declared.inbox.ReceiptStage.{ReceiptStage}
use Rattle.as2_exchange.specs.declared.inbox.ReceiptStage.TheVariants.{Pending, Sent, Unasked}
use Rattle.as2_exchange.specs.declared.outbox.OutEntry.{OutEntry}
use Rattle.as2_rows.specs.Waiting.{WaitingRow, in_kind, out_kind, in_waiting, waiting_in, waiting_out, to_send, to_send_receipt, to_hear, to_end}
use Rattle.as2_store.specs.Stands.{documents_waiting}
use Rattle.as2_store.specs.Due.{due_numbers}
use Rattle.as2_store.specs.Expiring.{over, waits_for}
use Rattle.as2_store.proofs.WaitingRows.{IsLast, kind_is_last}

-- ---- what waits so, and is due

module _ (wanted m : ℕ) where
  abbrev is_wanted : WaitingRow → Bool
  is_wanted w = w.kind == wanted && is_due m w.due

  -- of entries, each of which waits for one thing or for none
  module _ {X : Type 0} (number : X → ℕ) (kind_of due : X → Option ℕ) where
    abbrev row_of : X → Option WaitingRow
    row_of x = option_map (λ kind. record { kind = kind; number = number x; due = due x }) (kind_of x)

    abbrev is_due_so : X → Bool
    is_due_so x = waits_for wanted (kind_of x) && is_due m (due x)

    each : (xs : List X) → map (λ w. w.number) (filter is_wanted (filter_map row_of xs)) ≡ map number (filter is_due_so xs)
    each [] = refl
    each (x ∷ xs) = go (kind_of x) (each xs)
      where
        go : (o : Option ℕ) → map (λ w. w.number) (filter is_wanted (filter_map row_of xs)) ≡ map number (filter is_due_so xs)
            → map (λ w. w.number) (filter is_wanted
            (cons_option (option_map (λ kind. record { kind = kind; number = number x; due = due x }) o) (filter_map row_of xs))) ≡ map number
            (cond (waits_for wanted o && is_due m (due x)) (x ∷ filter is_due_so xs) (filter is_due_so xs))
        go None rest = rest
        go (Some kind) rest = by (kind == wanted && is_due m (due x))
          where
            by : (t : Bool)
                → map (λ w. w.number) (cond t (record { kind = kind; number = number x; due = due x } ∷ filter is_wanted (filter_map row_of xs))
                (filter is_wanted (filter_map row_of xs))) ≡ map number (cond t (x ∷ filter is_due_so xs) (filter is_due_so xs))
            by true = ap (λ l. number x ∷ l) rest
            by false = rest

  -- of those that wait so all that is wanted is kept
  kept : (ws : List WaitingRow) → filter is_wanted (filter (λ w. w.kind == wanted) ws) ≡ filter is_wanted ws
  kept [] = refl
  kept (w ∷ ws) = go (w.kind == wanted) refl (kept ws)
    where
      go : (t : Bool) → (w.kind == wanted) ≡ t → filter is_wanted (filter (λ w. w.kind == wanted) ws) ≡ filter is_wanted ws
          → filter is_wanted (cond t (w ∷ filter (λ w. w.kind == wanted) ws) (filter (λ w. w.kind == wanted) ws)) ≡ cond
          ((w.kind == wanted) && is_due m w.due) (w ∷ filter is_wanted ws) (filter is_wanted ws)
      go true is rest = ap (λ t. cond (t && is_due m w.due) (w ∷ filter is_wanted (filter (λ w. w.kind == wanted) ws))
          (filter is_wanted (filter (λ w. w.kind == wanted) ws))) is
          ∙ ap (λ l. cond (is_due m w.due) (w ∷ l) l) rest
          ∙ sym (ap (λ t. cond (t && is_due m w.due) (w ∷ filter is_wanted ws) (filter is_wanted ws)) is)
      go false is rest = rest ∙ sym (ap (λ t. cond (t && is_due m w.due) (w ∷ filter is_wanted ws) (filter is_wanted ws)) is)

  -- and of other kinds nothing
  none_wanted : (kind : ℕ) → (kind == wanted) ≡ false → (ws : List WaitingRow) → AllByRecursion (λ w. (w.kind == kind) ≡ true) ws → filter is_wanted ws ≡ []
  none_wanted kind other [] all = refl
  none_wanted kind other (w ∷ ws) all =
      ap (λ t. cond (t && is_due m w.due) (w ∷ filter is_wanted ws) (filter is_wanted ws)) (unlike w.kind all.0) ∙ none_wanted kind other ws all.1
    where
      unlike : (k : ℕ) → (k == kind) ≡ true → (k == wanted) ≡ false
      unlike k is = let same : k ≡ kind = grind (arith, nat_tests, is) in ap (λ n. n == wanted) same ∙ other

-- ---- documents

begins : (detail : Detail) (attempt : Attempt) → may_begin detail attempt ≡ waits_for to_send (out_kind detail attempt)
begins New a = refl
begins Retry a = refl
begins Sending Idle = refl
begins Sending Running = refl
begins Sending Last = refl
begins Sending Used = refl
begins Awaiting a = refl
begins Processed a = refl
begins NoReceiptAsked a = refl
begins Warning a = refl
begins NoMic a = refl
begins UnknownMic a = refl
begins NotProcessed a = refl
begins ErrorModifier a = refl
begins MicDiffers a = refl
begins TriesUsed a = refl
begins Overdue a = refl

of_kind : (kind : ℕ) (ws : List WaitingRow) → AllByRecursion (λ w. (w.kind == kind) ≡ true) (filter (λ w. w.kind == kind) ws)
of_kind kind [] = tt
of_kind kind (w ∷ ws) = go (w.kind == kind) refl (of_kind kind ws)
  where
    go : (t : Bool) → (w.kind == kind) ≡ t → AllByRecursion (λ w. (w.kind == kind) ≡ true) (filter (λ w. w.kind == kind) ws)
        → AllByRecursion (λ w. (w.kind == kind) ≡ true) (cond t (w ∷ filter (λ w. w.kind == kind) ws) (filter (λ w. w.kind == kind) ws))
    go true is rest = (is, rest)
    go false is rest = rest

pub answers : (es : List InEntry) → AllByRecursion (λ w. (w.kind == to_send_receipt) ≡ true) (waiting_in es)
answers [] = tt
answers (e ∷ es) = go (in_waiting e) (kind_is_last e.receipt_stage e.attempt e.number e.due) (answers es)
  where
    itself : (k : ℕ) → k ≡ to_send_receipt → (k == to_send_receipt) ≡ true
    itself k same = ap (λ n. n == to_send_receipt) same

    go : (o : Option WaitingRow) → IfSome o (IsLast e.number) → AllByRecursion (λ w. (w.kind == to_send_receipt) ≡ true) (waiting_in es)
        → AllByRecursion (λ w. (w.kind == to_send_receipt) ≡ true) (cons_option o (waiting_in es))
    go None is rest = rest
    go (Some w) is rest = (itself w.kind is.0, rest)

pub due_are_documents : (m : ℕ) (s : State) → due_numbers to_send m s ≡ due_documents s m
due_are_documents m s =
    let send = documents_waiting to_send s.outbox in
    let answer = waiting_in s.inbox in
    let hear = documents_waiting to_hear s.outbox in
    let end = documents_waiting to_end s.outbox in
    ap (map (λ w. w.number))
    (filter-append (is_wanted to_send m) send (answer ++ (hear ++ end))
    ∙ ap₂ ◌++◌ (kept to_send m (waiting_out s.outbox))
    (filter-append (is_wanted to_send m) answer (hear ++ end)
    ∙ ap₂ ◌++◌ (none_wanted to_send m to_send_receipt refl answer (answers s.inbox))
    (filter-append (is_wanted to_send m) hear end
    ∙ ap₂ ◌++◌ (none_wanted to_send m to_hear refl hear (of_kind to_hear (waiting_out s.outbox)))
    (none_wanted to_send m to_end refl end (of_kind to_end (waiting_out s.outbox)))))
    ∙ append-nil (filter (is_wanted to_send m) (waiting_out s.outbox)))
    ∙ each to_send m (λ (d : OutEntry). d.number) (λ d. out_kind d.detail d.attempt) (λ d. d.due) s.outbox
    ∙ ap (map (λ (d : OutEntry). d.number)) (filter_agree _ (is_due_document m) (λ d. ap (λ t. t && is_due m d.due) (sym (begins d.detail d.attempt))) s.outbox)

-- ---- documents whose wait is over

pub due_are_heard : (m : ℕ) (s : State) → due_numbers to_hear m s ≡ map (λ (d : OutEntry). d.number) (filter (over to_hear m) s.outbox)
due_are_heard m s =
    let send = documents_waiting to_send s.outbox in
    let answer = waiting_in s.inbox in
    let hear = documents_waiting to_hear s.outbox in
    let end = documents_waiting to_end s.outbox in
    ap (map (λ w. w.number))
    (filter-append (is_wanted to_hear m) send (answer ++ (hear ++ end))
    ∙ ap₂ ◌++◌ (none_wanted to_hear m to_send refl send (of_kind to_send (waiting_out s.outbox)))
    (filter-append (is_wanted to_hear m) answer (hear ++ end)
    ∙ ap₂ ◌++◌ (none_wanted to_hear m to_send_receipt refl answer (answers s.inbox))
    (filter-append (is_wanted to_hear m) hear end
    ∙ ap₂ ◌++◌ (kept to_hear m (waiting_out s.outbox)) (none_wanted to_hear m to_end refl end (of_kind to_end (waiting_out s.outbox)))))
    ∙ append-nil (filter (is_wanted to_hear m) (waiting_out s.outbox)))
    ∙ each to_hear m (λ (d : OutEntry). d.number) (λ d. out_kind d.detail d.attempt) (λ d. d.due) s.outbox

pub due_are_ended : (m : ℕ) (s : State) → due_numbers to_end m s ≡ map (λ (d : OutEntry). d.number) (filter (over to_end m) s.outbox)
due_are_ended m s =
    let send = documents_waiting to_send s.outbox in
    let answer = waiting_in s.inbox in
    let hear = documents_waiting to_hear s.outbox in
    let end = documents_waiting to_end s.outbox in
    ap (map (λ w. w.number))
    (filter-append (is_wanted to_end m) send (answer ++ (hear ++ end))
    ∙ ap₂ ◌++◌ (none_wanted to_end m to_send refl send (of_kind to_send (waiting_out s.outbox)))
    (filter-append (is_wanted to_end m) answer (hear ++ end)
    ∙ ap₂ ◌++◌ (none_wanted to_end m to_send_receipt refl answer (answers s.inbox))
    (filter-append (is_wanted to_end m) hear end
    ∙ ap₂ ◌++◌ (none_wanted to_end m to_hear refl hear (of_kind to_hear (waiting_out s.outbox))) (kept to_end m (waiting_out s.outbox)))))
    ∙ each to_end m (λ (d : OutEntry). d.number) (λ d. out_kind d.detail d.attempt) (λ d. d.due) s.outbox

-- ---- receipts

receipt_begins : (receipt_stage : ReceiptStage) (attempt : Attempt)
    → receipt_may_begin receipt_stage attempt ≡ waits_for to_send_receipt (in_kind receipt_stage attempt)
receipt_begins Pending Idle = refl
receipt_begins Pending Running = refl
receipt_begins Pending Last = refl
receipt_begins Pending Used = refl
receipt_begins Unasked a = refl
receipt_begins Sent a = refl

pub due_are_receipts : (m : ℕ) (s : State) → due_numbers to_send_receipt m s ≡ due_receipts s m
due_are_receipts m s =
    let send = documents_waiting to_send s.outbox in
    let answer = waiting_in s.inbox in
    let hear = documents_waiting to_hear s.outbox in
    let end = documents_waiting to_end s.outbox in
    ap (map (λ w. w.number))
    (filter-append (is_wanted to_send_receipt m) send (answer ++ (hear ++ end))
    ∙ ap₂ ◌++◌ (none_wanted to_send_receipt m to_send refl send (of_kind to_send (waiting_out s.outbox)))
    (filter-append (is_wanted to_send_receipt m) answer (hear ++ end)
    ∙ ap (λ l. filter (is_wanted to_send_receipt m) answer ++ l)
    (filter-append (is_wanted to_send_receipt m) hear end
    ∙ ap₂ ◌++◌ (none_wanted to_send_receipt m to_hear refl hear (of_kind to_hear (waiting_out s.outbox)))
    (none_wanted to_send_receipt m to_end refl end (of_kind to_end (waiting_out s.outbox)))))
    ∙ append-nil (filter (is_wanted to_send_receipt m) answer))
    ∙ each to_send_receipt m (λ (e : InEntry). e.number) (λ e. in_kind e.receipt_stage e.attempt) (λ e. e.due) s.inbox
    ∙ ap (map (λ (e : InEntry). e.number))
    (filter_agree _ (is_due_receipt m) (λ e. ap (λ t. t && is_due m e.due) (sym (receipt_begins e.receipt_stage e.attempt))) s.inbox)

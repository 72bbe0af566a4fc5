-- What a document waits for, among all that waits: put in, and taken out.
use Rattle.std.proofs.Common.{◌≡◌, ◌⊎◌, inl, inr, ℕ, ◌<◌, ◌==◌, List, [], ◌∷◌, ◌++◌, map, Option, option_map, Some, None, IfSome, Bool, true, false, cond, refl, sym, ap, ap₂, subst, ◌∙◌, arith, append_assoc}
use Rattle.std.specs.List.{AllByRecursion, filter, cons_option}
use Rattle.std.proofs.lemmas.Bool.Decides.{nat_tests}
use Rattle.std.proofs.lemmas.List.Elements.{filter-append, filter_map-append}
use Rattle.sqlite.specs.Tree.{put_row}
use Rattle.sqlite_trees.proofs.ListLemmas.{all-append, all-map, all_weaker}
use Rattle.as2_mdn.specs.declared.detail.Detail.{Detail}
use Rattle.as2_mdn.specs.declared.detail.Detail.TheVariants.{New, Sending, Awaiting, Retry, Processed, NoReceiptAsked, Warning, NoMic, UnknownMic, NotProcessed, ErrorModifier, MicDiffers, TriesUsed, Overdue}
use Rattle.as2_exchange.specs.State.{end_of_numbers}
use Rattle.as2_exchange.specs.declared.attempt.Attempt.{Attempt}
use Rattle.as2_exchange.specs.declared.attempt.Attempt.TheVariants.{Idle, Running, Last, Used}
use Rattle.as2_exchange.specs.declared.inbox.InEntry.{InEntry}
use Rattle.as2_exchange.specs.declared.outbox.OutEntry.{OutEntry}
use Rattle.as2_rows.specs.Waiting.{WaitingRow, out_kind, out_waiting, waiting_in, waiting_out, to_send, to_send_receipt, to_hear, to_end}
use Rattle.as2_store.specs.Stands.{place, waiting_row, documents_waiting}
use Rattle.as2_store.specs.Adding.{noted_rows}
use Rattle.as2_store.specs.Requeuing.{not_at}
use Rattle.as2_store.specs.Settling.{place_of, without_document}
use Rattle.as2_store.proofs.NumberedRows.{puts_between}
use Rattle.as2_store.proofs.WaitingRows.{IsEvidenceAsked, documents_of, ins_small}
use Rattle.as2_store.proofs.WaitingPlaces.{taken}

-- ---- what one document waits for

-- of this kind
abbrev pub of_kind : ℕ → Option WaitingRow → Option WaitingRow
of_kind kind None = None
of_kind kind (Some w) = cond (w.kind == kind) (Some w) None

kept_first : (kind : ℕ) (o : Option WaitingRow) (ws : List WaitingRow)
    → filter (λ w. w.kind == kind) (cons_option o ws) ≡ cons_option (of_kind kind o) (filter (λ w. w.kind == kind) ws)
kept_first kind None ws = refl
kept_first kind (Some w) ws = go (w.kind == kind)
  where
    go : (t : Bool)
        → cond t (w ∷ filter (λ w. w.kind == kind) ws) (filter (λ w. w.kind == kind) ws) ≡ cons_option (cond t (Some w) None) (filter (λ w. w.kind == kind) ws)
    go true = refl
    go false = refl

among : (kind : ℕ) (front : List OutEntry) (x : OutEntry) (back : List OutEntry)
    → documents_waiting kind (front ++ x ∷ back) ≡ documents_waiting kind front ++ cons_option (of_kind kind (out_waiting x)) (documents_waiting kind back)
among kind front x back =
    ap (filter (λ w. w.kind == kind)) (filter_map-append out_waiting front (x ∷ back))
    ∙ filter-append (λ w. w.kind == kind) (waiting_out front) (cons_option (out_waiting x) (waiting_out back))
    ∙ ap (λ l. documents_waiting kind front ++ l) (kept_first kind (out_waiting x) (waiting_out back))

both : (kind : ℕ) (front back : List OutEntry) → documents_waiting kind (front ++ back) ≡ documents_waiting kind front ++ documents_waiting kind back
both kind front back = ap (filter (λ w. w.kind == kind)) (filter_map-append out_waiting front back)
    ∙ filter-append (λ w. w.kind == kind) (waiting_out front) (waiting_out back)

-- a document is to be sent, its receipt is awaited, or its last try is open
abbrev IsDocuments : ℕ → Type 0
IsDocuments kind = (kind ≡ to_send) ⊎ ((kind ≡ to_hear) ⊎ (kind ≡ to_end))

kinds : (detail : Detail) (attempt : Attempt) → IfSome (out_kind detail attempt) IsDocuments
kinds New a = inl refl
kinds Retry a = inl refl
kinds Sending Idle = tt
kinds Sending Running = inl refl
kinds Sending Last = inr (inr refl)
kinds Sending Used = tt
kinds Awaiting a = inr (inl refl)
kinds Processed a = tt
kinds NoReceiptAsked a = tt
kinds Warning a = tt
kinds NoMic a = tt
kinds UnknownMic a = tt
kinds NotProcessed a = tt
kinds ErrorModifier a = tt
kinds MicDiffers a = tt
kinds TriesUsed a = tt
kinds Overdue a = tt

abbrev wait : ℕ → Option ℕ → ℕ → WaitingRow
wait n due kind = record { kind = kind; number = n; due = due }

at_place : (n : ℕ) (due : Option ℕ) (kind : ℕ) (o : Option ℕ) → IfSome (of_kind kind (option_map (wait n due) o)) (λ w. place w ≡ place_of kind n)
at_place n due kind None = tt
at_place n due kind (Some k) = go (k == kind) refl
  where
    go : (t : Bool) → (k == kind) ≡ t → IfSome (cond t (Some (wait n due k)) None) (λ w. place w ≡ place_of kind n)
    go true is = let same : k ≡ kind = grind (arith, nat_tests) in ap (λ k. place_of k n) same
    go false is = tt

-- ---- where it stands

-- lists in order of the places, before and behind those of number n
module _ (n : ℕ) (small : n < end_of_numbers) (send1 send2 answer hear1 hear2 end1 end2 : List WaitingRow)
    (s1 : AllByRecursion (IsEvidenceAsked to_send n) send1)
    (s2 : AllByRecursion (λ w. IsEvidenceAsked to_send end_of_numbers w × (n < w.number)) send2)
    (a : AllByRecursion (IsEvidenceAsked to_send_receipt end_of_numbers) answer)
    (h1 : AllByRecursion (IsEvidenceAsked to_hear n) hear1) (h2 : AllByRecursion (λ w. IsEvidenceAsked to_hear end_of_numbers w × (n < w.number)) hear2)
    (e1 : AllByRecursion (IsEvidenceAsked to_end n) end1) (e2 : AllByRecursion (λ w. IsEvidenceAsked to_end end_of_numbers w × (n < w.number)) end2) where
  abbrev joined : Option WaitingRow → Option WaitingRow → Option WaitingRow → List WaitingRow
  joined o1 o3 o4 = (send1 ++ cons_option o1 send2) ++ (answer ++ ((hear1 ++ cons_option o3 hear2) ++ (end1 ++ cons_option o4 end2)))

  -- the lists before the place of each kind, and behind it
  abbrev before3 : List WaitingRow
  before3 = (send1 ++ send2) ++ (answer ++ hear1)

  abbrev before4 : List WaitingRow
  before4 = (send1 ++ send2) ++ (answer ++ ((hear1 ++ hear2) ++ end1))

  abbrev behind1 : Option WaitingRow → Option WaitingRow → List WaitingRow
  behind1 o3 o4 = send2 ++ (answer ++ ((hear1 ++ cons_option o3 hear2) ++ (end1 ++ cons_option o4 end2)))

  abbrev behind3 : Option WaitingRow → List WaitingRow
  behind3 o4 = hear2 ++ (end1 ++ cons_option o4 end2)

  cut1 : (o1 o3 o4 : Option WaitingRow) → joined o1 o3 o4 ≡ send1 ++ cons_option o1 (behind1 o3 o4)
  cut1 None o3 o4 = append_assoc send1 send2 (answer ++ ((hear1 ++ cons_option o3 hear2) ++ (end1 ++ cons_option o4 end2)))
  cut1 (Some w) o3 o4 = append_assoc send1 (w ∷ send2) (answer ++ ((hear1 ++ cons_option o3 hear2) ++ (end1 ++ cons_option o4 end2)))

  spread3 : (s a h1 h2 e : List WaitingRow) → s ++ (a ++ ((h1 ++ h2) ++ e)) ≡ (s ++ (a ++ h1)) ++ (h2 ++ e)
  spread3 s a h1 h2 e = ap (λ l. s ++ l) (ap (λ l. a ++ l) (append_assoc h1 h2 e) ∙ sym (append_assoc a h1 (h2 ++ e)))
      ∙ sym (append_assoc s (a ++ h1) (h2 ++ e))

  cut3 : (o3 o4 : Option WaitingRow) → joined None o3 o4 ≡ before3 ++ cons_option o3 (behind3 o4)
  cut3 None o4 = spread3 (send1 ++ send2) answer hear1 hear2 (end1 ++ cons_option o4 end2)
  cut3 (Some w) o4 = spread3 (send1 ++ send2) answer hear1 (w ∷ hear2) (end1 ++ cons_option o4 end2)

  spread4 : (s a h e1 e2 : List WaitingRow) → s ++ (a ++ (h ++ (e1 ++ e2))) ≡ (s ++ (a ++ (h ++ e1))) ++ e2
  spread4 s a h e1 e2 = ap (λ l. s ++ l) (ap (λ l. a ++ l) (sym (append_assoc h e1 e2)) ∙ sym (append_assoc a (h ++ e1) e2))
      ∙ sym (append_assoc s (a ++ (h ++ e1)) e2)

  cut4 : (o4 : Option WaitingRow) → joined None None o4 ≡ before4 ++ cons_option o4 end2
  cut4 None = spread4 (send1 ++ send2) answer (hear1 ++ hear2) end1 end2
  cut4 (Some w) = spread4 (send1 ++ send2) answer (hear1 ++ hear2) end1 (w ∷ end2)

  -- ---- the places

  low1 : AllByRecursion (λ w. place w < place_of to_send n) send1
  low1 = all_weaker (IsEvidenceAsked to_send n) (λ w. place w < place_of to_send n) (λ w is. omega (arith, is.0, is.1)) send1 s1

  sends_low : (k : ℕ) → to_send < k → AllByRecursion (λ w. place w < place_of k n) (send1 ++ send2)
  sends_low k less = all-append (λ w. place w < place_of k n) send1 send2
      (all_weaker (IsEvidenceAsked to_send n) (λ w. place w < place_of k n) (λ w is. omega (arith, is.0, is.1, less, small)) send1 s1)
      (all_weaker (λ w. IsEvidenceAsked to_send end_of_numbers w × (n < w.number)) (λ w. place w < place_of k n)
      (λ w is. omega (arith, is.0.0, is.0.1, less)) send2 s2)

  low3 : AllByRecursion (λ w. place w < place_of to_hear n) before3
  low3 = all-append (λ w. place w < place_of to_hear n) (send1 ++ send2) (answer ++ hear1) (sends_low to_hear (omega arith))
      (all-append (λ w. place w < place_of to_hear n) answer hear1
      (all_weaker (IsEvidenceAsked to_send_receipt end_of_numbers) (λ w. place w < place_of to_hear n) (λ w is. omega (arith, is.0, is.1)) answer a)
      (all_weaker (IsEvidenceAsked to_hear n) (λ w. place w < place_of to_hear n) (λ w is. omega (arith, is.0, is.1)) hear1 h1))

  low4 : AllByRecursion (λ w. place w < place_of to_end n) before4
  low4 = all-append (λ w. place w < place_of to_end n) (send1 ++ send2) (answer ++ ((hear1 ++ hear2) ++ end1)) (sends_low to_end (omega arith))
      (all-append (λ w. place w < place_of to_end n) answer ((hear1 ++ hear2) ++ end1)
      (all_weaker (IsEvidenceAsked to_send_receipt end_of_numbers) (λ w. place w < place_of to_end n) (λ w is. omega (arith, is.0, is.1)) answer a)
      (all-append (λ w. place w < place_of to_end n) (hear1 ++ hear2) end1
      (all-append (λ w. place w < place_of to_end n) hear1 hear2
      (all_weaker (IsEvidenceAsked to_hear n) (λ w. place w < place_of to_end n) (λ w is. omega (arith, is.0, is.1, small)) hear1 h1)
      (all_weaker (λ w. IsEvidenceAsked to_hear end_of_numbers w × (n < w.number)) (λ w. place w < place_of to_end n)
      (λ w is. omega (arith, is.0.0, is.0.1)) hear2 h2))
      (all_weaker (IsEvidenceAsked to_end n) (λ w. place w < place_of to_end n) (λ w is. omega (arith, is.0, is.1)) end1 e1)))

  high4 : AllByRecursion (λ w. place_of to_end n < place w) end2
  high4 = all_weaker (λ w. IsEvidenceAsked to_end end_of_numbers w × (n < w.number)) (λ w. place_of to_end n < place w)
      (λ w is. omega (arith, is.0.0, is.1)) end2 e2

  -- behind a place of a lower kind
  ends_high : (k : ℕ) → k < to_end → (o4 : Option WaitingRow) → IfSome o4 (λ w. place w ≡ place_of to_end n)
      → AllByRecursion (λ w. place_of k n < place w) (end1 ++ cons_option o4 end2)
  ends_high k less o4 at =
      all-append (λ w. place_of k n < place w) end1 (cons_option o4 end2)
      (all_weaker (IsEvidenceAsked to_end n) (λ w. place_of k n < place w) (λ w is. omega (arith, is.0, less, small)) end1 e1)
      (own o4 at (all_weaker (λ w. IsEvidenceAsked to_end end_of_numbers w × (n < w.number)) (λ w. place_of k n < place w)
      (λ w is. omega (arith, is.0.0, is.1, less, small)) end2 e2))
    where
      own : (o : Option WaitingRow) → IfSome o (λ w. place w ≡ place_of to_end n) → AllByRecursion (λ w. place_of k n < place w) end2
          → AllByRecursion (λ w. place_of k n < place w) (cons_option o end2)
      own None at rest = rest
      own (Some w) at rest = (omega (arith, at, less, small), rest)

  high3 : (o4 : Option WaitingRow) → IfSome o4 (λ w. place w ≡ place_of to_end n) → AllByRecursion (λ w. place_of to_hear n < place w) (behind3 o4)
  high3 o4 at = all-append (λ w. place_of to_hear n < place w) hear2 (end1 ++ cons_option o4 end2)
      (all_weaker (λ w. IsEvidenceAsked to_hear end_of_numbers w × (n < w.number)) (λ w. place_of to_hear n < place w)
      (λ w is. omega (arith, is.0.0, is.1)) hear2 h2) (ends_high to_hear (omega arith) o4 at)

  high1 : (o3 o4 : Option WaitingRow) → IfSome o3 (λ w. place w ≡ place_of to_hear n) → IfSome o4 (λ w. place w ≡ place_of to_end n)
      → AllByRecursion (λ w. place_of to_send n < place w) (behind1 o3 o4)
  high1 o3 o4 at3 at4 = all-append (λ w. place_of to_send n < place w) send2 (answer ++ ((hear1 ++ cons_option o3 hear2) ++ (end1 ++ cons_option o4 end2)))
      (all_weaker (λ w. IsEvidenceAsked to_send end_of_numbers w × (n < w.number)) (λ w. place_of to_send n < place w)
      (λ w is. omega (arith, is.0.0, is.1)) send2 s2)
      (all-append (λ w. place_of to_send n < place w) answer ((hear1 ++ cons_option o3 hear2) ++ (end1 ++ cons_option o4 end2))
      (all_weaker (IsEvidenceAsked to_send_receipt end_of_numbers) (λ w. place_of to_send n < place w) (λ w is. omega (arith, is.0, small)) answer a)
      (all-append (λ w. place_of to_send n < place w) (hear1 ++ cons_option o3 hear2) (end1 ++ cons_option o4 end2)
      (all-append (λ w. place_of to_send n < place w) hear1 (cons_option o3 hear2)
      (all_weaker (IsEvidenceAsked to_hear n) (λ w. place_of to_send n < place w) (λ w is. omega (arith, is.0, small)) hear1 h1)
      (own o3 at3 (all_weaker (λ w. IsEvidenceAsked to_hear end_of_numbers w × (n < w.number)) (λ w. place_of to_send n < place w)
      (λ w is. omega (arith, is.0.0, small)) hear2 h2)))
      (ends_high to_send (omega arith) o4 at4)))
    where
      own : (o : Option WaitingRow) → IfSome o (λ w. place w ≡ place_of to_hear n) → AllByRecursion (λ w. place_of to_send n < place w) hear2
          → AllByRecursion (λ w. place_of to_send n < place w) (cons_option o hear2)
      own None at rest = rest
      own (Some w) at rest = (omega (arith, at, small), rest)

  -- ---- taken out

  pub all_taken : (o1 o3 o4 : Option WaitingRow) → IfSome o1 (λ w. place w ≡ place_of to_send n) → IfSome o3 (λ w. place w ≡ place_of to_hear n)
      → IfSome o4 (λ w. place w ≡ place_of to_end n)
      → without_document n (joined o1 o3 o4) ≡ joined None None None
  all_taken o1 o3 o4 at1 at3 at4 =
      ap (λ l. not_at (place_of to_end n) (not_at (place_of to_hear n) l))
      (ap (not_at (place_of to_send n)) (cut1 o1 o3 o4) ∙ taken (place_of to_send n) o1 at1 send1 (behind1 o3 o4) low1 (high1 o3 o4 at3 at4)
      ∙ sym (cut1 None o3 o4))
      ∙ ap (not_at (place_of to_end n))
      (ap (not_at (place_of to_hear n)) (cut3 o3 o4) ∙ taken (place_of to_hear n) o3 at3 before3 (behind3 o4) low3 (high3 o4 at4) ∙ sym (cut3 None o4))
      ∙ ap (not_at (place_of to_end n)) (cut4 o4) ∙ taken (place_of to_end n) o4 at4 before4 end2 low4 high4 ∙ sym (cut4 None)

  -- ---- put in

  abbrev Notes : Option WaitingRow → Type 0
  Notes o = noted_rows o (map waiting_row (joined None None None)) ≡ map waiting_row (joined (of_kind to_send o) (of_kind to_hear o) (of_kind to_end o))

  send_noted : (due : Option ℕ) → Notes (Some (wait n due to_send))
  send_noted due =
      ap (λ l. put_row (waiting_row (wait n due to_send)) (map waiting_row l)) (cut1 None None None)
      ∙ puts_between waiting_row place (λ _. refl) (wait n due to_send) send1 (behind1 None None) low1 (high1 None None tt tt)
      ∙ ap (map waiting_row) (sym (cut1 (Some (wait n due to_send)) None None))

  hear_noted : (due : Option ℕ) → Notes (Some (wait n due to_hear))
  hear_noted due =
      ap (λ l. put_row (waiting_row (wait n due to_hear)) (map waiting_row l)) (cut3 None None)
      ∙ puts_between waiting_row place (λ _. refl) (wait n due to_hear) before3 (behind3 None) low3 (high3 None tt)
      ∙ ap (map waiting_row) (sym (cut3 (Some (wait n due to_hear)) None))

  end_noted : (due : Option ℕ) → Notes (Some (wait n due to_end))
  end_noted due =
      ap (λ l. put_row (waiting_row (wait n due to_end)) (map waiting_row l)) (cut4 None)
      ∙ puts_between waiting_row place (λ _. refl) (wait n due to_end) before4 end2 low4 high4
      ∙ ap (map waiting_row) (sym (cut4 (Some (wait n due to_end))))

  pub all_noted : (due : Option ℕ) (o : Option ℕ) → IfSome o IsDocuments → Notes (option_map (wait n due) o)
  all_noted due None is = refl
  all_noted due (Some kind) (inl is) = subst (λ k. Notes (Some (wait n due k))) (sym is) (send_noted due)
  all_noted due (Some kind) (inr (inl is)) = subst (λ k. Notes (Some (wait n due k))) (sym is) (hear_noted due)
  all_noted due (Some kind) (inr (inr is)) = subst (λ k. Notes (Some (wait n due k))) (sym is) (end_noted due)

-- ---- of a state

outs_above : (n : ℕ) (ds : List OutEntry) → AllByRecursion (λ (d : OutEntry). n < d.number) ds → AllByRecursion (λ w. n < w.number) (waiting_out ds)
outs_above n [] all = tt
outs_above n (d ∷ ds) all = go (out_kind d.detail d.attempt) (outs_above n ds all.1)
  where
    go : (o : Option ℕ) → AllByRecursion (λ w. n < w.number) (waiting_out ds)
        → AllByRecursion (λ w. n < w.number) (cons_option (option_map (wait d.number d.due) o) (waiting_out ds))
    go None rest = rest
    go (Some k) rest = (all.0, rest)

with_both : (P Q : WaitingRow → Type 0) (ws : List WaitingRow) → AllByRecursion P ws → AllByRecursion Q ws → AllByRecursion (λ w. P w × Q w) ws
with_both P Q [] p q = tt
with_both P Q (w ∷ ws) p q = ((p.0, q.0), with_both P Q ws p.1 q.1)

still : (P : WaitingRow → Type 0) (p : WaitingRow → Bool) (ws : List WaitingRow) → AllByRecursion P ws → AllByRecursion P (filter p ws)
still P p [] all = tt
still P p (w ∷ ws) all = go (p w) (still P p ws all.1)
  where
    go : (t : Bool) → AllByRecursion P (filter p ws) → AllByRecursion P (cond t (w ∷ filter p ws) (filter p ws))
    go true rest = (all.0, rest)
    go false rest = rest

-- the documents before those of number n, and behind them
module _ (n : ℕ) (small : n < end_of_numbers) (front back : List OutEntry) (inbox : List InEntry)
    (low : AllByRecursion (λ (d : OutEntry). d.number < n) front) (high : AllByRecursion (λ (d : OutEntry). n < d.number) back)
    (outs : AllByRecursion (λ (d : OutEntry). d.number < end_of_numbers) back)
    (ins : AllByRecursion (λ k. k < end_of_numbers) (map (λ (e : InEntry). e.number) inbox)) where
  abbrev before : (kind : ℕ) → AllByRecursion (IsEvidenceAsked kind n) (documents_waiting kind front)
  before kind = documents_of kind n front (all-map (λ k. k < n) (λ (d : OutEntry). d.number) front low)

  abbrev behind : (kind : ℕ) → AllByRecursion (λ w. IsEvidenceAsked kind end_of_numbers w × (n < w.number)) (documents_waiting kind back)
  behind kind = with_both (IsEvidenceAsked kind end_of_numbers) (λ w. n < w.number) (documents_waiting kind back)
      (documents_of kind end_of_numbers back (all-map (λ k. k < end_of_numbers) (λ (d : OutEntry). d.number) back outs))
      (still (λ w. n < w.number) (λ w. w.kind == kind) (waiting_out back) (outs_above n back high))

  abbrev waiting_of : List OutEntry → List WaitingRow
  waiting_of ds = documents_waiting to_send ds ++ (waiting_in inbox ++ (documents_waiting to_hear ds ++ documents_waiting to_end ds))

  with_one : (x : OutEntry) → waiting_of (front ++ x ∷ back)
      ≡ joined n small (documents_waiting to_send front) (documents_waiting to_send back) (waiting_in inbox) (documents_waiting to_hear front)
      (documents_waiting to_hear back) (documents_waiting to_end front) (documents_waiting to_end back)
      (before to_send) (behind to_send) (ins_small end_of_numbers inbox ins) (before to_hear) (behind to_hear) (before to_end) (behind to_end)
      (of_kind to_send (out_waiting x)) (of_kind to_hear (out_waiting x)) (of_kind to_end (out_waiting x))
  with_one x = ap₂ ◌++◌ (among to_send front x back) (ap (λ l. waiting_in inbox ++ l) (ap₂ ◌++◌ (among to_hear front x back) (among to_end front x back)))

  without : waiting_of (front ++ back)
      ≡ joined n small (documents_waiting to_send front) (documents_waiting to_send back) (waiting_in inbox) (documents_waiting to_hear front)
      (documents_waiting to_hear back) (documents_waiting to_end front) (documents_waiting to_end back)
      (before to_send) (behind to_send) (ins_small end_of_numbers inbox ins) (before to_hear) (behind to_hear) (before to_end) (behind to_end) None None None
  without = ap₂ ◌++◌ (both to_send front back) (ap (λ l. waiting_in inbox ++ l) (ap₂ ◌++◌ (both to_hear front back) (both to_end front back)))

  -- what the document waits for is put in
  pub put_among : (x : OutEntry) → x.number ≡ n
      → noted_rows (out_waiting x) (map waiting_row (waiting_of (front ++ back))) ≡ map waiting_row (waiting_of (front ++ x ∷ back))
  put_among x is =
      ap (λ l. noted_rows (out_waiting x) (map waiting_row l)) without
      ∙ subst (λ k. Notes n small _ _ _ _ _ _ _ (before to_send) (behind to_send) (ins_small end_of_numbers inbox ins) (before to_hear)
      (behind to_hear) (before to_end) (behind to_end) (option_map (wait k x.due) (out_kind x.detail x.attempt))) (sym is)
      (all_noted n small _ _ _ _ _ _ _ (before to_send) (behind to_send) (ins_small end_of_numbers inbox ins) (before to_hear) (behind to_hear)
      (before to_end) (behind to_end) x.due (out_kind x.detail x.attempt) (kinds x.detail x.attempt))
      ∙ ap (map waiting_row) (sym (with_one x))

  -- and taken out
  pub take_among : (x : OutEntry) → x.number ≡ n → without_document n (waiting_of (front ++ x ∷ back)) ≡ waiting_of (front ++ back)
  take_among x is =
      ap (without_document n) (with_one x)
      ∙ all_taken n small _ _ _ _ _ _ _ (before to_send) (behind to_send) (ins_small end_of_numbers inbox ins) (before to_hear) (behind to_hear)
      (before to_end) (behind to_end) _ _ _ (own to_send) (own to_hear) (own to_end)
      ∙ sym without
    where
      own : (kind : ℕ) → IfSome (of_kind kind (out_waiting x)) (λ w. place w ≡ place_of kind n)
      own kind = subst (λ k. IfSome (of_kind kind (out_waiting x)) (λ w. place w ≡ place_of kind k)) is
          (at_place x.number x.due kind (out_kind x.detail x.attempt))

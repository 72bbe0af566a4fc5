-- Documents whose wait is over, among all documents: by their numbers, by what waits, and as time passes.
use Rattle.std.proofs.Common.{◌≡◌, inl, inr, ℕ, ◌+◌, ◌<◌, ◌==◌, ◌&&◌, ◌||◌, not, List, [], ◌∷◌, ◌++◌, map, filter, length, take, get_or, Option, option_map, Some, None, is_some, Bool, true, false, cond, count_by, refl, sym, ap, ap₂, subst, ◌∙◌, arith}
use Rattle.std.specs.List.{AllByRecursion, cons_option, list_any}
use Rattle.std.proofs.lemmas.Bool.Decides.{nat_tests}
use Rattle.std.proofs.lemmas.List.Elements.{filter-append}
use Rattle.std.proofs.lemmas.List.Folds.{list_any_more}
use Rattle.std.proofs.lemmas.List.Sums.{length-filter}
use Rattle.sqlite.specs.Tree.{IsAscending}
use Rattle.sqlite_trees.proofs.ListLemmas.{all_both, all_weaker, filter_all}
use Rattle.as2_mdn.specs.declared.detail.Detail.{Detail}
use Rattle.as2_mdn.specs.declared.detail.Detail.TheVariants.{New, Sending, Awaiting, Retry, Processed, NoReceiptAsked, Warning, NoMic, UnknownMic, NotProcessed, ErrorModifier, MicDiffers, TriesUsed, Overdue}
use Rattle.as2_exchange.specs.Documents.{passed_document, passes_at, tick}
use Rattle.as2_exchange.specs.State.{State}
use Rattle.as2_exchange.specs.Tries.{is_due}
use Rattle.as2_exchange.specs.declared.answer.Answer.TheVariants.{Ticked}
use Rattle.as2_exchange.specs.declared.attempt.Attempt.{Attempt}
use Rattle.as2_exchange.specs.declared.attempt.Attempt.TheVariants.{Idle, Running, Last, Used}
use Rattle.as2_exchange.specs.declared.outbox.OutEntry.{OutEntry}
use Rattle.as2_exchange.proofs.Lists.{map_kept}
use Rattle.as2_rows.specs.Contents.{pieces}
use Rattle.as2_rows.specs.Rows.{evidence_row}
use Rattle.as2_rows.specs.Waiting.{WaitingRow, out_kind, out_waiting, waiting_in, waiting_out, to_send, to_send_receipt, to_hear, to_end}
use Rattle.as2_store.specs.Stands.{all_waiting, documents_waiting, evidence_rows, outbox_pieces}
use Rattle.as2_store.specs.Due.{due_numbers}
use Rattle.as2_store.specs.Expiring.{PassesInto, over, passed_documents, passing_in, passing_one, waits_for, without_due}
use Rattle.as2_store.proofs.DueEntries.{answers, due_are_ended, due_are_heard}

-- ---- by their numbers

abbrev number_of : OutEntry → ℕ
number_of d = d.number

-- one more of them
pub one_more_passed : (detail : Detail) (ns : List ℕ) (i none : ℕ) → i < length ns → (ds : List OutEntry)
    → passing_one detail (get_or ns i none) (passed_documents detail (take i ns) ds) ≡ passed_documents detail (take (i + 1) ns) ds
one_more_passed detail ns i none within [] = refl
one_more_passed detail ns i none within (d ∷ ds) =
    ap₂ ◌∷◌ (by (list_any (λ k. d.number == k) (take i ns))
    ∙ ap (λ t. cond t (passed_document d (Some detail)) d) (sym (list_any_more (λ k. d.number == k) ns i none within)))
    (one_more_passed detail ns i none within ds)
  where
    twice : (t : Bool)
        → cond t (passed_document (passed_document d (Some detail)) (Some detail)) (passed_document d (Some detail)) ≡ passed_document d (Some detail)
    twice true = refl
    twice false = refl

    by : (t : Bool)
        → cond ((cond t (passed_document d (Some detail)) d).number == get_or ns i none)
        (passed_document (cond t (passed_document d (Some detail)) d) (Some detail)) (cond t (passed_document d (Some detail)) d) ≡ cond
        (t || (d.number == get_or ns i none)) (passed_document d (Some detail)) d
    by true = twice (d.number == get_or ns i none)
    by false = refl

pub none_passed : (detail : Detail) (ds : List OutEntry) → passed_documents detail [] ds ≡ ds
none_passed detail [] = refl
none_passed detail (d ∷ ds) = ap (λ l. d ∷ l) (none_passed detail ds)

module _ (q : OutEntry → Bool) where
  abbrev numbers : List OutEntry → List ℕ
  numbers ds = map number_of (filter q ds)

  none_lower : (n : ℕ) (ds : List OutEntry) → AllByRecursion (λ d. n < d.number) ds → list_any (λ k. n == k) (numbers ds) ≡ false
  none_lower n [] all = refl
  none_lower n (d ∷ ds) all = go (q d) (none_lower n ds all.1)
    where
      other : (k : ℕ) → n < k → (n == k) ≡ false
      other k less = grind (arith, nat_tests)

      go : (t : Bool) → list_any (λ k. n == k) (numbers ds) ≡ false → list_any (λ k. n == k) (map number_of (cond t (d ∷ filter q ds) (filter q ds))) ≡ false
      go true rest = ap₂ ◌||◌ (other d.number all.0) rest
      go false rest = rest

  -- a document is one of them where its number is one of theirs
  among : (ds : List OutEntry) → IsAscending (λ x y. x.number < y.number) ds → AllByRecursion (λ d. list_any (λ k. d.number == k) (numbers ds) ≡ q d) ds
  among [] up = tt
  among (x ∷ xs) up = go (q x) refl (among xs up.1)
    where
      itself : (k : ℕ) → (k == k) ≡ true
      itself k = grind (arith, nat_tests)

      other : (k : ℕ) → x.number < k → (k == x.number) ≡ false
      other k less = grind (arith, nat_tests)

      go : (t : Bool) → q x ≡ t → AllByRecursion (λ d. list_any (λ k. d.number == k) (numbers xs) ≡ q d) xs
          → (list_any (λ k. x.number == k) (map number_of (cond t (x ∷ filter q xs) (filter q xs))) ≡ q x)
          × AllByRecursion (λ d. list_any (λ k. d.number == k) (map number_of (cond t (x ∷ filter q xs) (filter q xs))) ≡ q d) xs
      go true is rest = (
        ap (λ t. t || list_any (λ k. x.number == k) (numbers xs)) (itself x.number) ∙ sym is,
        all_both (λ d. x.number < d.number) (λ d. list_any (λ k. d.number == k) (numbers xs) ≡ q d)
            (λ d. (d.number == x.number || list_any (λ k. d.number == k) (numbers xs)) ≡ q d)
            (λ d less same. ap (λ t. t || list_any (λ k. d.number == k) (numbers xs)) (other d.number less) ∙ same) xs up.0 rest,
      )
      go false is rest = (none_lower x.number xs up.0 ∙ sym is, rest)

module _ (detail : Detail) (q : OutEntry → Bool) where
  abbrev pub moved : List OutEntry → List OutEntry
  moved ds = map (λ (d : OutEntry). cond (q d) (passed_document d (Some detail)) d) ds

  told : (ns : List ℕ) (ds : List OutEntry) → AllByRecursion (λ d. list_any (λ k. d.number == k) ns ≡ q d) ds → passed_documents detail ns ds ≡ moved ds
  told ns [] all = refl
  told ns (d ∷ ds) all = ap₂ ◌∷◌ (ap (λ t. cond t (passed_document d (Some detail)) d) all.0) (told ns ds all.1)

  pub by_number : (ds : List OutEntry) → IsAscending (λ x y. x.number < y.number) ds → passed_documents detail (numbers q ds) ds ≡ moved ds
  by_number ds up = told (numbers q ds) ds (among q ds up)

  -- ---- what is kept

  pub same_numbers : (ds : List OutEntry) → map number_of (moved ds) ≡ map number_of ds
  same_numbers ds = map_kept number_of (λ (d : OutEntry). cond (q d) (passed_document d (Some detail)) d) (λ d. by d (q d)) ds
    where
      by : (d : OutEntry) (t : Bool) → (cond t (passed_document d (Some detail)) d).number ≡ d.number
      by d true = refl
      by d false = refl

  pub same_pieces : (ds : List OutEntry) → outbox_pieces (moved ds) ≡ outbox_pieces ds
  same_pieces [] = refl
  same_pieces (d ∷ ds) = ap₂ ◌++◌ (by (q d)) (same_pieces ds)
    where
      by : (t : Bool)
          → pieces (cond t (passed_document d (Some detail)) d).number (cond t (passed_document d (Some detail)) d).content ≡ pieces d.number d.content
      by true = refl
      by false = refl

  pub same_evidence : (ds : List OutEntry) → evidence_rows (moved ds) ≡ evidence_rows ds
  same_evidence [] = refl
  same_evidence (d ∷ ds) = ap₂ cons_option (by (q d)) (same_evidence ds)
    where
      by : (t : Bool)
          → option_map (evidence_row (cond t (passed_document d (Some detail)) d).number)
          (cond t (passed_document d (Some detail)) d).evidence ≡ option_map (evidence_row d.number) d.evidence
      by true = refl
      by false = refl

-- ---- what waits

commute : (p r : WaitingRow → Bool) (ws : List WaitingRow) → filter p (filter r ws) ≡ filter r (filter p ws)
commute p r [] = refl
commute p r (w ∷ ws) = go (p w) refl (r w) refl (commute p r ws)
  where
    go : (t : Bool) → p w ≡ t → (u : Bool) → r w ≡ u → filter p (filter r ws) ≡ filter r (filter p ws)
        → filter p (cond u (w ∷ filter r ws) (filter r ws)) ≡ filter r (cond t (w ∷ filter p ws) (filter p ws))
    go true is true out rest = ap (λ b. cond b (w ∷ filter p (filter r ws)) (filter p (filter r ws))) is ∙ ap (λ l. w ∷ l) rest
        ∙ sym (ap (λ b. cond b (w ∷ filter r (filter p ws)) (filter r (filter p ws))) out)
    go true is false out rest = rest ∙ sym (ap (λ b. cond b (w ∷ filter r (filter p ws)) (filter r (filter p ws))) out)
    go false is true out rest = ap (λ b. cond b (w ∷ filter p (filter r ws)) (filter p (filter r ws))) is ∙ rest
    go false is false out rest = rest

ended : (kind : ℕ) (detail : Detail) → PassesInto kind detail → (a : Attempt) → out_kind detail a ≡ None
ended kind detail (inl is) a = ap (λ x. out_kind x a) is.1
ended kind detail (inr is) a = ap (λ x. out_kind x a) is.1

other_kind : (kind : ℕ) (detail : Detail) → PassesInto kind detail → (to_send_receipt == kind) ≡ false
other_kind kind detail (inl is) = ap (λ k. to_send_receipt == k) is.0
other_kind kind detail (inr is) = ap (λ k. to_send_receipt == k) is.0

pub due_are_over : (kind : ℕ) (detail : Detail) → PassesInto kind detail → (m : ℕ) (s : State)
    → due_numbers kind m s ≡ map number_of (filter (over kind m) s.outbox)
due_are_over kind detail (inl is) m s = subst (λ k. due_numbers k m s ≡ map number_of (filter (over k m) s.outbox)) (sym is.0) (due_are_heard m s)
due_are_over kind detail (inr is) m s = subst (λ k. due_numbers k m s ≡ map number_of (filter (over k m) s.outbox)) (sym is.0) (due_are_ended m s)

module _ (kind m : ℕ) (detail : Detail) (into : PassesInto kind detail) where
  abbrev row_at : OutEntry → Option ℕ → Option WaitingRow
  row_at d o = option_map (λ k. record { kind = k; number = d.number; due = d.due }) o

  left : (ds : List OutEntry) → waiting_out (moved detail (over kind m) ds) ≡ without_due kind m (waiting_out ds)
  left [] = refl
  left (d ∷ ds) = go (out_kind d.detail d.attempt) refl (left ds)
    where
      go : (o : Option ℕ) → out_kind d.detail d.attempt ≡ o → waiting_out (moved detail (over kind m) ds) ≡ without_due kind m (waiting_out ds)
          → cons_option (out_waiting (cond (waits_for kind o && is_due m d.due) (passed_document d (Some detail)) d))
          (waiting_out (moved detail (over kind m) ds)) ≡ without_due kind m (cons_option (row_at d o) (waiting_out ds))
      go None is same = ap (λ o. cons_option (row_at d o) (waiting_out (moved detail (over kind m) ds))) is ∙ same
      go (Some k) is same = by (k == kind && is_due m d.due)
        where
          by : (t : Bool) → cons_option (out_waiting (cond t (passed_document d (Some detail)) d)) (waiting_out (moved detail (over kind m) ds))
              ≡ cond (not t) (record { kind = k; number = d.number; due = d.due } ∷ without_due kind m (waiting_out ds)) (without_due kind m (waiting_out ds))
          by true = ap (λ o. cons_option (row_at (passed_document d (Some detail)) o) (waiting_out (moved detail (over kind m) ds)))
              (ended kind detail into d.attempt) ∙ same
          by false = ap (λ o. cons_option (row_at d o) (waiting_out (moved detail (over kind m) ds))) is
              ∙ ap (λ l. record { kind = k; number = d.number; due = d.due } ∷ l) same

  left_of : (k : ℕ) (ds : List OutEntry) → documents_waiting k (moved detail (over kind m) ds) ≡ without_due kind m (documents_waiting k ds)
  left_of k ds = ap (filter (λ w. w.kind == k)) (left ds) ∙ commute (λ w. w.kind == k) (λ w. not (w.kind == kind && is_due m w.due)) (waiting_out ds)

  answers_stay : (ws : List WaitingRow) → AllByRecursion (λ w. (w.kind == to_send_receipt) ≡ true) ws → without_due kind m ws ≡ ws
  answers_stay ws all = filter_all (λ w. not (w.kind == kind && is_due m w.due)) ws
      (all_weaker (λ w. (w.kind == to_send_receipt) ≡ true) (λ w. not (w.kind == kind && is_due m w.due) ≡ true) (λ w is. one w is) ws all)
    where
      one : (w : WaitingRow) → (w.kind == to_send_receipt) ≡ true → not (w.kind == kind && is_due m w.due) ≡ true
      one w is = let same : w.kind ≡ to_send_receipt =
          grind (arith, nat_tests, is) in ap (λ t. not (t && is_due m w.due)) (ap (λ k. k == kind) same ∙ other_kind kind detail into)

  -- what waits is what waited, without what was due so
  pub waits_left : (s : State) → all_waiting (passing_in kind detail m s) ≡ without_due kind m (all_waiting s)
  waits_left s =
      let f = λ (w : WaitingRow). not (w.kind == kind && is_due m w.due) in
      let send = documents_waiting to_send s.outbox in
      let answer = waiting_in s.inbox in
      let hear = documents_waiting to_hear s.outbox in
      let end = documents_waiting to_end s.outbox in
      ap₂ ◌++◌ (left_of to_send s.outbox)
      (ap₂ ◌++◌ (sym (answers_stay answer (answers s.inbox))) (ap₂ ◌++◌ (left_of to_hear s.outbox) (left_of to_end s.outbox)))
      ∙ sym (filter-append f send (answer ++ (hear ++ end))
      ∙ ap (λ l. filter f send ++ l) (filter-append f answer (hear ++ end) ∙ ap (λ l. filter f answer ++ l) (filter-append f hear end)))

-- ---- as time passes

module _ (m : ℕ) where
  abbrev heard : OutEntry → OutEntry
  heard d = cond (over to_hear m d) (passed_document d (Some Overdue)) d

  abbrev finished : OutEntry → OutEntry
  finished d = cond (over to_end m d) (passed_document d (Some TriesUsed)) d

  -- each document passes once, and is counted once
  abbrev IsTicked : OutEntry → Type 0
  IsTicked d = (finished (heard d) ≡ passed_document d (passes_at m d))
      × (cond (over to_hear m d) 1 0 + cond (over to_end m (heard d)) 1 0 ≡ cond (is_some (passes_at m d)) 1 0)

  stayed : (d : OutEntry) (t : Bool) → (d ≡ passed_document d (cond t None None)) × (0 + 0 ≡ cond (is_some (cond {A = Option Detail} t None None)) 1 0)
  stayed d true = (refl, refl)
  stayed d false = (refl, refl)

  ticked : (d : OutEntry) (x : Detail) (a : Attempt) (u : Option ℕ) → IsTicked (record d { attempt = a; due = u; detail = x })
  ticked d New a u = stayed (record d { attempt = a; due = u; detail = New }) (is_due m u)
  ticked d Retry a u = stayed (record d { attempt = a; due = u; detail = Retry }) (is_due m u)
  ticked d Sending Idle u = stayed (record d { attempt = Idle; due = u; detail = Sending }) (is_due m u)
  ticked d Sending Running u = stayed (record d { attempt = Running; due = u; detail = Sending }) (is_due m u)
  ticked d Sending Used u = stayed (record d { attempt = Used; due = u; detail = Sending }) (is_due m u)
  ticked d Sending Last u = by (is_due m u)
    where
      by : (t : Bool)
          → (cond t (passed_document (record d { attempt = Last; due = u; detail = Sending }) (Some TriesUsed))
          (record d { attempt = Last; due = u; detail = Sending }) ≡ passed_document (record d { attempt = Last; due = u; detail = Sending })
          (cond t (Some TriesUsed) None))
          × (0 + cond t 1 0 ≡ cond (is_some (cond t (Some TriesUsed) None)) 1 0)
      by true = (refl, refl)
      by false = (refl, refl)
  ticked d Awaiting a u = by (is_due m u)
    where
      by : (t : Bool)
          → (finished (cond t (passed_document (record d { attempt = a; due = u; detail = Awaiting }) (Some Overdue))
          (record d { attempt = a; due = u; detail = Awaiting })) ≡ passed_document (record d { attempt = a; due = u; detail = Awaiting })
          (cond t (Some Overdue) None))
          × (cond t 1 0 + cond (over to_end m
          (cond t (passed_document (record d { attempt = a; due = u; detail = Awaiting }) (Some Overdue))
          (record d { attempt = a; due = u; detail = Awaiting }))) 1 0 ≡ cond (is_some (cond t (Some Overdue) None)) 1 0)
      by true = (refl, refl)
      by false = (refl, refl)
  ticked d Processed a u = stayed (record d { attempt = a; due = u; detail = Processed }) (is_due m u)
  ticked d NoReceiptAsked a u = stayed (record d { attempt = a; due = u; detail = NoReceiptAsked }) (is_due m u)
  ticked d Warning a u = stayed (record d { attempt = a; due = u; detail = Warning }) (is_due m u)
  ticked d NoMic a u = stayed (record d { attempt = a; due = u; detail = NoMic }) (is_due m u)
  ticked d UnknownMic a u = stayed (record d { attempt = a; due = u; detail = UnknownMic }) (is_due m u)
  ticked d NotProcessed a u = stayed (record d { attempt = a; due = u; detail = NotProcessed }) (is_due m u)
  ticked d ErrorModifier a u = stayed (record d { attempt = a; due = u; detail = ErrorModifier }) (is_due m u)
  ticked d MicDiffers a u = stayed (record d { attempt = a; due = u; detail = MicDiffers }) (is_due m u)
  ticked d TriesUsed a u = stayed (record d { attempt = a; due = u; detail = TriesUsed }) (is_due m u)
  ticked d Overdue a u = stayed (record d { attempt = a; due = u; detail = Overdue }) (is_due m u)

  both : (ds : List OutEntry) → map finished (map heard ds) ≡ map (λ (d : OutEntry). passed_document d (passes_at m d)) ds
  both [] = refl
  both (d ∷ ds) = ap₂ ◌∷◌ (ticked d d.detail d.attempt d.due).0 (both ds)

  long : (b : Bool) (x : OutEntry) (xs : List OutEntry) → length (cond b (x ∷ xs) xs) ≡ cond b 1 0 + length xs
  long true x xs = omega arith
  long false x xs = omega arith

  lengths : (ds : List OutEntry)
      → length (filter (over to_hear m) ds) + length (filter (over to_end m) (map heard ds)) ≡ length (filter (λ d. is_some (passes_at m d)) ds)
  lengths [] = refl
  lengths (d ∷ ds) =
      let one = long (over to_hear m d) d (filter (over to_hear m) ds) in
      let two = long (over to_end m (heard d)) (heard d) (filter (over to_end m) (map heard ds)) in
      let all = long (is_some (passes_at m d)) d (filter (λ d. is_some (passes_at m d)) ds) in
      let here = (ticked d d.detail d.attempt d.due).1 in
      omega (arith, one, two, all, here, lengths ds)

  -- time has passed once both kinds have
  pub all_ticked : (s : State) → passing_in to_end TriesUsed m (passing_in to_hear Overdue m s) ≡ (tick m s).1
  unfolding tick
  all_ticked s = ap (λ ds. record s { outbox = ds }) (both s.outbox)

  pub all_counted : (s : State) → Ticked (count_by (over to_hear m) s.outbox + count_by (over to_end m) (passing_in to_hear Overdue m s).outbox) ≡ (tick m s).0
  unfolding tick
  all_counted s = ap Ticked
      (ap₂ ◌+◌ (sym (length-filter (over to_hear m) s.outbox)) (sym (length-filter (over to_end m) (map heard s.outbox))) ∙ lengths s.outbox
      ∙ length-filter (λ d. is_some (passes_at m d)) s.outbox)

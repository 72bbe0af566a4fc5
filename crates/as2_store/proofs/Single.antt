-- The tables stand for at most one state.
use Rattle.std.proofs.Common.{◌≡◌, ℕ, zero, suc, ◌*◌, ◌==◌, ◌≤◌, ◌||◌, nat_le, List, [], ◌∷◌, ◌++◌, map, filter, find, take, length, get_or, Option, option_map, Some, None, Bool, true, false, cond, refl, sym, ap, ap₂, subst, subst₂, ◌∙◌, arith, Less, pos, IsPermutation}
use Rattle.std.specs.Bool.{⊤}
use Rattle.std.specs.List.{AllByRecursion, IsDistinct, cons_option}
use Rattle.std.proofs.lemmas.Bool.Decides.{nat_tests}
use Rattle.std.proofs.lemmas.Cmp.{on_total}
use Rattle.sqlite.specs.declared.types.Value.{Value}
use Rattle.sqlite.specs.declared.types.Value.TheVariants.{Null, Int, Text, Blob}
use Rattle.sqlite.specs.Order.{Row, column, value_cmp}
use Rattle.sqlite.specs.Tree.{IsAscending}
use Rattle.sqlite.specs.Effect.{Database}
use Rattle.sqlite_value.proofs.OrderLemmas.{value_cmp_total}
use Rattle.sqlite_trees.proofs.ListLemmas.{all_of, all_from_map, ascending-map, filter-map, IsPermutation-filter}
use Rattle.sql_tables.specs.Changes.{HasRows}
use Rattle.sql_tables.proofs.Sorting.{same_rows, one_order}
use Rattle.as2_mic.specs.declared.alg.Alg.{Alg}
use Rattle.as2_mic.specs.declared.alg.Alg.TheVariants.{Md5, Sha1, Sha256}
use Rattle.as2_mic.specs.Algs.{alg_name}
use Rattle.as2_mic.specs.Pieces.{piece_size}
use Rattle.as2_mdn.specs.declared.report.ReceiptMic.{ReceiptMic}
use Rattle.as2_mdn.specs.declared.outcome.Outcome.{Outcome}
use Rattle.as2_mdn.specs.declared.outcome.Outcome.TheVariants as outcome
use Rattle.as2_mdn.specs.declared.detail.Detail.{Detail}
use Rattle.as2_mdn.specs.declared.detail.Detail.TheVariants as detail
use Rattle.as2_exchange.specs.State.{State, Version, LaterVersion}
use Rattle.as2_exchange.specs.declared.attempt.Attempt.{Attempt}
use Rattle.as2_exchange.specs.declared.attempt.Attempt.TheVariants as attempt
use Rattle.as2_exchange.specs.declared.inbox.ReceiptDelivery.{ReceiptDelivery}
use Rattle.as2_exchange.specs.declared.inbox.ReceiptDelivery.TheVariants.{NoReceipt, Sync, Async}
use Rattle.as2_exchange.specs.declared.inbox.ReceiptStage.{ReceiptStage}
use Rattle.as2_exchange.specs.declared.inbox.ReceiptStage.TheVariants as receipt_stage
use Rattle.as2_exchange.specs.declared.inbox.InEntry.{InEntry}
use Rattle.as2_exchange.specs.declared.outbox.Evidence.{Evidence}
use Rattle.as2_exchange.specs.declared.outbox.OutEntry.{OutEntry}
use Rattle.as2_rows.specs.Rows.{whole, whole_or_null, url_value, digest_value, mic_value, in_columns, out_columns, in_row, out_row}
use Rattle.as2_rows.specs.Codes.{outcome_code, how_code, receipt_stage_code, attempt_code, detail_code}
use Rattle.as2_rows.specs.Contents.{Piece, pieces, piece_bytes, piece_shown}
use Rattle.as2_rows.specs.Summaries.{evidence_in}
use Rattle.as2_records.specs.Summaries.{in_summary, in_entry, out_summary, out_entry}
use Rattle.as2_rows.specs.declared.evidence.EvidenceRow.{EvidenceRow}
use Rattle.as2_records.specs.declared.summaries.InRow.{InRow}
use Rattle.as2_records.specs.declared.summaries.OutRow.{OutRow}
use Rattle.as2_rows.proofs.Joining.{as_many, bytes_at, one_more, all_taken, pieces_rise}
use Rattle.sqlite_trees.specs.Tree.{Trees}
use Rattle.as2_store.specs.Tables.{Way, Fresh, Migrated, Layout, VersionOne, VersionTwo, VersionThree, number_of, store_schema, origin_tree, resent_tree}
use Rattle.as2_store.specs.Stands.{Stands, Holds, HasOrigin, HasResent, HasVersion, AreBegun, meta_row, origin_row, resent_row, numbers_of, evidence_rows}
use Rattle.as2_store.specs.Calls.{Keeps}
use Rattle.as2_store.proofs.EntryPieces.{all_pieces, gathers}
use Rattle.as2_store.proofs.OutboxQueries.{receipts, row_of, of_number, rows_of, own_receipt}

-- ---- values

whole_in : (m n : ℕ) → whole m ≡ whole n → m ≡ n
whole_in m n same = cc

bytes_in : (a b : List ℕ) → Blob a ≡ Blob b → a ≡ b
bytes_in a b same = cc

optional_in : (a b : Option ℕ) → whole_or_null a ≡ whole_or_null b → a ≡ b
optional_in None None same = refl
optional_in None (Some n) same = absurd cc
optional_in (Some m) None same = absurd cc
optional_in (Some m) (Some n) same = ap Some (whole_in m n same)

-- what is read back is what was meant
by_code : {X : Type 0} (code : X → ℕ) (all : List X) (d : X) → ((x : X) → get_or all (code x) d ≡ x) → (a b : X) → whole (code a) ≡ whole (code b) → a ≡ b
by_code code all d back a b same = sym (back a) ∙ ap (λ n. get_or all n d) (whole_in (code a) (code b) same) ∙ back b

abbrev outcomes : List Outcome
outcomes =
    outcome.Processed ∷ outcome.DecryptionFailed ∷ outcome.DecompressionFailed ∷ outcome.AuthenticationFailed ∷ outcome.UnsupportedFormat
    ∷ outcome.UnsupportedMicAlgorithms ∷ outcome.Processed ∷ []

outcome_injective : (a b : Outcome) → whole (outcome_code a) ≡ whole (outcome_code b) → a ≡ b
outcome_injective = by_code outcome_code outcomes outcome.Processed back
  where
    back : (x : Outcome) → get_or outcomes (outcome_code x) outcome.Processed ≡ x
    back outcome.DecryptionFailed = refl
    back outcome.DecompressionFailed = refl
    back outcome.AuthenticationFailed = refl
    back outcome.UnsupportedFormat = refl
    back outcome.UnsupportedMicAlgorithms = refl
    back outcome.Processed = refl

abbrev receipt_states : List ReceiptStage
receipt_states = receipt_stage.Unasked ∷ receipt_stage.Unasked ∷ receipt_stage.Pending ∷ receipt_stage.Sent ∷ []

receipt_stage_in : (a b : ReceiptStage) → whole (receipt_stage_code a) ≡ whole (receipt_stage_code b) → a ≡ b
receipt_stage_in = by_code receipt_stage_code receipt_states receipt_stage.Unasked back
  where
    back : (x : ReceiptStage) → get_or receipt_states (receipt_stage_code x) receipt_stage.Unasked ≡ x
    back receipt_stage.Unasked = refl
    back receipt_stage.Pending = refl
    back receipt_stage.Sent = refl

abbrev attempts : List Attempt
attempts = attempt.Idle ∷ attempt.Idle ∷ attempt.Running ∷ attempt.Last ∷ attempt.Used ∷ []

attempt_in : (a b : Attempt) → whole (attempt_code a) ≡ whole (attempt_code b) → a ≡ b
attempt_in = by_code attempt_code attempts attempt.Idle back
  where
    back : (x : Attempt) → get_or attempts (attempt_code x) attempt.Idle ≡ x
    back attempt.Idle = refl
    back attempt.Running = refl
    back attempt.Last = refl
    back attempt.Used = refl

abbrev details : List Detail
details =
    detail.New ∷ detail.New ∷ detail.Sending ∷ detail.Awaiting ∷ detail.Retry ∷ detail.Processed ∷ detail.NoReceiptAsked ∷ detail.Warning
    ∷ detail.NoMic ∷ detail.UnknownMic ∷ detail.NotProcessed
    ∷ detail.ErrorModifier ∷ detail.MicDiffers ∷ detail.TriesUsed ∷ detail.Overdue ∷ []

detail_in : (a b : Detail) → whole (detail_code a) ≡ whole (detail_code b) → a ≡ b
detail_in = by_code detail_code details detail.New back
  where
    back : (x : Detail) → get_or details (detail_code x) detail.New ≡ x
    back detail.New = refl
    back detail.Sending = refl
    back detail.Awaiting = refl
    back detail.Retry = refl
    back detail.Processed = refl
    back detail.NoReceiptAsked = refl
    back detail.Warning = refl
    back detail.NoMic = refl
    back detail.UnknownMic = refl
    back detail.NotProcessed = refl
    back detail.ErrorModifier = refl
    back detail.MicDiffers = refl
    back detail.TriesUsed = refl
    back detail.Overdue = refl

-- how a receipt was asked for, by its code and its address
abbrev how_at : ℕ → Value → ReceiptDelivery
how_at code (Blob url) = Async url
how_at code Null = get_or (Sync ∷ NoReceipt ∷ []) code Sync
how_at code (Int n) = Sync
how_at code _ = Sync

how_in : (a b : ReceiptDelivery) → whole (how_code a) ≡ whole (how_code b) → url_value a ≡ url_value b → a ≡ b
how_in a b codes_same same = sym (back a) ∙ ap₂ how_at (whole_in (how_code a) (how_code b) codes_same) same ∙ back b
  where
    back : (x : ReceiptDelivery) → how_at (how_code x) (url_value x) ≡ x
    back NoReceipt = refl
    back Sync = refl
    back (Async url) = refl

alg_in : (a b : Alg) → Text (alg_name a) ≡ Text (alg_name b) → a ≡ b
alg_in Md5 Md5 same = refl
alg_in Md5 Sha1 same = absurd (let names : alg_name Md5 ≡ alg_name Sha1 = cc in omega (arith, ap length names))
alg_in Md5 Sha256 same = absurd (let names : alg_name Md5 ≡ alg_name Sha256 = cc in omega (arith, ap length names))
alg_in Sha1 Md5 same = absurd (let names : alg_name Sha1 ≡ alg_name Md5 = cc in omega (arith, ap length names))
alg_in Sha1 Sha1 same = refl
alg_in Sha1 Sha256 same = absurd (let names : alg_name Sha1 ≡ alg_name Sha256 = cc in omega (arith, ap length names))
alg_in Sha256 Md5 same = absurd (let names : alg_name Sha256 ≡ alg_name Md5 = cc in omega (arith, ap length names))
alg_in Sha256 Sha1 same = absurd (let names : alg_name Sha256 ≡ alg_name Sha1 = cc in omega (arith, ap length names))
alg_in Sha256 Sha256 same = refl

mic_in : (a b : Option ReceiptMic) → digest_value a ≡ digest_value b → mic_value a ≡ mic_value b → a ≡ b
mic_in None None digests texts = refl
mic_in None (Some y) digests texts = absurd cc
mic_in (Some x) None digests texts = absurd cc
mic_in (Some x) (Some y) digests texts =
    let digest = alg_in x.digest y.digest digests in
    let text = bytes_in x.text y.text texts in
    λ i. Some (record { digest = digest i; text = text i })

-- ---- rows

in_same : (a b : InRow) → whole a.number ∷ Null ∷ in_columns a ≡ whole b.number ∷ Null ∷ in_columns b → a ≡ b
in_same a b same =
    let at : (k : ℕ) → column (whole a.number ∷ Null ∷ in_columns a) k ≡ column (whole b.number ∷ Null ∷ in_columns b) k = λ k. ap (λ r. column r k) same in
    let number = whole_in a.number b.number (at 0) in
    let sender = bytes_in a.sender b.sender (at 2) in
    let receiver = bytes_in a.receiver b.receiver (at 3) in
    let id = bytes_in a.id b.id (at 5) in
    let content_type = bytes_in a.content_type b.content_type (at 6) in
    let long = whole_in a.length b.length (at 7) in
    let moment = whole_in a.moment b.moment (at 8) in
    let became = outcome_injective a.outcome b.outcome (at 9) in
    let how = how_in a.how b.how (at 10) (at 11) in
    let mic = mic_in a.mic b.mic (at 12) (at 13) in
    let receipt = receipt_stage_in a.receipt_stage b.receipt_stage (at 14) in
    let tries = whole_in a.tries b.tries (at 15) in
    let try = attempt_in a.attempt b.attempt (at 16) in
    let due = optional_in a.due b.due (at 17) in
    λ i. record {
      number = number i;
      sender = sender i;
      receiver = receiver i;
      id = id i;
      content_type = content_type i;
      length = long i;
      moment = moment i;
      outcome = became i;
      how = how i;
      mic = mic i;
      receipt_stage = receipt i;
      tries = tries i;
      attempt = try i;
      due = due i;
    }

out_same : (a b : OutRow) → whole a.number ∷ Null ∷ out_columns a ≡ whole b.number ∷ Null ∷ out_columns b → a ≡ b
out_same a b same =
    let at : (k : ℕ) → column (whole a.number ∷ Null ∷ out_columns a) k ≡ column (whole b.number ∷ Null ∷ out_columns b) k = λ k. ap (λ r. column r k) same in
    let number = whole_in a.number b.number (at 0) in
    let organization = bytes_in a.organization b.organization (at 2) in
    let partner = bytes_in a.partner b.partner (at 3) in
    let id = bytes_in a.id b.id (at 5) in
    let long = whole_in a.length b.length (at 6) in
    let moment = whole_in a.moment b.moment (at 7) in
    let tries = whole_in a.tries b.tries (at 8) in
    let try = attempt_in a.attempt b.attempt (at 9) in
    let due = optional_in a.due b.due (at 10) in
    let stands = detail_in a.detail b.detail (at 11) in
    λ i. record {
      number = number i;
      organization = organization i;
      partner = partner i;
      id = id i;
      length = long i;
      moment = moment i;
      tries = tries i;
      attempt = try i;
      due = due i;
      detail = stands i;
    }

receipt_same : (a b : EvidenceRow) → row_of a ≡ row_of b → a ≡ b
receipt_same a b same =
    let at : (k : ℕ) → column (row_of a) k ≡ column (row_of b) k = λ k. ap (λ r. column r k) same in
    let number = whole_in a.number b.number (at 0) in
    let moment = whole_in a.evidence.moment b.evidence.moment (at 2) in
    let content_type = bytes_in a.evidence.content_type b.evidence.content_type (at 3) in
    let body = bytes_in a.evidence.body b.evidence.body (at 4) in
    λ i. record { number = number i; evidence = record { moment = moment i; content_type = content_type i; body = body i } }

-- the same rows are of the same entries
same_entries : {X : Type 0} (row : X → Row) (P Q : X → Type 0) → ((x y : X) → P x → Q y → row x ≡ row y → x ≡ y) → (xs ys : List X) → map row xs ≡ map row ys
    → AllByRecursion P xs → AllByRecursion Q ys → xs ≡ ys
same_entries row P Q one [] [] same p q = refl
same_entries row P Q one [] (y ∷ ys) same p q = absurd cc
same_entries row P Q one (x ∷ xs) [] same p q = absurd cc
same_entries row P Q one (x ∷ xs) (y ∷ ys) same p q =
    let first : row x ≡ row y = cc in
    let rest : map row xs ≡ map row ys = cc in
    ap₂ ◌∷◌ (one x y p.0 q.0 first) (same_entries row P Q one xs ys rest p.1 q.1)

-- ---- contents

takes : (n m : ℕ) (c d : List ℕ) (rows : List Row) → rows ≡ map piece_shown (pieces n c) → rows ≡ map piece_shown (pieces m d) → (i : ℕ) → i ≤ length rows
    → take (i * piece_size) c ≡ take (i * piece_size) d
takes n m c d rows one other zero within = refl
takes n m c d rows one other (suc i) within =
    let less : i ≤ length rows = omega (arith, within) in
    let next = bytes_in (piece_bytes c i) (piece_bytes d i)
    (sym (bytes_at rows n c i [] one (omega (arith, within))) ∙ bytes_at rows m d i [] other (omega (arith, within))) in
    subst (λ k. take (k * piece_size) c ≡ take (k * piece_size) d) (omega arith)
    (sym (one_more c (take (i * piece_size) c) (piece_bytes c i) i refl refl) ∙ ap₂ ◌++◌ (takes n m c d rows one other i less) next
    ∙ one_more d (take (i * piece_size) d) (piece_bytes d i) i refl refl)

-- the same pieces are of the same content
joins : (n m : ℕ) (c d : List ℕ) → map piece_shown (pieces n c) ≡ map piece_shown (pieces m d) → c ≡ d
joins n m c d same =
    let rows = map piece_shown (pieces n c) in
    let k = length rows in
    sym (all_taken c k (omega (arith, as_many rows n c refl))) ∙ takes n m c d rows refl same k (omega arith)
    ∙ all_taken d k (omega (arith, as_many rows m d same))

-- the number in the first column of a piece
abbrev piece_number : Row → ℕ
piece_number (Int (pos n) ∷ r) = n
piece_number r = 0

module _ {X : Type 0} (number : X → ℕ) (content : X → List ℕ) where
  abbrev IsFound : List X → X → Type 0
  IsFound xs x = find (λ z. number z == number x) xs ≡ Some x

  further : (x : X) (xs : List X) (zs : List X) → AllByRecursion (λ m. (number x == m) ≡ false) (map number zs) → AllByRecursion (IsFound xs) zs
      → AllByRecursion (IsFound (x ∷ xs)) zs
  further x xs [] other all = tt
  further x xs (z ∷ zs) other all = (ap (λ t. cond t (Some x) (find (λ y. number y == number z) xs)) other.0 ∙ all.0, further x xs zs other.1 all.1)

  -- each entry is the one of its number
  found : (xs : List X) → IsDistinct (λ a b. a == b) (map number xs) → AllByRecursion (IsFound xs) xs
  unfolding IsDistinct
  found [] distinct = tt
  found (x ∷ xs) distinct =
      (ap (λ t. cond t (Some x) (find (λ z. number z == number x) xs)) (itself (number x)), further x xs xs distinct.0 (found xs distinct.1))
    where
      itself : (n : ℕ) → (n == n) ≡ true
      itself n = grind (arith, nat_tests)

  same_content : (rows : List Row) (xs ys : List X) → HasRows rows (map piece_shown (all_pieces number content xs))
      → HasRows rows (map piece_shown (all_pieces number content ys))
      → IsDistinct (λ a b. a == b) (map number xs) → IsDistinct (λ a b. a == b) (map number ys) → (x y : X) → IsFound xs x → IsFound ys y
      → number x ≡ number y → content x ≡ content y
  same_content rows xs ys one other first second x y here there same =
      let is_own : Row → Bool = λ r. piece_number r == number x in
      let both = IsPermutation-filter is_own _ _ (same_rows rows _ _ one other) in
      let left : filter is_own (map piece_shown (all_pieces number content xs)) ≡ map piece_shown (pieces (number x) (content x)) =
      filter-map is_own piece_shown (all_pieces number content xs) ∙ ap (map piece_shown) (gathers number content _ xs x first here) in
      let right : filter is_own (map piece_shown (all_pieces number content ys)) ≡ map piece_shown (pieces (number y) (content y)) =
      filter-map is_own piece_shown (all_pieces number content ys)
      ∙ ap (λ k. map piece_shown (filter (λ (p : Piece). p.number == k) (all_pieces number content ys))) same
      ∙ ap (map piece_shown) (gathers number content _ ys y second there) in
      let rise : (n : ℕ) (c : List ℕ)
      → IsAscending (λ (a b : Row). value_cmp (column a 1) (column b 1) ≡ Less) (map piece_shown (pieces n c)) =
      λ n c. ascending-map _ piece_shown (pieces n c) (pieces_rise n c) in
      joins (number x) (number y) (content x) (content y)
      (one_order (λ a b. value_cmp (column a 1) (column b 1)) (on_total (λ (r : Row). column r 1) value_cmp_total) _ _
      (rise (number x) (content x)) (rise (number y) (content y))
      (subst₂ IsPermutation left right both))

-- ---- evidence

abbrev first_evidence : List EvidenceRow → Option Evidence
first_evidence [] = None
first_evidence (r ∷ rs) = Some r.evidence

of_first : (n : ℕ) (o : Option Evidence) → first_evidence (cons_option (option_map (evidence_in n) o) []) ≡ o
of_first n None = refl
of_first n (Some e) = refl

same_evidence : (ds es : List OutEntry) → evidence_rows ds ≡ evidence_rows es → IsDistinct (λ a b. a == b) (map (λ (d : OutEntry). d.number) ds)
    → IsDistinct (λ a b. a == b) (map (λ (d : OutEntry). d.number) es)
    → (d e : OutEntry) → IsFound (λ (x : OutEntry). x.number) (λ x. x.content) ds d → IsFound (λ (x : OutEntry). x.number) (λ x. x.content) es e
    → d.number ≡ e.number → d.evidence ≡ e.evidence
same_evidence ds es rows first second d e here there same =
    let all : receipts ds ≡ receipts es =
    same_entries row_of (λ _. ⊤) (λ _. ⊤) (λ a b _ _ rows. receipt_same a b rows) (receipts ds) (receipts es)
    (sym (rows_of ds) ∙ rows ∙ rows_of es) (all_of (λ _. ⊤) (λ _. tt) _) (all_of (λ _. ⊤) (λ _. tt) _) in
    sym (of_first d.number d.evidence)
    ∙ ap first_evidence (sym (own_receipt _ ds d first here) ∙ ap₂ of_number same all ∙ own_receipt _ es e second there)
    ∙ of_first e.number e.evidence

-- ---- which documents are begun

row_numbers : (ds : List OutEntry) → map piece_number (map out_row ds) ≡ numbers_of ds
row_numbers [] = refl
row_numbers (d ∷ ds) = ap (λ l. d.number ∷ l) (row_numbers ds)

resent_numbers : (ns : List ℕ) → map piece_number (map resent_row ns) ≡ ns
resent_numbers [] = refl
resent_numbers (n ∷ ns) = ap (λ l. n ∷ l) (resent_numbers ns)

-- a number that none of these is stands at the head of none of them
nowhere : (was : ℕ → Bool) (n : ℕ) (ns rest : List ℕ) → AllByRecursion (λ m. (n == m) ≡ false) ns → n ∷ rest ≡ filter was ns → ⊥
nowhere was n [] rest other same = absurd cc
nowhere was n (m ∷ ns) rest other same = go (was m) same (nowhere was n ns rest other.1)
  where
    apart : (m n : ℕ) → (n == m) ≡ false → n ≡ m → ⊥
    apart m n other same = grind (arith, nat_tests, other, same)

    go : (t : Bool) → n ∷ rest ≡ cond t (m ∷ filter was ns) (filter was ns) → (n ∷ rest ≡ filter was ns → ⊥) → ⊥
    go true same later = apart m n other.0 cc
    go false same later = later same

-- what keeps the same numbers tells each of them alike
told_alike : (was now : ℕ → Bool) (ns : List ℕ) → IsDistinct (λ a b. a == b) ns → filter was ns ≡ filter now ns → AllByRecursion (λ n. was n ≡ now n) ns
unfolding IsDistinct
told_alike was now [] distinct same = tt
told_alike was now (n ∷ ns) distinct same = go (was n) (now n) refl refl same (told_alike was now ns distinct.1)
  where
    go : (t u : Bool) → was n ≡ t → now n ≡ u → cond t (n ∷ filter was ns) (filter was ns) ≡ cond u (n ∷ filter now ns) (filter now ns)
        → (filter was ns ≡ filter now ns → AllByRecursion (λ n. was n ≡ now n) ns) → (was n ≡ now n) × AllByRecursion (λ n. was n ≡ now n) ns
    go true true is too same later = (is ∙ sym too, later (let rest : filter was ns ≡ filter now ns = cc in rest))
    go true false is too same later = absurd (nowhere now n ns (filter was ns) distinct.0 same)
    go false true is too same later = absurd (nowhere was n ns (filter now ns) distinct.0 (sym same))
    go false false is too same later = (is ∙ sym too, later same)

-- by what documents of both lists are begun
record Told (ds es : List OutEntry) : Type 0 where
  pub by : ℕ → ℕ → Bool
  pub first : AllByRecursion (λ d. d.begun ≡ by d.tries d.number) ds
  pub second : AllByRecursion (λ d. d.begun ≡ by d.tries d.number) es

told_by_rows : (rows : List Row) (ds es : List OutEntry) → numbers_of ds ≡ numbers_of es → IsDistinct (λ a b. a == b) (numbers_of ds) → HasResent rows ds
    → HasResent rows es → Told ds es
told_by_rows rows ds es numbers distinct a b =
    let kept : filter a.was (numbers_of ds) ≡ filter b.was (numbers_of ds) =
    sym (resent_numbers (filter a.was (numbers_of ds))) ∙ ap (map piece_number) (sym a.rows_are ∙ b.rows_are)
    ∙ resent_numbers (filter b.was (numbers_of es)) ∙ ap (filter b.was) (sym numbers) in
    record {
      by = λ tries n. nat_le 1 tries || b.was n;
      first = both ds a.begun (all_from_map (λ n. a.was n ≡ b.was n) (λ (d : OutEntry). d.number) ds (told_alike a.was b.was (numbers_of ds) distinct kept));
      second = b.begun;
    }
  where
    both : (ds : List OutEntry) → AllByRecursion (λ d. d.begun ≡ (nat_le 1 d.tries || a.was d.number)) ds
        → AllByRecursion (λ d. a.was d.number ≡ b.was d.number) ds → AllByRecursion (λ d. d.begun ≡ (nat_le 1 d.tries || b.was d.number)) ds
    both [] is same = tt
    both (d ∷ ds) is same = (is.0 ∙ ap (λ t. nat_le 1 d.tries || t) same.0, both ds is.1 same.1)

told : (layout : Layout) (d : Database) (ds es : List OutEntry) → numbers_of ds ≡ numbers_of es → IsDistinct (λ a b. a == b) (numbers_of ds)
    → AreBegun layout d ds → AreBegun layout d es → Told ds es
told VersionOne d ds es numbers distinct a b = record { by = λ tries n. nat_le 1 tries; first = a; second = b }
told (VersionTwo way) d ds es numbers distinct a b = record { by = λ tries n. nat_le 1 tries; first = a; second = b }
told (VersionThree way) d ds es numbers distinct a b = told_by_rows (d.trees (resent_tree way)) ds es numbers distinct a b

-- ---- the version

one_origin : (rows : List Row) (v w : Version) → HasOrigin rows v → HasOrigin rows w → v ≡ w
one_origin rows v w a b =
    let both : origin_row a.number ∷ [] ≡ origin_row b.number ∷ [] = sym a.rows_are ∙ b.rows_are in
    a.version_is ∙ ap LaterVersion (whole_in a.number b.number (ap (λ l. column (get_or l 0 []) 1) both)) ∙ sym b.version_is

one_version : (layout : Layout) (d : Database) (v w : Version) → HasVersion layout d v → HasVersion layout d w → v ≡ w
one_version VersionOne d v w a b = a ∙ sym b
one_version (VersionTwo way) d v w a b = one_origin (d.trees (origin_tree way)) v w a b
one_version (VersionThree way) d v w a b = one_origin (d.trees (origin_tree way)) v w a b

-- ---- the state

module _ (ds es : List OutEntry) (it : Told ds es) where
  abbrev IsHere : OutEntry → Type 0
  IsHere d = IsFound (λ (x : OutEntry). x.number) (λ x. x.content) ds d × (d.begun ≡ it.by d.tries d.number)

  abbrev IsThere : OutEntry → Type 0
  IsThere d = IsFound (λ (x : OutEntry). x.number) (λ x. x.content) es d × (d.begun ≡ it.by d.tries d.number)

  same_begun : (d e : OutEntry) → IsHere d → IsThere e → d.tries ≡ e.tries → d.number ≡ e.number → d.begun ≡ e.begun
  same_begun d e here there tries number = here.1 ∙ ap₂ it.by tries number ∙ sym there.1

paired : {X : Type 0} (P Q : X → Type 0) (xs : List X) → AllByRecursion P xs → AllByRecursion Q xs → AllByRecursion (λ x. P x × Q x) xs
paired P Q [] p q = tt
paired P Q (x ∷ xs) p q = ((p.0, q.0), paired P Q xs p.1 q.1)

-- two states that the same tables of one version stand for are one
pub one_state : (layout : Layout) (d : Database) (s t : State) → Stands layout d s → Stands layout d t → s ≡ t
one_state layout d s t a b =
    let counters : meta_row (number_of layout) s.next_in s.next_out ∷ [] ≡ meta_row (number_of layout) t.next_in t.next_out ∷ [] = sym a.meta ∙ b.meta in
    let at : (k : ℕ) → column (meta_row (number_of layout) s.next_in s.next_out) k ≡ column (meta_row (number_of layout) t.next_in t.next_out) k =
    λ k. ap (λ l. column (get_or l 0 []) k) counters in
    let next_in = whole_in s.next_in t.next_in (at 3) in
    let next_out = whole_in s.next_out t.next_out (at 4) in
    let version = one_version layout d s.version t.version a.version b.version in
    let ins : s.inbox ≡ t.inbox =
    same_entries in_row (IsFound (λ (e : InEntry). e.number) (λ e. e.posted.content) s.inbox)
    (IsFound (λ (e : InEntry). e.number) (λ e. e.posted.content) t.inbox)
    (λ x y here there row.
    let rows = in_same (in_summary x) (in_summary y) row in
    ap₂ in_entry rows
    (same_content (λ (e : InEntry). e.number)
    (λ e. e.posted.content) _ s.inbox t.inbox a.entries.inbox_contents b.entries.inbox_contents a.receipts.1.distinct b.receipts.1.distinct x y
    here there (ap (λ (r : InRow). r.number) rows)))
    s.inbox t.inbox (sym a.entries.inbox ∙ b.entries.inbox)
    (found (λ (e : InEntry). e.number) (λ e. e.posted.content) s.inbox a.receipts.1.distinct)
    (found (λ (e : InEntry). e.number) (λ e. e.posted.content) t.inbox b.receipts.1.distinct) in
    let out_rows : map out_row s.outbox ≡ map out_row t.outbox = sym a.entries.outbox ∙ b.entries.outbox in
    let begun : Told s.outbox t.outbox =
    told layout d s.outbox t.outbox
    (sym (row_numbers s.outbox) ∙ ap (map piece_number) out_rows ∙ row_numbers t.outbox) a.documents.1.distinct a.begun b.begun in
    let outs : s.outbox ≡ t.outbox =
    same_entries out_row (IsHere s.outbox t.outbox begun) (IsThere s.outbox t.outbox begun)
    (λ x y here there row.
    let rows = out_same (out_summary x) (out_summary y) row in
    let number = ap (λ (r : OutRow). r.number) rows in
    let content = same_content (λ (d : OutEntry). d.number)
    (λ d. d.content) _ s.outbox t.outbox a.entries.outbox_contents b.entries.outbox_contents a.documents.1.distinct b.documents.1.distinct x y
    here.0 there.0 number in
    let evidence = same_evidence s.outbox t.outbox
    (sym a.entries.evidence ∙ b.entries.evidence) a.documents.1.distinct b.documents.1.distinct x y here.0 there.0 number in
    let was = same_begun s.outbox t.outbox begun x y here there (ap (λ (r : OutRow). r.tries) rows) number in
    λ i. out_entry (rows i) (was i) (content i) (evidence i))
    s.outbox t.outbox out_rows
    (paired _ _ s.outbox (found (λ (d : OutEntry). d.number) (λ d. d.content) s.outbox a.documents.1.distinct) begun.first)
    (paired _ _ t.outbox (found (λ (d : OutEntry). d.number) (λ d. d.content) t.outbox b.documents.1.distinct) begun.second) in
    λ i. record { version = version i; inbox = ins i; outbox = outs i; next_in = next_in i; next_out = next_out i }

-- ---- whatever the version

-- the numbers of the versions differ
numbered_apart : (l m : Layout) (d : Database) (s t : State) → Stands l d s → Stands m d t → number_of l ≡ number_of m
numbered_apart l m d s t a b =
    let both : meta_row (number_of l) s.next_in s.next_out ∷ [] ≡ meta_row (number_of m) t.next_in t.next_out ∷ [] = sym a.meta ∙ b.meta in
    whole_in (number_of l) (number_of m) (ap (λ r. column (get_or r 0 []) 2) both)

-- the row of an origin is none of an inbox
no_origin : (n : ℕ) (es : List InEntry) → origin_row n ∷ [] ≡ map in_row es → ⊥
no_origin n [] same = absurd cc
no_origin n (e ∷ es) same = let at : whole n ≡ Null = ap (λ l. column (get_or l 0 []) 1) same in cc

pub one_way : (v w : Way) (d e : Database) → e.trees ≡ d.trees → (s t : State) → Stands (VersionThree v) d s → Stands (VersionThree w) e t → v ≡ w
one_way Fresh Fresh d e same s t a b = refl
one_way Fresh Migrated d e same s t a b =
    absurd (no_origin a.version.number t.inbox (sym a.version.rows_are ∙ ap (λ (f : Trees). f 13) (sym same) ∙ b.entries.inbox))
one_way Migrated Fresh d e same s t a b = absurd (no_origin b.version.number s.inbox (sym b.version.rows_are ∙ ap (λ (f : Trees). f 13) same ∙ a.entries.inbox))
one_way Migrated Migrated d e same s t a b = refl

second_way : (v w : Way) (d : Database) (s t : State) → Stands (VersionTwo v) d s → Stands (VersionTwo w) d t → v ≡ w
second_way Fresh Fresh d s t a b = refl
second_way Fresh Migrated d s t a b = absurd (no_origin a.version.number t.inbox (sym a.version.rows_are ∙ b.entries.inbox))
second_way Migrated Fresh d s t a b = absurd (no_origin b.version.number s.inbox (sym b.version.rows_are ∙ a.entries.inbox))
second_way Migrated Migrated d s t a b = refl

-- two states that the same tables stand for, whatever their version, are one
pub one_at_most : (l m : Layout) (d : Database) (s t : State) → Stands l d s → Stands m d t → s ≡ t
one_at_most VersionOne VersionOne d s t a b = one_state VersionOne d s t a b
one_at_most VersionOne (VersionTwo w) d s t a b = absurd (omega (arith, numbered_apart VersionOne (VersionTwo w) d s t a b))
one_at_most VersionOne (VersionThree w) d s t a b = absurd (omega (arith, numbered_apart VersionOne (VersionThree w) d s t a b))
one_at_most (VersionTwo v) VersionOne d s t a b = absurd (omega (arith, numbered_apart (VersionTwo v) VersionOne d s t a b))
one_at_most (VersionTwo v) (VersionTwo w) d s t a b = one_state (VersionTwo w) d s t (subst (λ way. Stands (VersionTwo way) d s) (second_way v w d s t a b) a) b
one_at_most (VersionTwo v) (VersionThree w) d s t a b = absurd (omega (arith, numbered_apart (VersionTwo v) (VersionThree w) d s t a b))
one_at_most (VersionThree v) VersionOne d s t a b = absurd (omega (arith, numbered_apart (VersionThree v) VersionOne d s t a b))
one_at_most (VersionThree v) (VersionTwo w) d s t a b = absurd (omega (arith, numbered_apart (VersionThree v) (VersionTwo w) d s t a b))
one_at_most (VersionThree v) (VersionThree w) d s t a b =
    one_state (VersionThree w) d s t (subst (λ way. Stands (VersionThree way) d s) (one_way v w d d refl s t a b) a) b

pub one_held : (d : Database) (s t : State) → Holds d s → Holds d t → s ≡ t
one_held d s t a b = one_at_most (VersionThree a.way) (VersionThree b.way) d s t a.stands b.stands

-- and what a stop leaves stands for one state at most
pub one_kept : (db : Trees) (s t : State) → Keeps db s → Keeps db t → s ≡ t
one_kept db s t a b =
    let at : Way → Database = λ way. record { schema = store_schema way; trees = db } in
    one_state (VersionThree b.way) (at b.way) s t
    (subst (λ way. Stands (VersionThree way) (at way) s) (one_way a.way b.way (at a.way) (at b.way) refl s t a.stands b.stands) a.stands) b.stands

-- Where the row of a receipt that is to be sent goes among what waits.
use Rattle.std.proofs.Common.{◌≡◌, ℕ, ◌<◌, ◌==◌, List, [], ◌∷◌, ◌++◌, map, Option, option_map, Some, None, IfSome, Bool, true, false, cond, Ok, refl, sym, ap, subst, pos, ◌∙◌, arith, append-nil, append_assoc}
use Rattle.std.specs.List.{AllByRecursion, filter, cons_option}
use Rattle.std.proofs.lemmas.List.Elements.{filter_map-append}
use Rattle.std.proofs.lemmas.Bool.Decides.{nat_tests}
use Rattle.sqlite.specs.declared.types.Value.TheVariants.{Int}
use Rattle.sqlite.specs.Order.{Row}
use Rattle.sqlite.specs.Kind.TheVariants.{Integer}
use Rattle.sqlite.specs.Cast.{cast}
use Rattle.sqlite.specs.Values.{bound_value, or_null}
use Rattle.sqlite.specs.Tree.{put_row}
use Rattle.sqlite.specs.State.{State as Connected, Executes}
use Rattle.sqlite_trees.proofs.ListLemmas.{all-append, all_weaker}
use Rattle.sql_tables.proofs.Writes.{cast_int, cast_null, IsOneRow, inserts_given}
use Rattle.as2_exchange.specs.State.{State, end_of_numbers}
use Rattle.as2_exchange.specs.declared.inbox.InEntry.{InEntry}
use Rattle.as2_exchange.specs.declared.inbox.ReceiptStage.{ReceiptStage}
use Rattle.as2_exchange.specs.declared.inbox.ReceiptStage.TheVariants.{Unasked, Pending, Sent}
use Rattle.as2_exchange.specs.declared.attempt.Attempt.{Attempt}
use Rattle.as2_exchange.specs.declared.attempt.Attempt.TheVariants.{Idle, Running, Last, Used}
use Rattle.as2_exchange.specs.declared.outbox.OutEntry.{OutEntry}
use Rattle.as2_rows.specs.Rows.{whole, whole_or_null}
use Rattle.as2_rows.specs.Waiting.{WaitingRow, out_kind, in_kind, in_waiting, waiting_in, waiting_out, waiting_shown, to_send, to_send_receipt, to_hear, to_end}
use Rattle.as2_store.specs.Tables.{Way, store_schema, waiting_table}
use Rattle.as2_store.proofs.Statements.{waiting_put_text}
use Rattle.as2_store.specs.Stands.{place, waiting_row, documents_waiting, all_waiting}
use Rattle.as2_store.specs.Adding.{NotesWaiting, noted_rows}
use Rattle.as2_records.specs.Adding.{with_received}
use Rattle.as2_store.proofs.NumberedRows.{puts_between}
use Rattle.as2_store.proofs.Texts.{waiting_put_terms, waiting_put_is, waiting_put_plain}

-- ---- the statement

pub cast_optional : (n : Option ℕ) → cast Integer (whole_or_null n) ≡ whole_or_null n
cast_optional None = cast_null
cast_optional (Some n) = cast_int (pos n)

pub bound_optional : (n : Option ℕ) → bound_value (or_null Int (option_map pos n)) ≡ whole_or_null n
bound_optional None = refl
bound_optional (Some n) = refl

abbrev pub waiting_params : WaitingRow → Row
waiting_params w = whole (place w) ∷ waiting_shown w

one_waiting : (w : WaitingRow) → IsOneRow waiting_table (waiting_params w) waiting_put_terms 5 (waiting_row w)
one_waiting w = record { source = waiting_row w; made = refl; cast_is = simp (cast_int, cast_null, cast_optional) }

pub puts_waiting : (way : Way) (old new : Connected) (w : WaitingRow) (count : ℕ) → old.now.schema ≡ store_schema way
    → Executes waiting_put_text (waiting_params w) old new (Ok count) → NotesWaiting way old new (Some w)
puts_waiting way old new w count has h =
    inserts_given waiting_put_text (waiting_params w) old new (store_schema way) has 6 waiting_table refl refl waiting_put_terms 5 (waiting_row w)
    (one_waiting w) refl (waiting_put_is way) (waiting_put_plain way) count h

-- ---- kinds and numbers of what waits

abbrev pub IsEvidenceAsked : ℕ → ℕ → WaitingRow → Type 0
IsEvidenceAsked kind next w = (w.kind ≡ kind) × (w.number < next)

small_out : (next n : ℕ) (due : Option ℕ) (o : Option ℕ) (rest : List WaitingRow) → n < next → AllByRecursion (λ w. w.number < next) rest
    → AllByRecursion (λ w. w.number < next) (cons_option (option_map (λ kind. record { kind = kind; number = n; due = due }) o) rest)
small_out next n due None rest small all = all
small_out next n due (Some kind) rest small all = (small, all)

outs_small : (next : ℕ) (ds : List OutEntry) → AllByRecursion (λ n. n < next) (map (λ (d : OutEntry). d.number) ds)
    → AllByRecursion (λ w. w.number < next) (waiting_out ds)
outs_small next [] all = tt
outs_small next (d ∷ ds) all = small_out next d.number d.due (out_kind d.detail d.attempt) (waiting_out ds) all.0 (outs_small next ds all.1)

small_in : (next n : ℕ) (due : Option ℕ) (m : ReceiptStage) (a : Attempt) (rest : List WaitingRow) → n < next
    → AllByRecursion (IsEvidenceAsked to_send_receipt next) rest
    → AllByRecursion (IsEvidenceAsked to_send_receipt next)
    (cons_option (option_map (λ kind. record { kind = kind; number = n; due = due }) (in_kind m a)) rest)
small_in next n due Pending Idle rest small all = ((refl, small), all)
small_in next n due Pending Running rest small all = ((refl, small), all)
small_in next n due Pending Last rest small all = all
small_in next n due Pending Used rest small all = all
small_in next n due Unasked a rest small all = all
small_in next n due Sent a rest small all = all

pub ins_small : (next : ℕ) (es : List InEntry) → AllByRecursion (λ n. n < next) (map (λ (e : InEntry). e.number) es)
    → AllByRecursion (IsEvidenceAsked to_send_receipt next) (waiting_in es)
ins_small next [] all = tt
ins_small next (e ∷ es) all = small_in next e.number e.due e.receipt_stage e.attempt (waiting_in es) all.0 (ins_small next es all.1)

kind_below : (kind next : ℕ) (ws : List WaitingRow) → AllByRecursion (λ w. w.number < next) ws
    → AllByRecursion (IsEvidenceAsked kind next) (filter (λ w. w.kind == kind) ws)
kind_below kind next [] all = tt
kind_below kind next (w ∷ ws) all = go (w.kind == kind) refl (kind_below kind next ws all.1)
  where
    go : (t : Bool) → (w.kind == kind) ≡ t → AllByRecursion (IsEvidenceAsked kind next) (filter (λ w. w.kind == kind) ws)
        → AllByRecursion (IsEvidenceAsked kind next) (cond t (w ∷ filter (λ w. w.kind == kind) ws) (filter (λ w. w.kind == kind) ws))
    go true is rest = ((grind (arith, nat_tests), all.0), rest)
    go false is rest = rest

pub documents_of : (kind next : ℕ) (ds : List OutEntry) → AllByRecursion (λ n. n < next) (map (λ (d : OutEntry). d.number) ds)
    → AllByRecursion (IsEvidenceAsked kind next) (documents_waiting kind ds)
documents_of kind next ds all = kind_below kind next (waiting_out ds) (outs_small next ds all)

-- ---- the rows with one more

abbrev pub IsLast : ℕ → WaitingRow → Type 0
IsLast n w = (w.kind ≡ to_send_receipt) × (w.number ≡ n)

pub kind_is_last : (m : ReceiptStage) (a : Attempt) (n : ℕ) (due : Option ℕ)
    → IfSome (option_map (λ kind. record { kind = kind; number = n; due = due }) (in_kind m a)) (IsLast n)
kind_is_last Pending Idle n due = (refl, refl)
kind_is_last Pending Running n due = (refl, refl)
kind_is_last Pending Last n due = tt
kind_is_last Pending Used n due = tt
kind_is_last Unasked a n due = tt
kind_is_last Sent a n due = tt

noted_in : (n : ℕ) (o : Option WaitingRow) → IfSome o (IsLast n) → n < end_of_numbers → (send answer hear end : List WaitingRow)
    → AllByRecursion (IsEvidenceAsked to_send end_of_numbers) send → AllByRecursion (IsEvidenceAsked to_send_receipt n) answer
    → AllByRecursion (IsEvidenceAsked to_hear end_of_numbers) hear → AllByRecursion (IsEvidenceAsked to_end end_of_numbers) end
    → noted_rows o (map waiting_row (send ++ (answer ++ (hear ++ end)))) ≡ map waiting_row (send ++ ((answer ++ cons_option o []) ++ (hear ++ end)))
noted_in n None last small send answer hear end s a h e = ap (λ l. map waiting_row (send ++ (l ++ (hear ++ end)))) (sym (append-nil answer))
noted_in n (Some w) last small send answer hear end s a h e =
    let low = all-append (λ q. place q < place w) send answer
    (all_weaker (IsEvidenceAsked to_send end_of_numbers) (λ q. place q < place w) (λ q is. omega (arith, is.0, is.1, last.0, last.1)) send s)
    (all_weaker (IsEvidenceAsked to_send_receipt n) (λ q. place q < place w) (λ q is. omega (arith, is.0, is.1, last.0, last.1)) answer a) in
    let high = all-append (λ q. place w < place q) hear end
    (all_weaker (IsEvidenceAsked to_hear end_of_numbers) (λ q. place w < place q) (λ q is. omega (arith, is.0, is.1, last.0, last.1)) hear h)
    (all_weaker (IsEvidenceAsked to_end end_of_numbers) (λ q. place w < place q) (λ q is. omega (arith, is.0, is.1, last.0, last.1)) end e) in
    ap (λ l. put_row (waiting_row w) (map waiting_row l)) (sym (append_assoc send answer (hear ++ end)))
    ∙ puts_between waiting_row place (λ _. refl) w (send ++ answer) (hear ++ end) low high
    ∙ ap (map waiting_row) (append_assoc send answer (w ∷ (hear ++ end)) ∙ ap (λ l. send ++ l) (sym (append_assoc answer (w ∷ []) (hear ++ end))))

pub noted : (s : State) (e : InEntry) → AllByRecursion (λ n. n < s.next_in) (map (λ (x : InEntry). x.number) s.inbox)
    → AllByRecursion (λ n. n < end_of_numbers) (map (λ (x : OutEntry). x.number) s.outbox)
    → e.number ≡ s.next_in → e.number < end_of_numbers
    → noted_rows (in_waiting e) (map waiting_row (all_waiting s)) ≡ map waiting_row (all_waiting (with_received s e))
noted s e ins outs is small =
    noted_in e.number (in_waiting e) (kind_is_last e.receipt_stage e.attempt e.number e.due) small (documents_waiting to_send s.outbox)
    (waiting_in s.inbox) (documents_waiting to_hear s.outbox) (documents_waiting to_end s.outbox)
    (documents_of to_send end_of_numbers s.outbox outs)
    (subst (λ n. AllByRecursion (IsEvidenceAsked to_send_receipt n) (waiting_in s.inbox)) (sym is) (ins_small s.next_in s.inbox ins))
    (documents_of to_hear end_of_numbers s.outbox outs) (documents_of to_end end_of_numbers s.outbox outs)
    ∙ ap (λ l. map waiting_row
    (documents_waiting to_send s.outbox ++ (l ++ (documents_waiting to_hear s.outbox ++ documents_waiting to_end s.outbox))))
    (sym (filter_map-append in_waiting s.inbox (e ∷ [])))

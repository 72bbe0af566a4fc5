-- The listings of a state, told by its rows; and that numbers of a state rise.
use Rattle.std.proofs.Common.{◌≡◌, ◌∙◌, ◌==◌, ◌++◌, ◌&&◌, ℕ, ◌<◌, false, List, [], ◌∷◌, Option, map, ap, arith}
use Rattle.std.specs.Prelude.{nat_lt}
use Rattle.std.specs.List.{AllByRecursion, IsDistinct, filter, flat_map}
use Rattle.std.proofs.lemmas.Bool.Decides.{nat_tests}
use Rattle.std.proofs.lemmas.List.Folds.{flat_map-map}
use Rattle.as2_mdn.specs.declared.detail.DetailClass.{DetailClass}
use Rattle.as2_exchange.specs.Invariants.{AreNumbers}
use Rattle.as2_exchange.specs.State.{State, is_settled}
use Rattle.as2_exchange.specs.Tries.{is_due}
use Rattle.as2_exchange.specs.Progress.{is_in, is_under_way}
use Rattle.as2_views.specs.Texts.{list_in, list_out, outstanding_text}
use Rattle.as2_records.specs.Summaries.{in_summary, out_summary}
use Rattle.as2_records.specs.Counting.{counts_of}
use Rattle.as2_views.specs.Counting.{counts_text}
use Rattle.as2_records.specs.Listing.{settled_numbers}
use Rattle.as2_views.specs.Lists.{Rise, document_numbers, is_outstanding, marked_line}
use Rattle.as2_views.specs.RowLines.{in_row_line}
use Rattle.as2_views.proofs.Marks.{kept_rows, lines, marks, rise_kept}

-- ---- numbers

beyond : (n : ℕ) (ns : List ℕ) → AllByRecursion (λ m. (n == m) ≡ false) ns → AllByRecursion (λ m. nat_lt m n ≡ false) ns → AllByRecursion (λ m. n < m) ns
beyond n [] other no_lower = tt
beyond n (m ∷ ns) other no_lower = (one m other.0 no_lower.0, beyond n ns other.1 no_lower.1)
  where
    one : (m : ℕ) → (n == m) ≡ false → nat_lt m n ≡ false → n < m
    one m other no_lower = grind (arith, nat_tests)

rising : (ns : List ℕ) → IsDistinct (λ a b. a == b) ns → IsDistinct (λ a b. nat_lt b a) ns → Rise ns
unfolding IsDistinct
rising [] distinct in_order = tt
rising (n ∷ ns) distinct in_order = (beyond n ns distinct.0 in_order.0, rising ns distinct.1 in_order.1)

-- numbers that were given in turn rise
pub given_rise : (next : ℕ) (ns : List ℕ) → AreNumbers next ns → Rise ns
given_rise next ns h = rising ns h.distinct h.in_order

-- so do those of the settled documents
pub settled_rise : (s : State) → Rise (document_numbers s) → Rise (settled_numbers s)
settled_rise s up = rise_kept is_settled s.outbox up

-- ---- listings

pub inbox_lines : (s : State) → flat_map in_row_line (map in_summary s.inbox) ≡ list_in s
inbox_lines s = flat_map-map in_row_line in_summary s.inbox

pub outbox_lines : (s : State) (wanted : Option DetailClass) → Rise (document_numbers s)
    → flat_map (marked_line (settled_numbers s)) (map out_summary (filter (is_in wanted) s.outbox)) ≡ list_out s wanted
outbox_lines s wanted up = lines (settled_numbers s) (is_in wanted) s.outbox (marks s.outbox up)

pub outstanding_lines : (s : State) (m : ℕ) → Rise (document_numbers s)
    → counts_text (counts_of s) ++ flat_map (marked_line (settled_numbers s)) (filter (is_outstanding m) (map out_summary s.outbox)) ≡ outstanding_text s m
outstanding_lines s m up =
    ap (λ l. counts_text (counts_of s) ++ l)
    (ap (flat_map (marked_line (settled_numbers s))) (kept_rows (is_outstanding m) s.outbox)
    ∙ lines (settled_numbers s) (λ d. is_under_way d.detail && is_due m d.due) s.outbox (marks s.outbox up))

-- The marks of the documents' lines: among numbers that rise, a document's is one of the settled ones exactly where it is
-- settled.
use Rattle.std.proofs.Common.{◌≡◌, ◌∙◌, ◌==◌, ◌++◌, ℕ, ◌<◌, Bool, true, false, List, [], ◌∷◌, map, refl, ap, arith}
use Rattle.std.specs.Prelude.{◌||◌, if◌then◌else◌, None}
use Rattle.std.specs.List.{AllByRecursion, filter, flat_map}
use Rattle.std.proofs.lemmas.Bool.Decides.{nat_tests}
use Rattle.as2_exchange.specs.State.{is_settled}
use Rattle.as2_exchange.specs.declared.outbox.OutEntry.{OutEntry}
use Rattle.as2_exchange.specs.Agreement.{Text}
use Rattle.as2_exchange.specs.Progress.{is_in}
use Rattle.as2_views.specs.Texts.{out_line}
use Rattle.as2_records.specs.declared.summaries.OutRow.{OutRow}
use Rattle.as2_records.specs.Summaries.{out_summary}
use Rattle.as2_views.specs.Lists.{Rise, is_one_of, marked_line}
use Rattle.as2_views.specs.RowLines.{out_row_line}
use Rattle.as2_views.proofs.Searching.{above, below}

abbrev numbers : List OutEntry → List ℕ
numbers ds = map (λ d. d.number) ds

-- the document, where it is to be kept, and the rest
abbrev kept : Bool → OutEntry → List OutEntry → List OutEntry
kept is_kept d rest = if is_kept then d ∷ rest else rest

-- ---- numbers that rise

all_if : (n : ℕ) (b : Bool) (d : OutEntry) (rest : List OutEntry) → n < d.number → AllByRecursion (λ k. n < k) (numbers rest)
    → AllByRecursion (λ k. n < k) (numbers (kept b d rest))
all_if n true d rest here h = (here, h)
all_if n false d rest here h = h

all_kept : (p : OutEntry → Bool) (n : ℕ) (ds : List OutEntry) → AllByRecursion (λ k. n < k) (numbers ds) → AllByRecursion (λ k. n < k) (numbers (filter p ds))
all_kept p n [] h = h
all_kept p n (d ∷ ds) h = all_if n (p d) d (filter p ds) h.0 (all_kept p n ds h.1)

rise_if : (b : Bool) (d : OutEntry) (rest : List OutEntry) → AllByRecursion (λ k. d.number < k) (numbers rest) → Rise (numbers rest)
    → Rise (numbers (kept b d rest))
rise_if true d rest h up = (h, up)
rise_if false d rest h up = up

-- they rise where some are left out
pub rise_kept : (p : OutEntry → Bool) (ds : List OutEntry) → Rise (numbers ds) → Rise (numbers (filter p ds))
rise_kept p [] up = up
rise_kept p (d ∷ ds) up = rise_if (p d) d (filter p ds) (all_kept p d.number ds up.0) (rise_kept p ds up.1)

-- ---- numbers that are settled

none : (n : ℕ) (ns : List ℕ) → AllByRecursion (λ k. n < k) ns → is_one_of ns n ≡ false
none n [] h = refl
none n (k ∷ ns) h = ap (λ b. b || is_one_of ns n) (above n k h.0) ∙ none n ns h.1

itself : (n : ℕ) → (n == n) ≡ true
itself n = grind (arith, nat_tests)

of_first : (b : Bool) (d : OutEntry) (rest : List OutEntry) → is_one_of (numbers rest) d.number ≡ false → is_one_of (numbers (kept b d rest)) d.number ≡ b
of_first true d rest h = ap (λ b. b || is_one_of (numbers rest) d.number) (itself d.number)
of_first false d rest h = h

of_later : (b : Bool) (d : OutEntry) (rest : List OutEntry) (k : ℕ) → d.number < k → is_one_of (numbers (kept b d rest)) k ≡ is_one_of (numbers rest) k
of_later true d rest k l = ap (λ b. b || is_one_of (numbers rest) k) (below d.number k l)
of_later false d rest k l = refl

abbrev IsMarked : List ℕ → OutEntry → Type 0
IsMarked settled d = is_one_of settled d.number ≡ is_settled d

still : (b : Bool) (d : OutEntry) (rest ds : List OutEntry) → AllByRecursion (λ k. d.number < k) (numbers ds) → AllByRecursion (IsMarked (numbers rest)) ds
    → AllByRecursion (IsMarked (numbers (kept b d rest))) ds
still b d rest [] h m = m
still b d rest (e ∷ ds) h m = (of_later b d rest e.number h.0 ∙ m.0, still b d rest ds h.1 m.1)

-- each document's number is one of the settled ones exactly where the document is settled
pub marks : (ds : List OutEntry) → Rise (numbers ds) → AllByRecursion (IsMarked (numbers (filter is_settled ds))) ds
marks [] up = up
marks (d ∷ ds) up = (
  of_first (is_settled d) d (filter is_settled ds) (none d.number (numbers (filter is_settled ds)) (all_kept is_settled d.number ds up.0)),
  still (is_settled d) d (filter is_settled ds) ds up.0 (marks ds up.1),
)

-- ---- lines

abbrev row_lines : List ℕ → List OutEntry → Text
row_lines settled ds = flat_map (marked_line settled) (map out_summary ds)

lines_if : (b : Bool) (settled : List ℕ) (d : OutEntry) (rest : List OutEntry) → IsMarked settled d → row_lines settled rest ≡ flat_map out_line rest
    → row_lines settled (kept b d rest) ≡ flat_map out_line (kept b d rest)
lines_if true settled d rest mark same =
    ap (λ b. out_row_line b (out_summary d) ++ row_lines settled rest) mark
    ∙ ap (λ l. out_line d ++ l) same
lines_if false settled d rest mark same = same

-- the lines of the rows are those of the documents
pub lines : (settled : List ℕ) (p : OutEntry → Bool) (ds : List OutEntry) → AllByRecursion (IsMarked settled) ds
    → row_lines settled (filter p ds) ≡ flat_map out_line (filter p ds)
lines settled p [] m = refl
lines settled p (d ∷ ds) m = lines_if (p d) settled d (filter p ds) m.0 (lines settled p ds m.1)

rows_if : (b : Bool) (d : OutEntry) (rest : List OutEntry) (rows : List OutRow) → rows ≡ map out_summary rest
    → (if b then out_summary d ∷ rows else rows) ≡ map out_summary (kept b d rest)
rows_if true d rest rows h = ap (λ l. out_summary d ∷ l) h
rows_if false d rest rows h = h

-- the rows that are kept are those of the documents that are
pub kept_rows : (p : OutRow → Bool) (ds : List OutEntry) → filter p (map out_summary ds) ≡ map out_summary (filter (λ d. p (out_summary d)) ds)
kept_rows p [] = refl
kept_rows p (d ∷ ds) = rows_if (p (out_summary d)) d (filter (λ e. p (out_summary e)) ds) (filter p (map out_summary ds)) (kept_rows p ds)

-- all documents are listed where no state is asked for
pub all_listed : (ds : List OutEntry) → filter (is_in None) ds ≡ ds
all_listed [] = refl
all_listed (d ∷ ds) = ap (λ l. d ∷ l) (all_listed ds)

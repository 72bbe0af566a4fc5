-- Texts of rows are those of each state that the tables stand for.
use Rattle.std.proofs.Common.{◌≡◌, ◌∙◌, ◌++◌, ℕ, List, map, Option, None, Result, Ok, Err, IfOk, String, Vec, Global, string_bytes, sym, ap, ap₂, subst}
use Rattle.std.specs.List.{filter, flat_map}
use Rattle.as2_records.specs.Standing.{Medium, Standing}
use Rattle.as2_mdn.specs.declared.detail.DetailClass.{DetailClass}
use Rattle.as2_exchange.specs.State.{State}
use Rattle.as2_views.specs.Texts.{list_in, list_out, outstanding_text}
use Rattle.as2_exchange.specs.declared.fault.StoreFault.{StoreFault}
use Rattle.as2_records.specs.Summaries.{in_summary, out_summary}
use Rattle.as2_records.specs.declared.summaries.InRow.{InRow}
use Rattle.as2_records.specs.declared.summaries.OutRow.{OutRow}
use Rattle.as2_records.specs.Calls.{Reads}
use Rattle.as2_records.specs.Listing.{listed_rows, settled_numbers}
use Rattle.as2_records.proofs.Following.{read_if, read_then, reads_standing}
use Rattle.as2_records.specs.declared.counts.Counts.{Counts}
use Rattle.as2_records.specs.Counting.{counts_of}
use Rattle.as2_views.specs.Counting.{counts_text}
use Rattle.as2_views.specs.Lists.{Rise, document_numbers, is_outstanding, marked_line}
use Rattle.as2_views.specs.RowLines.{in_row_line}
use Rattle.as2_views.proofs.Listings.{given_rise, inbox_lines, outbox_lines, outstanding_lines, settled_rise}
use Rattle.as2_views.proofs.Marks.{all_listed}
use Rattle.as2_station.specs.declared.viewing.Marked.{Marked}

-- ---- received documents

pub received_lines : {M : Medium} (old new : Standing M) (rows : Vec InRow Global) (shown : List InRow) (r : Result (String Global) StoreFault)
    → shown ≡ rows.items → IfOk r (λ t. string_bytes t ≡ flat_map in_row_line shown)
    → Reads {A = Vec InRow Global} {E = StoreFault} (λ s es. es.items ≡ map in_summary s.inbox) old new (Ok rows)
    → Reads (λ s t. string_bytes t ≡ list_in s) old new r
received_lines old new rows shown r same lines it =
    read_if _ (λ s t. string_bytes t ≡ list_in s) old new rows r (λ t. string_bytes t ≡ flat_map in_row_line shown) lines
    (λ s t told known. told ∙ ap (flat_map in_row_line) (same ∙ known) ∙ inbox_lines s) it

-- ---- documents that are sent

-- what is known of rows with the numbers of the settled documents
abbrev Known : Option DetailClass → State → Marked → Type 0
Known wanted s m = (m.rows.items ≡ listed_rows wanted s) × (m.settled.items ≡ settled_numbers s)

-- the same, and that numbers rise
abbrev Rising : Option DetailClass → State → Marked → Type 0
Rising wanted s m = Known wanted s m × Rise (document_numbers s)

rising : {M : Medium} (wanted : Option DetailClass) (old new : Standing M) (m : Marked) → Reads {A = Marked} {E = StoreFault} (Known wanted) old new (Ok m)
    → Reads {A = Marked} {E = StoreFault} (Rising wanted) old new (Ok m)
rising wanted old new m it =
    reads_standing (Known wanted) (Rising wanted) old new (Ok m) (λ s m stands known. (known, given_rise s.next_out (document_numbers s) stands.documents.1)) it

-- what holds of an answer where numbers rise
under : {B F X : Type 0} (Q : B → Type 0) (r : Result B F) → (X → IfOk r Q) → IfOk r (λ b. X → Q b)
under Q (Ok b) h = h
under Q (Err e) h = tt

module _ {M : Medium} (old new : Standing M) (m : Marked) (rows : List OutRow) (settled : List ℕ) (r : Result (String Global) StoreFault)
    (same_rows : rows ≡ m.rows.items) (same_settled : settled ≡ m.settled.items) where
  pub sent_lines : (wanted : Option DetailClass) → (Rise settled → IfOk r (λ t. string_bytes t ≡ flat_map (marked_line settled) rows))
      → Reads {A = Marked} {E = StoreFault} (Known wanted) old new (Ok m) → Reads (λ s t. string_bytes t ≡ list_out s wanted) old new r
  sent_lines wanted lines it =
      read_if (Rising wanted) (λ s t. string_bytes t ≡ list_out s wanted) old new m r
      (λ t. Rise settled → string_bytes t ≡ flat_map (marked_line settled) rows) (under _ r lines)
      (λ s t told known.
      let numbers = same_settled ∙ known.0.1 in
      told (subst Rise (sym numbers) (settled_rise s known.1)) ∙ ap₂ (λ n l. flat_map (marked_line n) l) numbers (same_rows ∙ known.0.0)
      ∙ outbox_lines s wanted known.1)
      (rising wanted old new m it)

  -- with the counts, where these were read before
  outstanding_known : (moment : ℕ) (counts : Counts)
      → (Rise settled → IfOk r (λ t. string_bytes t ≡ counts_text counts ++ flat_map (marked_line settled) (filter (is_outstanding moment) rows)))
      → Reads {A = Marked} {E = StoreFault} (Known None) old new (Ok m)
      → Reads (λ s t. counts ≡ counts_of s → string_bytes t ≡ outstanding_text s moment) old new r
  outstanding_known moment counts lines it =
      read_if (Rising None) (λ s t. counts ≡ counts_of s → string_bytes t ≡ outstanding_text s moment) old new m r
      (λ t. Rise settled → string_bytes t ≡ counts_text counts ++ flat_map (marked_line settled) (filter (is_outstanding moment) rows)) (under _ r lines)
      (λ s t told known counted.
      let numbers = same_settled ∙ known.0.1 in
      let all = same_rows ∙ known.0.0 ∙ ap (map out_summary) (all_listed s.outbox) in
      told (subst Rise (sym numbers) (settled_rise s known.1))
      ∙ ap₂ (λ n l. counts_text counts ++ flat_map (marked_line n) (filter (is_outstanding moment) l)) numbers all
      ∙ ap (λ c. counts_text c ++ flat_map (marked_line (settled_numbers s)) (filter (is_outstanding moment) (map out_summary s.outbox))) counted
      ∙ outstanding_lines s moment known.1)
      (rising None old new m it)

  pub outstanding_shown : (first : Standing M) (moment : ℕ) (counts : Counts)
      → (Rise settled → IfOk r (λ t. string_bytes t ≡ counts_text counts ++ flat_map (marked_line settled) (filter (is_outstanding moment) rows)))
      → Reads {A = Counts} {E = StoreFault} (λ s c. c ≡ counts_of s) first old (Ok counts) → Reads {A = Marked} {E = StoreFault} (Known None) old new (Ok m)
      → Reads (λ s t. string_bytes t ≡ outstanding_text s moment) first new r
  outstanding_shown first moment counts lines one two =
      read_then (λ s c. c ≡ counts_of s) (λ s t. counts ≡ counts_of s → string_bytes t ≡ outstanding_text s moment)
      (λ s t. string_bytes t ≡ outstanding_text s moment) first old new counts r (λ s t rests known more. more known) one
      (outstanding_known moment counts lines two)

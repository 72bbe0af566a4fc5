-- Lines of rows are those of the documents of the state, whatever chose them.
use Rattle.std.proofs.Common.{◌≡◌, ◌∙◌, ◌++◌, ℕ, List, None, map, sym, ap, ap₂, subst}
use Rattle.std.specs.List.{filter}
use Rattle.as2_exchange.specs.Agreement.{Text}
use Rattle.as2_exchange.specs.State.{State}
use Rattle.as2_records.specs.Listing.{listed_rows, settled_numbers}
use Rattle.as2_records.specs.Standing.{IsCounted}
use Rattle.as2_records.specs.Summaries.{out_summary}
use Rattle.as2_records.specs.declared.summaries.OutRow.{OutRow}
use Rattle.as2_views.specs.Lists.{Rise, document_numbers, is_outstanding}
use Rattle.as2_views.proofs.Listings.{given_rise, settled_rise}
use Rattle.as2_views.proofs.Marks.{all_listed, kept_rows, marks}
use Rattle.as2_json.specs.Lines.{object_lines}
use Rattle.as2_json.specs.Listings.{Continues, marked_object, outstanding_documents}
use Rattle.as2_json.proofs.Entries.{same_objects}

pub continued : (s : State) (settled : List ℕ) (rows : List OutRow) (text made : Text) → IsCounted s → settled ≡ settled_numbers s
    → (Rise settled → made ≡ text ++ object_lines (map (marked_object settled) rows))
    → Continues s rows text made
continued s settled rows text made stands numbers told p chosen =
    let up = given_rise s.next_out (document_numbers s) stands.documents.1 in
    told (subst Rise (sym numbers) (settled_rise s up))
    ∙ ap₂ (λ n r. text ++ object_lines (map (marked_object n) r)) numbers chosen
    ∙ ap (λ l. text ++ object_lines l) (same_objects (settled_numbers s) p s.outbox (marks s.outbox up))

-- the rows that are kept of all are those of what is outstanding
pub kept_of_all : (s : State) (m : ℕ) (rows kept shown : List OutRow) → rows ≡ listed_rows None s → kept ≡ filter (is_outstanding m) rows → shown ≡ kept
    → shown ≡ map out_summary (outstanding_documents s m)
kept_of_all s m rows kept shown all is same = same ∙ is ∙ ap (filter (is_outstanding m)) (all ∙ ap (map out_summary) (all_listed s.outbox))
    ∙ kept_rows (is_outstanding m) s.outbox

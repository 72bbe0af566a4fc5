-- The objects of a state's rows are those of its entries.
use Rattle.std.proofs.Common.{◌≡◌, ◌∙◌, ◌&&◌, ℕ, Bool, true, false, List, [], ◌∷◌, Option, map, refl, ap, ap₂}
use Rattle.std.specs.Prelude.{if◌then◌else◌}
use Rattle.std.specs.List.{AllByRecursion, filter}
use Rattle.serde_json.specs.Data.{Data}
use Rattle.as2_mdn.specs.declared.detail.DetailClass.{DetailClass}
use Rattle.as2_exchange.specs.Progress.{is_in, is_under_way}
use Rattle.as2_exchange.specs.State.{State, is_settled}
use Rattle.as2_exchange.specs.Tries.{is_due}
use Rattle.as2_exchange.specs.declared.outbox.OutEntry.{OutEntry}
use Rattle.as2_records.specs.Counting.{counts_of}
use Rattle.as2_records.specs.Listing.{settled_numbers}
use Rattle.as2_records.specs.Summaries.{in_summary, out_summary}
use Rattle.as2_views.specs.Lists.{Rise, document_numbers, is_one_of, is_outstanding}
use Rattle.as2_views.proofs.Marks.{kept_rows, marks}
use Rattle.as2_json.specs.Listings.{entry_object, list_in_objects, list_out_objects, marked_object, outstanding_objects}
use Rattle.as2_json.specs.Objects.{counts_object, in_object, out_object}

twice : {A B C : Type 0} (f : B → C) (g : A → B) (xs : List A) → map f (map g xs) ≡ map (λ x. f (g x)) xs
twice f g [] = refl
twice f g (x ∷ xs) = ap (λ l. f (g x) ∷ l) (twice f g xs)

pub inbox_objects : (s : State) → map in_object (map in_summary s.inbox) ≡ list_in_objects s
inbox_objects s = twice in_object in_summary s.inbox

-- a document's number is one of the settled ones exactly where it is settled
abbrev IsMarked : List ℕ → OutEntry → Type 0
IsMarked settled d = is_one_of settled d.number ≡ is_settled d

abbrev kept : Bool → OutEntry → List OutEntry → List OutEntry
kept is_kept d rest = if is_kept then d ∷ rest else rest

abbrev of_rows : List ℕ → List OutEntry → List Data
of_rows settled ds = map (marked_object settled) (map out_summary ds)

kept_object : (b : Bool) (settled : List ℕ) (d : OutEntry) (rest : List OutEntry) → IsMarked settled d → of_rows settled rest ≡ map entry_object rest
    → of_rows settled (kept b d rest) ≡ map entry_object (kept b d rest)
kept_object true settled d rest mark same = ap₂ (λ marked more. out_object marked (out_summary d) ∷ more) mark same
kept_object false settled d rest mark same = same

-- of documents of which something holds
pub same_objects : (settled : List ℕ) (p : OutEntry → Bool) (ds : List OutEntry) → AllByRecursion (IsMarked settled) ds
    → of_rows settled (filter p ds) ≡ map entry_object (filter p ds)
same_objects settled p [] m = refl
same_objects settled p (d ∷ ds) m = kept_object (p d) settled d (filter p ds) m.0 (same_objects settled p ds m.1)

pub outbox_objects : (s : State) (wanted : Option DetailClass) → Rise (document_numbers s)
    → map (marked_object (settled_numbers s)) (map out_summary (filter (is_in wanted) s.outbox)) ≡ list_out_objects s wanted
outbox_objects s wanted up = same_objects (settled_numbers s) (is_in wanted) s.outbox (marks s.outbox up)

pub outstanding_same : (s : State) (m : ℕ) → Rise (document_numbers s)
    → counts_object (counts_of s) ∷ map (marked_object (settled_numbers s)) (filter (is_outstanding m) (map out_summary s.outbox)) ≡ outstanding_objects s m
outstanding_same s m up =
    ap (λ l. counts_object (counts_of s) ∷ l)
    (ap (map (marked_object (settled_numbers s))) (kept_rows (is_outstanding m) s.outbox)
    ∙ same_objects (settled_numbers s) (λ d. is_under_way d.detail && is_due m d.due) s.outbox (marks s.outbox up))

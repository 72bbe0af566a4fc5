-- What the tables hold once the document of one number is changed, but for its number and its content.
use Rattle.std.proofs.Common.{◌≡◌, ℕ, ◌<◌, ◌==◌, ◌&&◌, List, [], ◌∷◌, ◌++◌, map, filter, option_map, Bool, true, false, cond, pos, refl, sym, ap, ap₂, subst, ◌∙◌, arith}
use Rattle.std.specs.List.{AllByRecursion, cons_option}
use Rattle.std.proofs.lemmas.List.Elements.{filter_agree}
use Rattle.sqlite.specs.declared.types.Value.TheVariants.{Int}
use Rattle.sqlite.specs.Effect.{Database}
use Rattle.sqlite.specs.Order.{Row}
use Rattle.sqlite_trees.proofs.ListLemmas.{all_from_map}
use Rattle.sql_tables.specs.Changes.{passes}
use Rattle.sql_tables.proofs.Queries.{numbers_equal}
use Rattle.as2_exchange.specs.State.{State, change_document, end_of_numbers}
use Rattle.as2_exchange.specs.declared.inbox.InEntry.{InEntry}
use Rattle.as2_exchange.specs.declared.outbox.OutEntry.{OutEntry}
use Rattle.as2_exchange.proofs.Lists.{all_weaken, map_kept}
use Rattle.as2_rows.specs.Rows.{out_row, evidence_row}
use Rattle.as2_rows.specs.Contents.{pieces}
use Rattle.as2_rows.specs.Waiting.{out_waiting}
use Rattle.as2_store.specs.Tables.{Layout}
use Rattle.as2_store.specs.Stands.{Stands, waiting_row, all_waiting, evidence_rows, outbox_pieces}
use Rattle.as2_store.specs.Adding.{noted_rows}
use Rattle.as2_store.specs.Settling.{without_document}
use Rattle.as2_store.proofs.NumberedEntries.{Split, at_one, behind_one, changed, changed_split, out_number}
use Rattle.as2_store.proofs.QueriedRows.{and_true}
use Rattle.as2_store.proofs.Texts.{number_terms}
use Rattle.as2_store.proofs.WaitingAmong.{put_among, take_among}

-- ---- the statement

-- the row has the number that comes first among the parameters
pub has_number : (n : ℕ) (more : Row) (d : OutEntry) → passes number_terms (Int (pos n) ∷ more) (out_row d) ≡ (d.number == n)
has_number n more d = ap (λ b. b && true) (numbers_equal d.number n) ∙ and_true _

pub numbered : (n : ℕ) (more : Row) (ds : List OutEntry)
    → filter (λ (d : OutEntry). passes number_terms (Int (pos n) ∷ more) (out_row d)) ds ≡ filter (λ (d : OutEntry). d.number == n) ds
numbered n more ds = filter_agree (λ (d : OutEntry). passes number_terms (Int (pos n) ∷ more) (out_row d)) (λ (d : OutEntry). d.number == n)
    (has_number n more) ds

pub changed_rows : (f : OutEntry → OutEntry) (n : ℕ) (more : Row) (ds : List OutEntry)
    → map (λ (d : OutEntry). cond (passes number_terms (Int (pos n) ∷ more) (out_row d)) (out_row (f d)) (out_row d)) ds ≡ map out_row
    (changed out_number n f ds)
changed_rows f n more [] = refl
changed_rows f n more (d ∷ ds) =
    ap₂ ◌∷◌ (ap (λ t. cond t (out_row (f d)) (out_row d)) (has_number n more d) ∙ by_case (d.number == n)) (changed_rows f n more ds)
  where
    by_case : (t : Bool) → cond t (out_row (f d)) (out_row d) ≡ out_row (cond t (f d) d)
    by_case true = refl
    by_case false = refl

-- ---- what is kept

module _ (f : OutEntry → OutEntry) (number_kept : (d : OutEntry) → (f d).number ≡ d.number) (n : ℕ) where
  pub same_numbers : (ds : List OutEntry) → map (λ (d : OutEntry). d.number) (changed out_number n f ds) ≡ map (λ (d : OutEntry). d.number) ds
  same_numbers ds = map_kept (λ (d : OutEntry). d.number) (λ (d : OutEntry). cond (d.number == n) (f d) d) (λ d. by_case d (d.number == n)) ds
    where
      by_case : (d : OutEntry) (t : Bool) → (cond t (f d) d).number ≡ d.number
      by_case d true = number_kept d
      by_case d false = refl

  pub same_pieces : ((d : OutEntry) → (f d).content ≡ d.content) → (ds : List OutEntry) → outbox_pieces (changed out_number n f ds) ≡ outbox_pieces ds
  same_pieces content_kept [] = refl
  same_pieces content_kept (d ∷ ds) = ap₂ ◌++◌ (by_case (d.number == n)) (same_pieces content_kept ds)
    where
      by_case : (t : Bool) → pieces (cond t (f d) d).number (cond t (f d) d).content ≡ pieces d.number d.content
      by_case true = ap₂ pieces (number_kept d) (content_kept d)
      by_case false = refl

  pub same_evidence : ((d : OutEntry) → (f d).evidence ≡ d.evidence) → (ds : List OutEntry) → evidence_rows (changed out_number n f ds) ≡ evidence_rows ds
  same_evidence evidence_kept [] = refl
  same_evidence evidence_kept (d ∷ ds) = ap₂ cons_option (by_case (d.number == n)) (same_evidence evidence_kept ds)
    where
      by_case : (t : Bool) → option_map (evidence_row (cond t (f d) d).number) (cond t (f d) d).evidence ≡ option_map (evidence_row d.number) d.evidence
      by_case true = ap₂ (λ k o. option_map (evidence_row k) o) (number_kept d) (evidence_kept d)
      by_case false = refl

  -- ---- what waits

  -- what the document waits for now goes in where what it waited for is taken out
  pub waits_changed : {layout : Layout} (t : Database) (s : State) → Stands layout t s → (it : Split out_number n s.outbox)
      → noted_rows (out_waiting (f it.one)) (map waiting_row (without_document n (all_waiting s))) ≡ map waiting_row (all_waiting (change_document s n f))
  waits_changed t s stood it =
      let outs = all_weaken (λ k. k < s.next_out) (λ k. k < end_of_numbers) (λ k less. omega (arith, less, stood.documents.0.most))
      (map (λ (d : OutEntry). d.number) s.outbox) stood.documents.1.below in
      let ins = all_weaken (λ k. k < s.next_in) (λ k. k < end_of_numbers) (λ k less. omega (arith, less, stood.receipts.0.most))
      (map (λ (e : InEntry). e.number) s.inbox) stood.receipts.1.below in
      let each = subst (AllByRecursion (λ (d : OutEntry). d.number < end_of_numbers)) it.whole
      (all_from_map (λ k. k < end_of_numbers) (λ (d : OutEntry). d.number) s.outbox outs) in
      let small : n < end_of_numbers =
      subst (λ k. k < end_of_numbers) it.here (at_one (λ (d : OutEntry). d.number < end_of_numbers) it.front it.one it.back each) in
      let late = behind_one (λ (d : OutEntry). d.number < end_of_numbers) it.front it.one it.back each in
      ap (λ ds. noted_rows (out_waiting (f it.one)) (map waiting_row (without_document n (all_waiting (record s { outbox = ds }))))) it.whole
      ∙ ap (λ ws. noted_rows (out_waiting (f it.one)) (map waiting_row ws)) (take_among n small it.front it.back s.inbox it.low it.high late ins it.one it.here)
      ∙ put_among n small it.front it.back s.inbox it.low it.high late ins (f it.one) (number_kept it.one ∙ it.here)
      ∙ ap (λ ds. map waiting_row (all_waiting (record s { outbox = ds }))) (sym (changed_split out_number n f s.outbox it))

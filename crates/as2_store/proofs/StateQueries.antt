-- What the query for documents of a state answers.
use Rattle.std.proofs.Common.{◌≡◌, ◌∙◌, nat_le, List, [], ◌∷◌, ◌++◌, map, Option, Some, None, Bool, true, false, ◌&&◌, cond, refl, sym, ap, ap₂, append-nil}
use Rattle.std.specs.List.{filter}
use Rattle.std.proofs.lemmas.List.{map-append}
use Rattle.std.proofs.lemmas.List.Elements.{filter-append}
use Rattle.sqlite.specs.Order.{Row}
use Rattle.sqlite.specs.State.{State as Connected, Shown}
use Rattle.sql_tables.proofs.Inside.{shown_open}
use Rattle.sql_tables.proofs.Queries.{numbers_at_least, numbers_at_most}
use Rattle.as2_mdn.specs.Details.{class_of}
use Rattle.as2_mdn.specs.declared.detail.Detail.{Detail}
use Rattle.as2_mdn.specs.declared.detail.Detail.TheVariants.{New, Sending, Awaiting, Retry, Processed, NoReceiptAsked, Warning, NoMic, UnknownMic, NotProcessed, ErrorModifier, MicDiffers, TriesUsed, Overdue}
use Rattle.as2_mdn.specs.declared.detail.DetailClass.{DetailClass}
use Rattle.as2_mdn.specs.declared.detail.DetailClass.TheVariants.{P, R, S, W, E}
use Rattle.as2_exchange.specs.State.{State}
use Rattle.as2_exchange.specs.Progress.{is_in, same_state}
use Rattle.as2_exchange.specs.declared.outbox.OutEntry.{OutEntry}
use Rattle.as2_rows.specs.Codes.{detail_code}
use Rattle.as2_rows.specs.Rows.{out_row, out_shown}
use Rattle.as2_records.specs.Summaries.{out_summary}
use Rattle.as2_records.specs.declared.summaries.OutRow.{OutRow}
use Rattle.as2_store.specs.Listing.{detail_in, first_detail, last_detail, state_codes}
use Rattle.as2_store.specs.Stands.{HoldsIfOpen}
use Rattle.as2_store.specs.Tables.{outbox_tree}
use Rattle.as2_store.proofs.NumberedRows.{entries_rise}
use Rattle.as2_store.proofs.QueriedRows.{and_true, reads_rows}
use Rattle.as2_store.proofs.Statements.{out_by_details_text}
use Rattle.as2_store.proofs.Texts.{details_terms, out_by_details_is, out_by_details_plain, out_by_details_unlisted, out_column_terms, out_names}

-- the code is one of those between the first and the last of the state
abbrev is_between : Option DetailClass → Detail → Bool
is_between wanted detail = nat_le (detail_code (first_detail wanted)) (detail_code detail) && nat_le (detail_code detail) (detail_code (last_detail wanted))

-- of each state, the codes between its first and its last are all of its own
module _ (x : Detail) where
  abbrev Covers : DetailClass → Type 0
  Covers state = (is_between (Some state) x && same_state state (class_of x)) ≡ same_state state (class_of x)

covers : (x : Detail) → is_between None x ≡ true × Covers x P × Covers x R × Covers x S × Covers x W × Covers x E
covers New = (refl, refl, refl, refl, refl, refl)
covers Sending = (refl, refl, refl, refl, refl, refl)
covers Awaiting = (refl, refl, refl, refl, refl, refl)
covers Retry = (refl, refl, refl, refl, refl, refl)
covers Processed = (refl, refl, refl, refl, refl, refl)
covers NoReceiptAsked = (refl, refl, refl, refl, refl, refl)
covers Warning = (refl, refl, refl, refl, refl, refl)
covers NoMic = (refl, refl, refl, refl, refl, refl)
covers UnknownMic = (refl, refl, refl, refl, refl, refl)
covers NotProcessed = (refl, refl, refl, refl, refl, refl)
covers ErrorModifier = (refl, refl, refl, refl, refl, refl)
covers MicDiffers = (refl, refl, refl, refl, refl, refl)
covers TriesUsed = (refl, refl, refl, refl, refl, refl)
covers Overdue = (refl, refl, refl, refl, refl, refl)

covered : (wanted : Option DetailClass) (d : OutEntry) → (is_between wanted d.detail && is_in wanted d) ≡ is_in wanted d
covered None d = ap (λ t. t && true) (covers d.detail).0
covered (Some P) d = (covers d.detail).1
covered (Some R) d = (covers d.detail).2
covered (Some S) d = (covers d.detail).3
covered (Some W) d = (covers d.detail).4
covered (Some E) d = (covers d.detail).5

pub none_lost : (wanted : Option DetailClass) (ds : List OutEntry)
    → filter (is_in wanted) (filter (λ (d : OutEntry). is_between wanted d.detail) ds) ≡ filter (is_in wanted) ds
none_lost wanted [] = refl
none_lost wanted (d ∷ ds) = go (is_between wanted d.detail) (is_in wanted d) refl (covered wanted d) (none_lost wanted ds)
  where
    go : (between of : Bool) → is_in wanted d ≡ of → (between && of) ≡ of
        → filter (is_in wanted) (filter (λ (x : OutEntry). is_between wanted x.detail) ds) ≡ filter (is_in wanted) ds
        → filter (is_in wanted) (cond between (d ∷ filter (λ (x : OutEntry). is_between wanted x.detail) ds)
        (filter (λ (x : OutEntry). is_between wanted x.detail) ds)) ≡ filter (is_in wanted) (d ∷ ds)
    go true of own is rest = ap (λ l. cond (is_in wanted d) (d ∷ l) l) rest
    go false true own is rest = absurd cc
    go false false own is rest = rest ∙ sym (ap (λ t. cond t (d ∷ filter (is_in wanted) ds) (filter (is_in wanted) ds)) own)

pub lists_between : (wanted : Option DetailClass) (old new : Connected) (rows : List Row) → Shown out_by_details_text (state_codes wanted) old new rows
    → (s : State) → HoldsIfOpen old s
    → rows ≡ map out_shown (filter (λ (d : OutEntry). is_between wanted d.detail) s.outbox)
lists_between wanted old new rows h s r =
    let here = r (shown_open out_by_details_text (state_codes wanted) old new rows h) in
    let way = here.way in
    let it = here.stands in
    reads_rows way out_by_details_text (out_by_details_plain way)
    (out_by_details_unlisted way) outbox_tree details_terms out_column_terms out_names (out_by_details_is way)
    (state_codes wanted) out_row out_shown (λ _. refl) (λ (d : OutEntry). is_between wanted d.detail)
    (λ d. ap₂ ◌&&◌ (numbers_at_least (detail_code d.detail) (detail_code (first_detail wanted)))
    (ap (λ b. b && true) (numbers_at_most (detail_code d.detail) (detail_code (last_detail wanted))) ∙ and_true _))
    old new rows h it.schema s.outbox it.entries.outbox
    (entries_rise out_row (λ (d : OutEntry). d.number) (λ _. refl) s.next_out s.outbox it.documents.1)

-- one row more is listed where it is of the state
pub one_more_document : (wanted : Option DetailClass) (ds : List OutEntry) (d : OutEntry) (done : List OutRow) (row : OutRow)
    → done ≡ map out_summary (filter (is_in wanted) ds) → row ≡ out_summary d
    → cond (detail_in wanted row.detail) (done ++ row ∷ []) done ≡ map out_summary (filter (is_in wanted) (ds ++ d ∷ []))
one_more_document wanted ds d done row so_far is =
    ap₂ (λ (l : List OutRow) (x : OutRow). cond (detail_in wanted x.detail) (l ++ x ∷ []) l) so_far is
    ∙ joined wanted
    ∙ sym (ap (map out_summary) (filter-append (is_in wanted) ds (d ∷ [])) ∙ map-append out_summary (filter (is_in wanted) ds) (filter (is_in wanted) (d ∷ [])))
  where
    by : (t : Bool) (l : List OutRow) → cond t (l ++ out_summary d ∷ []) l ≡ (l ++ map out_summary (cond t (d ∷ []) []))
    by true l = refl
    by false l = sym (append-nil l)

    joined : (wanted : Option DetailClass)
        → cond (detail_in wanted d.detail) (map out_summary (filter (is_in wanted) ds) ++ out_summary d ∷ [])
        (map out_summary (filter (is_in wanted) ds)) ≡ (map out_summary (filter (is_in wanted) ds) ++ map out_summary (filter (is_in wanted) (d ∷ [])))
    joined None = by true (map out_summary (filter (is_in None) ds))
    joined (Some state) = by (detail_in (Some state) d.detail) (map out_summary (filter (is_in (Some state)) ds))

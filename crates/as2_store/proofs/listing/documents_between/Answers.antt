-- `documents_between`, exit by exit: the query failed, its next row can't be given, there is none, its row can't be read, or can't be listed. As
-- in `entries`, the loop's turn begins at `mid` and is at `now` behind its row; the ends of a turn are lemmas of ListedRows.antt.
-- The query takes rows by their codes, which lie between two (`lists_between`), and `list_if` filters again: `none_lost` says that so none that
-- is wanted is left out. The exit behind the loop, which no listing reaches, the tactic answers.
use Rattle.std.proofs.Common.{rules, List, Option, ◌≡◌, ◌∙◌, map, filter, ap, Some, None, Ok, refl, sym, subst, arith}
use Rattle.sqlite.specs.Given.{Advances, row_if}
use Rattle.sqlite.specs.Held.{state}
use Rattle.sqlite.specs.Values.{bound}
use Rattle.sql_tables.proofs.Inside.{fails_to_query}
use Rattle.as2_rows.specs.Rows.{out_shown}
use Rattle.as2_exchange.specs.Progress.{is_in}
use Rattle.as2_exchange.specs.declared.outbox.OutEntry.{OutEntry}
use Rattle.as2_mdn.specs.declared.detail.DetailClass.{DetailClass}
use Rattle.as2_records.specs.Summaries.{out_summary}
use Rattle.as2_records.specs.declared.summaries.OutRow.{OutRow}
use Rattle.as2_store.proofs.ListedRows.{breaks_off, gives_all, leaves_nothing, listing_fails, none_listed, one_more, rests_still, crash_then, stops}
use Rattle.as2_store.proofs.Querying.{told_ok}
use Rattle.as2_store.proofs.StateQueries.{none_lost, lists_between, one_more_document}
use Rattle.as2_store.proofs.Statements.{out_by_details_text}
use Rattle.as2_store.proofs.Texts.{out_by_details_plain}
use Rattle.as2_store.proofs.listing.documents_between.Goals as goal

-- what is listed of documents
abbrev listed_of : Option DetailClass → List OutEntry → List OutRow
listed_of wanted ds = map out_summary (filter (is_in wanted) ds)

pub returns-in-Err-clause-documents : goal.returns-in-Err-clause-documents
returns-in-Err-clause-documents g c =
    let old = state g.S.Store c.args.conn.now in
    let new = state g.S.Store c.query.follows.lender-at-none in
    let refused = rw c.in-Err.is at c.query.follows.holds-at-none in
    listing_fails _ old new _ (leaves_nothing out_by_details_text (bound c.args.codes.now) old new out_by_details_plain c.requires.open refused.survives)
    (λ clean s r. rests_still old new s r (fails_to_query out_by_details_text (bound c.args.codes.now) old new c.in-Err.error (refused.err clean)))

pub rows-init : goal.rows-init
rows-init g c =
    let made = c.in-Ok.ensures in
    let old = state g.S.Store c.args.conn.now in
    let new = state g.S.Store c.in-Ok.rows.conn.now in
    let kept = leaves_nothing out_by_details_text (bound c.args.codes.now) old new out_by_details_plain c.requires.open made.survives in (
      refl,
      made.mode c.requires.autocommit,
      kept,
      λ clean s r. rw c.new-documents.ensures.items
          (none_listed g.S.Store out_by_details_text (bound c.args.codes.now) out_shown
          (listed_of c.args.wanted) c.args.conn.now out_by_details_plain refl c.in-Ok.rows.conn.now (made.begun clean)
          (c.requires.open (omega (arith, kept.clean, clean))) s r),
    )

pub returns-in-Err-advance-clause-documents : goal.returns-in-Err-advance-clause-documents
returns-in-Err-advance-clause-documents g c =
    stops g.S.Store out_by_details_text (bound c.args.codes.now) out_shown (listed_of c.args.wanted) _ c.args.conn.now c.rows.rows.conn.now
    c.advance.new.self.conn.now c.conn-in-Err-advance-1.given.0 c.rows.documents.items (search rules) c.rows.invariant.2 c.rows.invariant.3
    c.advance.ensures.survives c.fault_of-in-Err-advance.result c.in-Err-advance.error c.in-Err-advance.ensures.err

pub returns-in_default-clause-documents : goal.returns-in_default-clause-documents
returns-in_default-clause-documents g c =
    let mid = c.rows.rows.conn.now in
    let now = c.advance.new.self.conn.now in
    let none : row_if c.advance.new.self.has_row now ≡ None = rw c.in_default.is at (sym c.get.ensures) in
    gives_all g.S.Store out_by_details_text (bound c.args.codes.now) out_shown (listed_of c.args.wanted) _ c.args.conn.now mid
    now c.conn-in_default-1.given.0 c.rows.documents.items (search rules) c.rows.invariant.2 c.rows.invariant.3
    c.advance.ensures.survives c.rows.documents c.requires.open c.in-Ok-advance.ensures.same
    (λ clean. subst (Advances g.S.Store mid now) none (c.in-Ok-advance.ensures.ok clean))
    (λ given s stood all read.
    read _ (lists_between c.args.wanted (state g.S.Store mid) (state g.S.Store now) given (rw c.requires.codes at all) s stood.stands)
    ∙ ap (map out_summary) (none_lost c.args.wanted s.outbox))

pub returns-in_err-document-clause-documents : goal.returns-in_err-document-clause-documents
returns-in_err-document-clause-documents g c =
    breaks_off g.S.Store out_by_details_text (bound c.args.codes.now) out_shown (listed_of c.args.wanted) _ c.args.conn.now c.rows.rows.conn.now
    c.advance.new.self.conn.now c.conn-in_err-document-1.given.0 c.rows.documents.items (search rules) c.rows.invariant.2 c.rows.invariant.3
    c.advance.ensures.survives c.from_residual.result c.from_residual.ensures.0 c.in-Ok-advance.ensures.same

pub returns-in_err-list_if-clause-documents : goal.returns-in_err-list_if-clause-documents
returns-in_err-list_if-clause-documents g c =
    breaks_off g.S.Store out_by_details_text (bound c.args.codes.now) out_shown (listed_of c.args.wanted) _ c.args.conn.now c.rows.rows.conn.now
    c.advance.new.self.conn.now c.conn-in_err-list_if-1.given.0 c.rows.documents.items (search rules) c.rows.invariant.2 c.rows.invariant.3
    c.advance.ensures.survives c.from_residual-in_err-list_if.result c.from_residual-in_err-list_if.ensures.0 c.in-Ok-advance.ensures.same

pub rows-preserved : goal.rows-preserved
rows-preserved g c =
    let old = state g.S.Store c.args.conn.now in
    let mid = state g.S.Store c.rows.rows.conn.now in
    let now = c.advance.new.self.conn.now in
    let moved = c.in-Ok-advance.ensures in
    let some : row_if c.advance.new.self.has_row now ≡ Some c.in-Some.row.now = rw c.in-Some.is at (sym c.get.ensures) in
    let told : c.read_out_row.result ≡ Ok c.in_ok-document.document = told_ok _ _ _ _ c.map_err.ensures.cases c.in_ok-document.was in
    let read = rw told at c.read_out_row.ensures.read in (
      c.advance.ensures.same_reference ∙ c.rows.invariant.0,
      c.advance.ensures.mode c.rows.invariant.1,
      crash_then old mid (state g.S.Store now) c.rows.invariant.2 c.advance.ensures.survives,
      λ clean s r.
          let it = c.rows.invariant.3 (omega (arith, c.advance.ensures.survives.clean, clean)) s r in
          one_more g.S.Store out_by_details_text (bound c.args.codes.now) out_shown
          (listed_of c.args.wanted) c.args.conn.now c.rows.rows.conn.now now _ it c.in-Some.row.now _
          (subst (Advances g.S.Store c.rows.rows.conn.now now) some (moved.ok clean)) (moved.same clean)
          (λ ds d here so_far. c.in_ok-list_if.ensures.listed ∙ one_more_document c.args.wanted ds d _ _ so_far (read d here)),
    )

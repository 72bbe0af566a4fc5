-- `entries_alone`, exit by exit: the query failed, its next row can't be given, there is none, its row can't be read, or can't be listed. The loop's
-- turn begins at `mid` and is at `now` behind its row; what is listed so far is `HasListed` (ListedRows.antt), where the ends of a turn are lemmas.
-- The exit behind the loop, which no listing reaches, the tactic answers.
use Rattle.std.proofs.Common.{rules, ◌≡◌, ◌∙◌, ◌++◌, [], ◌∷◌, map, Some, None, Ok, Err, refl, sym, subst, arith}
use Rattle.sqlite.specs.Given.{Advances, row_if}
use Rattle.sqlite.specs.Held.{state}
use Rattle.sql_tables.proofs.Inside.{fails_to_query}
use Rattle.as2_rows.specs.Rows.{in_shown}
use Rattle.as2_exchange.specs.declared.fault.StoreFault.TheVariants.{Memory}
use Rattle.as2_records.specs.Summaries.{in_summary}
use Rattle.as2_store.proofs.InboxQueries.{lists_all, one_more_entry}
use Rattle.as2_store.proofs.ListedRows.{breaks_off, gives_all, leaves_nothing, listing_fails, none_listed, one_more, rests_still, crash_then, stops}
use Rattle.as2_store.proofs.Querying.{told_ok}
use Rattle.as2_store.proofs.Statements.{in_all_text}
use Rattle.as2_store.proofs.Texts.{in_all_plain}
use Rattle.as2_store.proofs.listing.entries_alone.Goals as goal

pub returns-in-Err-clause-entries : goal.returns-in-Err-clause-entries
returns-in-Err-clause-entries g c =
    let old = state g.S.Store c.args.conn.now in
    let new = state g.S.Store c.query.follows.lender-at-none in
    let refused = rw c.in-Err.is at c.query.follows.holds-at-none in
    listing_fails _ old new _ (leaves_nothing in_all_text [] old new in_all_plain c.requires.open refused.survives)
    (λ clean s r. rests_still old new s r (fails_to_query in_all_text [] old new c.in-Err.error (refused.err clean)))

pub rows-init : goal.rows-init
rows-init g c =
    let made = c.in-Ok.ensures in
    let old = state g.S.Store c.args.conn.now in
    let new = state g.S.Store c.in-Ok.rows.conn.now in
    let kept = leaves_nothing in_all_text [] old new in_all_plain c.requires.open made.survives in (
      refl,
      made.mode c.requires.autocommit,
      kept,
      λ clean s r. rw c.new-entries.ensures.items
          (none_listed g.S.Store in_all_text [] in_shown (map in_summary) c.args.conn.now in_all_plain refl c.in-Ok.rows.conn.now (made.begun clean)
          (c.requires.open (omega (arith, kept.clean, clean))) s r),
    )

pub returns-in-Err-advance-clause-entries : goal.returns-in-Err-advance-clause-entries
returns-in-Err-advance-clause-entries g c =
    stops g.S.Store in_all_text [] in_shown (map in_summary) _ c.args.conn.now c.rows.rows.conn.now c.advance.new.self.conn.now
    c.conn-in-Err-advance-1.given.0 c.rows.entries.items (search rules) c.rows.invariant.2 c.rows.invariant.3 c.advance.ensures.survives
    c.fault_of-in-Err-advance.result c.in-Err-advance.error c.in-Err-advance.ensures.err

pub returns-in_default-clause-entries : goal.returns-in_default-clause-entries
returns-in_default-clause-entries g c =
    let mid = c.rows.rows.conn.now in
    let now = c.advance.new.self.conn.now in
    let none : row_if c.advance.new.self.has_row now ≡ None = rw c.in_default.is at (sym c.get.ensures) in
    gives_all g.S.Store in_all_text [] in_shown (map in_summary) _ c.args.conn.now mid now
    c.conn-in_default-1.given.0 c.rows.entries.items (search rules) c.rows.invariant.2 c.rows.invariant.3 c.advance.ensures.survives
    c.rows.entries c.requires.open c.in-Ok-advance.ensures.same
    (λ clean. subst (Advances g.S.Store mid now) none (c.in-Ok-advance.ensures.ok clean))
    (λ given s stood all read. read s.inbox (lists_all (state g.S.Store mid) (state g.S.Store now) given all s stood.stands))

pub returns-in_err-entry-clause-entries : goal.returns-in_err-entry-clause-entries
returns-in_err-entry-clause-entries g c =
    breaks_off g.S.Store in_all_text [] in_shown (map in_summary) _ c.args.conn.now c.rows.rows.conn.now c.advance.new.self.conn.now
    c.conn-in_err-entry-1.given.0 c.rows.entries.items (search rules) c.rows.invariant.2 c.rows.invariant.3 c.advance.ensures.survives
    c.from_residual.result c.from_residual.ensures.0 c.in-Ok-advance.ensures.same

pub returns-in-Err-push-clause-entries : goal.returns-in-Err-push-clause-entries
returns-in-Err-push-clause-entries g c =
    breaks_off g.S.Store in_all_text [] in_shown (map in_summary) _ c.args.conn.now c.rows.rows.conn.now c.advance.new.self.conn.now
    c.conn-in-Err-push-1.given.0 c.rows.entries.items (search rules) c.rows.invariant.2 c.rows.invariant.3 c.advance.ensures.survives
    (Err Memory) refl c.in-Ok-advance.ensures.same

pub rows-preserved : goal.rows-preserved
rows-preserved g c =
    let old = state g.S.Store c.args.conn.now in
    let mid = state g.S.Store c.rows.rows.conn.now in
    let now = c.advance.new.self.conn.now in
    let moved = c.in-Ok-advance.ensures in
    let some : row_if c.advance.new.self.has_row now ≡ Some c.in-Some.row.now = rw c.in-Some.is at (sym c.get.ensures) in
    let told : c.read_in_row.result ≡ Ok c.in_ok-entry.entry = told_ok _ _ _ _ c.map_err.ensures.cases c.in_ok-entry.was in
    let read = rw told at c.read_in_row.ensures.read in
    let pushed : c.push.new.self.items ≡ c.rows.entries.items ++ c.in_ok-entry.entry ∷ [] = search rules in (
      c.advance.ensures.same_reference ∙ c.rows.invariant.0,
      c.advance.ensures.mode c.rows.invariant.1,
      crash_then old mid (state g.S.Store now) c.rows.invariant.2 c.advance.ensures.survives,
      λ clean s r.
          let it = c.rows.invariant.3 (omega (arith, c.advance.ensures.survives.clean, clean)) s r in
          rw pushed (one_more g.S.Store in_all_text [] in_shown (map in_summary) c.args.conn.now c.rows.rows.conn.now now _ it c.in-Some.row.now _
          (subst (Advances g.S.Store c.rows.rows.conn.now now) some (moved.ok clean)) (moved.same clean)
          (λ es e here so_far. one_more_entry es e _ _ so_far (read e here))),
    )

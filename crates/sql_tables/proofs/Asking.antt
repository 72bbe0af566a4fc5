-- A query inside a transaction, whatever its text is.
use Rattle.std.proofs.Common.{◌≡◌, ◌⊎◌, inl, inr, ℕ, List, Option, Some, None, IsTrue, refl, sym, ap, subst, ◌∙◌}
use Rattle.sqlite.specs.Order.{Row}
use Rattle.sqlite.specs.Clock.{timed}
use Rattle.sqlite.specs.Effect.{Database}
use Rattle.sqlite.specs.Listing.{understood, reads_listing, IsSourceOf}
use Rattle.sqlite.specs.declared.error.Error.{Error}
use Rattle.sqlite.specs.State.{State as Connected, KeepsCommit, Shown, ShowsRows, FailsToQuery, IsTooLate}
use Rattle.sqlite_schema.specs.declared.command.Returning.{Returning}
use Rattle.sqlite_resolve.specs.declared.compiled.Compiled.{Compiled}
use Rattle.sqlite.proofs.Callers.{IsPlain}
use Rattle.sqlite.proofs.InsideLemmas.{unchanged_keeps}
use Rattle.sql_tables.proofs.Inside.{fails_to_query}

-- ---- the transaction keeps the last commit

shows_keep : (old new : Connected) (sql : List ℕ) (c : Compiled) (params : Row) (rows : List Row) (r : Option Returning) → IsTrue old.in_transaction
    → ShowsRows old new sql c params rows r → KeepsCommit old new
shows_keep old new sql c params rows None inside h = unchanged_keeps old new (inl h.3)
shows_keep old new sql c params rows (Some what) inside h =
    record { was_open = λ _. h.1.shown.was_open; committed = λ _. h.1.shown.committed_is ∙ rw inside refl }

pub shown_keeps : (sql : List ℕ) (params : Row) (old new : Connected) (rows : List Row) → IsTrue old.in_transaction → Shown sql params old new rows
    → KeepsCommit old new
unfolding Shown
shown_keeps sql params old new rows inside h = shows_keep old new sql h.0 _ rows _ inside h.2

shows_stay : (old new : Connected) (sql : List ℕ) (c : Compiled) (params : Row) (rows : List Row) (r : Option Returning) → IsTrue old.in_transaction
    → ShowsRows old new sql c params rows r → IsTrue new.in_transaction
shows_stay old new sql c params rows None inside h = h.3.0.mode ∙ inside
shows_stay old new sql c params rows (Some what) inside h = h.1.shown.mode ∙ inside

pub shown_stays : (sql : List ℕ) (params : Row) (old new : Connected) (rows : List Row) → IsTrue old.in_transaction → Shown sql params old new rows
    → IsTrue new.in_transaction
unfolding Shown
shown_stays sql params old new rows inside h = shows_stay old new sql h.0 _ rows _ inside h.2

shows_is_open : (old new : Connected) (sql : List ℕ) (c : Compiled) (params : Row) (rows : List Row) (r : Option Returning)
    → ShowsRows old new sql c params rows r → IsTrue new.is_open
shows_is_open old new sql c params rows None h = h.3.0.is_open
shows_is_open old new sql c params rows (Some what) h = h.1.shown.is_open

pub shown_is_open : (sql : List ℕ) (params : Row) (old new : Connected) (rows : List Row) → Shown sql params old new rows → IsTrue new.is_open
unfolding Shown
shown_is_open sql params old new rows h = shows_is_open old new sql h.0 _ rows _ h.2

pub failed_keeps : (sql : List ℕ) (params : Row) (old new : Connected) (e : Error) → FailsToQuery sql params old new e ⊎ IsTooLate sql params old new e
    → KeepsCommit old new
failed_keeps sql params old new e (inl failed) = unchanged_keeps old new (fails_to_query sql params old new e failed)
failed_keeps sql params old new e (inr late) = unchanged_keeps old new (inl late.5)

-- ---- what was shown inside is shown of what stood

module _ (out old new : Connected) (same : out.now ≡ old.now) (as_open : out.is_open ≡ old.is_open) (sql : List ℕ) where
  shows_alike : (c : Compiled) (params : Row) (rows : List Row) (r : Option Returning) → r ≡ None → ShowsRows old new sql c params rows r
      → ShowsRows out out sql c params rows r
  shows_alike c params rows None is h = (
    h.0,
    subst (λ (d : Database). IsSourceOf (reads_listing d.schema sql) d h.0) (sym same) h.1,
    h.2,
    (
      record { was_open = as_open ∙ h.3.0.was_open; is_open = as_open ∙ h.3.0.was_open; now_is = refl; committed_is = refl; mode = refl },
      record { changes = refl; last_rowid = refl },
      refl,
    ),
  )
  shows_alike c params rows (Some what) is h = absurd cc

  pub shown_alike : (params : Row) (rows : List Row) → IsPlain (understood old.now.schema sql) → Shown sql params old new rows → Shown sql params out out rows
  unfolding Shown
  shown_alike params rows plain h = (
    h.0,
    record { is = ap (λ (d : Database). understood d.schema sql) same ∙ h.1.is; whole = h.1.whole; given = h.1.given; now = h.1.now },
    shows_alike h.0 (timed params h.0.formats h.1.now) rows h.0.returning (subst IsPlain h.1.is plain).0 h.2,
  )

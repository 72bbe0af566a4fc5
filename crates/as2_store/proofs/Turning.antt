-- How a round begins and ends: what the two texts mean, whatever the schema is.
use Rattle.std.proofs.Common.{◌≡◌, ◌⊎◌, inl, inr, ap, sym, subst, ◌∙◌, arith, refl, ℕ, List, codes, Bool, true, false, MatchBool, Option, None, Some, is_some, Result, Ok, Err, IsErr, IsErrAnd, IsTrue, MatchResult}
use Rattle.sqlite_trees.specs.Tree.{Trees}
use Rattle.sqlite_tied.specs.Compute.{everything}
use Rattle.sqlite_schema.specs.declared.command.Returning.{Returning}
use Rattle.sqlite.specs.Command.{Command}
use Rattle.sqlite.specs.Command.TheVariants.{Begin, Commit}
use Rattle.sqlite.specs.Clock.{timed}
use Rattle.sqlite.specs.Effect.{Database}
use Rattle.sqlite.specs.Order.{Row}
use Rattle.sqlite.specs.Schema.{Schema}
use Rattle.sqlite.specs.Listing.{understood}
use Rattle.sqlite.specs.declared.error.Error.{Error}
use Rattle.sqlite.specs.declared.error.Error.TheVariants.{ExecuteReturnedResults}
use Rattle.sqlite.specs.State.{State as Connected, HasCleanDisk, Survives, Executes, ExecutesIn, CommitsBy, IsNotRun, IsUnchanged, IsRolledBack, MayCommit, RunsCommand, shows_rows, text_of}
use Rattle.sqlite.proofs.Callers.{IsPlain, command_of, runs_as}
use Rattle.sqlite.proofs.StateLemmas.{survives_weaker}
use Rattle.as2_exchange.specs.State.{State}
use Rattle.as2_store.specs.Stands.{Holds, Rests}
use Rattle.as2_store.specs.Rounds.{BeginsRound, CommitsRound, in_round}
use Rattle.as2_store.proofs.ListedRows.{rests_still}
use Rattle.as2_store.proofs.Seen.{and_both}

abbrev pub begin_text : List ℕ
begin_text = codes "BEGIN"

abbrev pub commit_text : List ℕ
commit_text = codes "COMMIT"

pub begin_is : (schema : Schema) → command_of (understood schema begin_text) ≡ Begin
unfolding understood everything
begin_is schema = refl

pub begin_plain : (schema : Schema) → IsPlain (understood schema begin_text)
unfolding understood everything
begin_plain schema = (refl, refl)

pub commit_is : (schema : Schema) → command_of (understood schema commit_text) ≡ Commit
unfolding understood everything
commit_is schema = refl

pub commit_plain : (schema : Schema) → IsPlain (understood schema commit_text)
unfolding understood everything
commit_plain schema = (refl, refl)

-- ---- what a statement leaves that fails

-- it changes nothing, or all is rolled back
pub failed_by : (sql : List ℕ) (params : Row) (old new : Connected) (e : Error) → Executes sql params old new (Err e) → IsUnchanged old new
    ⊎ IsRolledBack old new
unfolding ExecutesIn IsNotRun
failed_by sql params old new e (inl (inl refused)) = inl refused.1
failed_by sql params old new e (inl (inr failed)) = inr failed.3
failed_by sql params old new e (inr it) = by (shows_rows false it.0) it.2
  where
    by : (b : Bool) → MatchBool b (◌≡◌ {A = Result ℕ Error} (Err e) (Err ExecuteReturnedResults) × IsUnchanged old new)
        (RunsCommand old new sql it.0 (timed params it.0.formats it.1.now) (Err e))
        → IsUnchanged old new ⊎ IsRolledBack old new
    by true shows = inl shows.1
    by false (inl refused) = inl refused.1
    by false (inr failed) = inr failed.3

-- ---- what the two may commit

never_begin : (s : Connected) (returning : Option Returning) (text : List ℕ) (params : Row) (db : Trees) → MayCommit s returning Begin text params db → ⊥
never_begin s None text params db (inl it) = elim it.0 [ inl is ↦ absurd cc | inr is ↦ absurd (let e = is.2 in cc) ]
never_begin s (Some what) text params db (inl it) = elim it.0 [ inl is ↦ absurd cc | inr is ↦ absurd (let e = is.2 in cc) ]
never_begin s None text params db (inr it) = absurd (let e = it.3 in cc)
never_begin s (Some what) text params db (inr it) = absurd (let e = it.3 in cc)

commits_all : (s : Connected) (returning : Option Returning) (text : List ℕ) (params : Row) (db : Trees) → MayCommit s returning Commit text params db
    → db ≡ s.now.trees
commits_all s returning text params db (inl it) = it.1
commits_all s None text params db (inr it) = absurd (let e = it.3 in cc)
commits_all s (Some what) text params db (inr it) = absurd (let e = it.3 in cc)

pub begin_commits_none : (params : Row) (s : Connected) (db : Trees) → CommitsBy begin_text params s db → ⊥
unfolding CommitsBy
begin_commits_none params s db it =
    let is : it.0.command ≡ Begin = ap command_of (sym it.1.is) ∙ begin_is s.now.schema in
    never_begin s it.0.returning (text_of begin_text it.0) (timed params it.0.formats it.1.now) db
    (subst (λ (k : Command). MayCommit s it.0.returning k (text_of begin_text it.0) (timed params it.0.formats it.1.now) db) is it.2)

pub commit_commits_all : (params : Row) (s : Connected) (db : Trees) → CommitsBy commit_text params s db → db ≡ s.now.trees
unfolding CommitsBy
commit_commits_all params s db it =
    let is : it.0.command ≡ Commit = ap command_of (sym it.1.is) ∙ commit_is s.now.schema in
    commits_all s it.0.returning (text_of commit_text it.0) (timed params it.0.formats it.1.now) db
    (subst (λ (k : Command). MayCommit s it.0.returning k (text_of commit_text it.0) (timed params it.0.formats it.1.now) db) is it.2)

-- ---- a round begins

pub begins : {A : Type 0} (a : A) (params : Row) (old new : Connected) (count : ℕ) → (HasCleanDisk new → Executes begin_text params old new (Ok count))
    → Survives old new (CommitsBy begin_text params old) → BeginsRound {A = A} {E = Error} old new (Ok a)
begins a params old new count ran survives =
    let shown = λ (clean : HasCleanDisk new). (runs_as begin_text params old new old.now.schema refl Begin (begin_is _) (begin_plain _) count (ran clean)).1 in
    record {
      clean = λ clean. omega (arith, survives.clean, clean);
      was_open = λ clean. (shown clean).was_open;
      begun = λ clean. (and_both new.is_open new.in_transaction (shown clean).is_open (shown clean).mode, (shown clean).now_is);
      refused = λ clean. tt;
      survives = survives_weaker old new (CommitsBy begin_text params old) (λ _. ⊥) (λ clean db it. begin_commits_none params old db it) survives;
    }

pub begins_none : {A : Type 0} (r : Result A Error) (e : Error) (params : Row) (old new : Connected) → IsErr r
    → (HasCleanDisk new → Executes begin_text params old new (Err e)) → Survives old new (CommitsBy begin_text params old) → BeginsRound old new r
begins_none (Ok a) e params old new err ran survives = absurd cc
begins_none (Err f) e params old new err ran survives = record {
  clean = λ clean. omega (arith, survives.clean, clean);
  was_open = λ clean. tt;
  begun = λ clean. tt;
  refused = λ clean s rests. rests_still old new s rests (failed_by begin_text params old new e (ran clean));
  survives = survives_weaker old new (CommitsBy begin_text params old) (λ _. ⊥) (λ clean db it. begin_commits_none params old db it) survives;
}

-- ---- a round ends

pub ends : {A : Type 0} (a : A) (params : Row) (old new : Connected) (count : ℕ) → (HasCleanDisk new → Executes commit_text params old new (Ok count))
    → Survives old new (CommitsBy commit_text params old) → CommitsRound {A = A} {E = Error} old new (Ok a)
ends a params old new count ran survives =
    let it = λ (clean : HasCleanDisk new). runs_as commit_text params old new old.now.schema refl Commit (commit_is _) (commit_plain _) count (ran clean) in
    record {
      clean = λ clean. omega (arith, survives.clean, clean);
      was_open = λ clean. and_both old.is_open old.in_transaction (it clean).1.was_open (it clean).0;
      is_open = λ clean. (it clean).1.is_open;
      done = λ clean s rests.
          let shown = (it clean).1 in
          record {
            autocommit = shown.mode;
            stands = λ _. subst (λ (d : Database). Holds d s) (sym shown.now_is)
                (rests.stands (and_both old.is_open old.in_transaction shown.was_open (it clean).0));
            committed = λ _. shown.committed_is ∙ sym shown.now_is;
            knows = rests.knows;
          };
      ended = λ clean. (it clean).1.mode;
      survives = survives_weaker old new (CommitsBy commit_text params old) (λ db. db ≡ old.now.trees)
          (λ clean db may. commit_commits_all params old db may) survives;
    }

pub ends_none : {A : Type 0} (r : Result A Error) (params : Row) (old new : Connected) → IsErr r → Survives old new (CommitsBy commit_text params old)
    → CommitsRound old new r
ends_none (Ok a) params old new err survives = absurd cc
ends_none (Err f) params old new err survives = record {
  clean = λ clean. omega (arith, survives.clean, clean);
  was_open = λ clean. tt;
  is_open = λ clean. tt;
  done = λ clean. tt;
  ended = λ clean. tt;
  survives = survives_weaker old new (CommitsBy commit_text params old) (λ db. db ≡ old.now.trees)
      (λ clean db may. commit_commits_all params old db may) survives;
}

-- ---- whose failure is told otherwise

module _ {A E F : Type 0} (old new : Connected) where
  pub begins_told : (r : Result A E) (told : Result A F) (Q : E → F → Type 0) → MatchResult r (λ x. told ≡ Ok x) (λ e. IsErrAnd told (Q e))
      → BeginsRound old new r → BeginsRound old new told
  begins_told (Ok x) told Q is it =
      let same : BeginsRound {A = A} {E = F} old new (Ok x) =
      record { clean = it.clean; was_open = it.was_open; begun = it.begun; refused = it.refused; survives = it.survives } in
      subst (BeginsRound old new) (sym is) same
  begins_told (Err e) (Ok x) Q is it = absurd is
  begins_told (Err e) (Err f) Q is it =
      record { clean = it.clean; was_open = it.was_open; begun = it.begun; refused = it.refused; survives = it.survives }

  pub ends_told : (r : Result A E) (told : Result A F) (Q : E → F → Type 0) → MatchResult r (λ x. told ≡ Ok x) (λ e. IsErrAnd told (Q e))
      → CommitsRound old new r → CommitsRound old new told
  ends_told (Ok x) told Q is it =
      let same : CommitsRound {A = A} {E = F} old new (Ok x) =
      record { clean = it.clean; was_open = it.was_open; is_open = it.is_open; done = it.done; ended = it.ended; survives = it.survives } in
      subst (CommitsRound old new) (sym is) same
  ends_told (Err e) (Ok x) Q is it = absurd is
  ends_told (Err e) (Err f) Q is it =
      record { clean = it.clean; was_open = it.was_open; is_open = it.is_open; done = it.done; ended = it.ended; survives = it.survives }

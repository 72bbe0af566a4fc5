-- What stays when a transaction is given up, and what a commit leaves.
use Rattle.std.proofs.Common.{◌≡◌, ap, sym, subst, ◌∙◌, false, true≢false, inl, inr, Ok, Err, Result, OnErr, IsTrue}
use Rattle.sqlite.specs.Steps.{FailsToCommit}
use Rattle.sqlite.specs.declared.error.Error.{Error}
use Rattle.sqlite.specs.Effect.{Database}
use Rattle.sqlite.specs.State.{State as Connected, Shows, IsRolledBack, KeepsCommit}
use Rattle.as2_exchange.specs.State.{State, AllDigests, state_digests, known_digests}
use Rattle.as2_store.specs.Stands.{Holds, Rests}

-- tables of the version that is read hold a state that knows each digest
pub knows_all : (d : Database) (s : State) → Holds d s → state_digests s ≡ AllDigests
knows_all d s it = ap known_digests it.stands.version.version_is

-- what goes back to the last commit stands for what it stood for
pub rests_after : (old mid new : Connected) (s : State) → Rests old s → KeepsCommit old mid → IsRolledBack mid new → Rests new s
rests_after old mid new s r kept back = record {
  autocommit = back.autocommit;
  stands = λ opened. let was = back.was_open opened in
      subst (λ (d : Database). Holds d s) (sym ((back.undone opened).0 ∙ kept.committed was ∙ r.committed (kept.was_open was))) (r.stands (kept.was_open was));
  committed = λ opened. (back.undone opened).1 ∙ sym (back.undone opened).0;
  knows = r.knows;
}

pub rests_committed : (last new : Connected) (s : State) → Holds last.now s → Shows last new last.now last.now false → Rests new s
rests_committed last new s it shown = record {
  autocommit = shown.mode;
  stands = λ _. subst (λ (d : Database). Holds d s) (sym shown.now_is) it;
  committed = λ _. shown.committed_is ∙ sym shown.now_is;
  knows = knows_all last.now s it;
}

-- what keeps the last commit, step by step
pub keeps_then : (a b c : Connected) → KeepsCommit a b → KeepsCommit b c → KeepsCommit a c
keeps_then a b c one two = record {
  was_open = λ opened. one.was_open (two.was_open opened);
  committed = λ opened. two.committed opened ∙ one.committed (two.was_open opened);
}

pub if_error : {V E : Type 0} {P : Type 0} → P → (r : Result V E) → OnErr r P
if_error p (Ok v) = tt
if_error p (Err e) = p

-- a commit that fails inside a transaction goes back to the last one
pub undone : (last new : Connected) (e : Error) → IsTrue last.in_transaction → FailsToCommit last new e → IsRolledBack last new
undone last new e inside (inl failed) = failed.3
undone last new e inside (inr idle) = absurd (true≢false (sym inside ∙ idle.1))

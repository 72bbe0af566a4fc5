-- A connection as it is seen within a round.
use Rattle.std.proofs.Common.{◌≡◌, ◌⊎◌, inl, inr, ap, sym, subst, ◌∙◌, arith, refl, true≢false, ℕ, ◌+◌, ◌≤◌, Bool, true, false, ◌&&◌, IsTrue}
use Rattle.std.proofs.lemmas.Bool.{cases_Bool}
use Rattle.sqlite_trees.specs.Tree.{Trees}
use Rattle.sqlite.specs.State.{State as Connected, HasCleanDisk, Survives}
use Rattle.as2_exchange.specs.State.{State, AllDigests, state_digests}
use Rattle.as2_store.specs.Stands.{Holds, Rests}
use Rattle.as2_store.specs.Rounds.{in_round}
use Rattle.as2_store.proofs.TransactionEnds.{knows_all}

pub both : (a b : Bool) → IsTrue (a && b) → IsTrue a × IsTrue b
both true true h = (refl, refl)
both true false h = absurd (true≢false (sym h))
both false b h = absurd (true≢false (sym h))

pub and_both : (a b : Bool) → IsTrue a → IsTrue b → IsTrue (a && b)
and_both true true one two = refl
and_both true false one two = absurd (true≢false (sym two))
and_both false b one two = absurd (true≢false (sym one))

-- ---- how many faults are seen

goes_on : (c : Connected) → IsTrue c.in_transaction → (in_round c).faults ≡ c.faults
goes_on c on = ap (λ (b : Bool). Rattle.std.proofs.Common.cond b c.faults (c.faults + 1)) on

is_lost : (c : Connected) → c.in_transaction ≡ false → (in_round c).faults ≡ c.faults + 1
is_lost c off = ap (λ (b : Bool). Rattle.std.proofs.Common.cond b c.faults (c.faults + 1)) off

-- ---- what is survived

-- a call is survived as it is seen, where the tables that are left are those that were, or such
pub seen : {P : Trees → Type 0} (old new : Connected) (Q : Trees → Type 0) → IsTrue old.in_transaction → Survives old new P
    → (HasCleanDisk new → (db : Trees) → IsTrue new.is_open → IsTrue new.in_transaction → db ≡ new.now.trees
    → (IsTrue old.is_open × (db ≡ old.now.trees)) ⊎ Q db)
    → Survives (in_round old) (in_round new) Q
seen old new Q on s left = record {
  clean = s.clean;
  shield = s.shield;
  counts = elim (cases_Bool new.in_transaction) [
    | inl still ↦ omega (arith, s.counts, goes_on old on, goes_on new still)
    | inr off ↦ omega (arith, s.counts, goes_on old on, is_lost new off)
  ];
  limit = s.limit;
  closes = λ clean opened. elim (cases_Bool new.in_transaction) [
    | inl still ↦ elim (s.closes clean (both old.is_open old.in_transaction opened).0) [
      | inl is ↦ inl (and_both new.is_open new.in_transaction is still)
      | inr fault ↦ inr (omega (arith, fault, goes_on old on, goes_on new still))
    ]
    | inr off ↦ inr (omega (arith, s.counts, goes_on old on, is_lost new off))
  ];
  crash = λ clean db may.
      let is = both new.is_open new.in_transaction may.0 in
      elim (left clean db is.0 is.1 may.1) [
        | inl was ↦ inl (and_both old.is_open old.in_transaction was.0 on, was.1)
        | inr q ↦ inr q
      ];
}

-- ---- what it stands for

-- a round that is lost stands for whatever it did
pub rests_lost : (c : Connected) (s : State) → state_digests s ≡ AllDigests → c.in_transaction ≡ false → Rests (in_round c) s
rests_lost c s knows off = record {
  autocommit = refl;
  stands = λ opened. absurd (true≢false (sym (both c.is_open c.in_transaction opened).1 ∙ off));
  committed = λ opened. refl;
  knows = knows;
}

-- one that goes on stands for what its tables do
pub rests_seen : (c : Connected) (s : State) → Holds c.now s → Rests (in_round c) s
rests_seen c s it = record { autocommit = refl; stands = λ opened. it; committed = λ opened. refl; knows = knows_all c.now s it }

-- and whatever it stands for, its tables do where it is open
pub holds_seen : (c : Connected) (s : State) → IsTrue c.in_transaction → IsTrue c.is_open → Rests (in_round c) s → Holds c.now s
holds_seen c s on opened r = r.stands (and_both c.is_open c.in_transaction opened on)

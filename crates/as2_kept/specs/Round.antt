-- The records of a connection within a round.
use Rattle.std.proofs.Common.{◌≡◌, ℕ, zero, suc, ◌+◌, ◌&&◌, Bool, true, false, IsTrue, refl, subst, sym, true≢false}
use Rattle.sqlite_trees.specs.Tree.{Trees}
use Rattle.sqlite_trees.specs.View.{doubt}
use Rattle.sqlite.specs.State.{State as Connected}
use Rattle.as2_exchange.specs.State.{State}
use Rattle.as2_store.proofs.Committing.{keeps_of}
use Rattle.as2_store.specs.Calls.{Keeps}
use Rattle.as2_store.specs.Rounds.{in_round}
use Rattle.as2_records.specs.Standing.{Standing}
use Rattle.as2_records.specs.Calls.{Lasts}
use Rattle.as2_kept.specs.Instance.{clean_if_open, tables, tables_standing}

-- A round is seen as if it were committed. One that couldn't be committed is seen as shut, by a fault more each time.
abbrev pub seen : ℕ → Connected → Connected
seen zero c = in_round c
seen (suc n) c = record (in_round c) { is_open = false; faults = (in_round c).faults + suc n; may_leave = λ db. ⊥ }

abbrev pub standing_in_round : ℕ → Connected → Standing tables
standing_in_round failures c = tables_standing (seen failures c)

first_is : (a b : Bool) → IsTrue (a && b) → IsTrue a
first_is true b is = refl
first_is false b is = absurd (true≢false (sym is))

-- an open round is clean, since a connection that isn't shows as shut
pub clean_if_held : (failures : ℕ) (c : Connected) → (c.is_clean ≡ false → c.is_open ≡ false) → IsTrue (seen failures c).is_open → doubt (seen failures c).is_clean ≡ 0
clean_if_held zero c shut opened = clean_if_open c.is_clean c.is_open shut (first_is c.is_open c.in_transaction opened)
clean_if_held (suc n) c shut opened = absurd (true≢false (sym opened))

-- a stop is seen to leave what was written
pub round_leaves : (failures : ℕ) (c : Connected) → IsTrue (seen failures c).is_open → (left : Trees) × (seen failures c).may_leave left
round_leaves zero c opened = (c.now.trees, (opened, refl))
round_leaves (suc n) c opened = absurd (true≢false (sym opened))

-- and so what is seen is seen to last
pub round_lasts : (failures : ℕ) (c : Connected) → IsTrue (seen failures c).is_open → (s : State) → (standing_in_round failures c).Rests s
    → Lasts {M = tables} (standing_in_round failures c) s
round_lasts zero c opened s rests = record {
  each = λ db may. subst (λ (t : Trees). Keeps t s) (sym may.1) (keeps_of c.now s (rests.stands opened));
}
round_lasts (suc n) c opened s rests = absurd (true≢false (sym opened))

-- A round that couldn't be committed, as records tell it.
use Rattle.std.proofs.Common.{◌≡◌, ◌∙◌, ℕ, zero, suc, ◌+◌, ◌-◌, ◌^◌, ◌≤◌, min, if◌then◌else◌, Bool, true, false, not, IsTrue, arith, true≢false, refl, sym}
use Rattle.sqlite.specs.State.{State as Connected, HasCleanDisk}
use Rattle.as2_records.specs.Rounds.{IsLost}
use Rattle.as2_store.specs.Rounds.{in_round}
use Rattle.as2_kept.specs.Instance.{tables}
use Rattle.as2_kept.specs.Round.{seen, standing_in_round}

-- ---- how many faults are seen

open_sees : (on : Bool) (n : ℕ) → IsTrue on → (if on then n else n + 1) ≡ n
open_sees true n is = refl
open_sees false n is = absurd (true≢false (sym is))

any_sees : (on : Bool) (n : ℕ) → n ≤ (if on then n else n + 1)
any_sees true n = omega (arith)
any_sees false n = omega (arith)

faults_seen : (n : ℕ) (c : Connected) → (seen n c).faults ≡ (in_round c).faults + n
faults_seen zero c = omega (arith)
faults_seen (suc n) c = refl

-- no round is lost behind the test
on_if : (b on : Bool) → b ≡ false → b ≡ not on → IsTrue on
on_if b true is held = refl
on_if b false is held = absurd (true≢false (sym held ∙ is))

-- ---- it is lost

pub lost : (n m : ℕ) (old new : Connected) → m ≡ min (n + 1) (2 ^ 64 - 1) → (HasCleanDisk new → HasCleanDisk old) → old.faults ≤ new.faults
    → (alone : Bool) → alone ≡ false → alone ≡ not old.in_transaction → IsLost {M = tables} (standing_in_round n old) (standing_in_round m new)
lost n zero old new is clean counts alone held tells = absurd (omega (arith, is))
lost n (suc m) old new is clean counts alone held tells = record {
  passes = record {
    clean = clean_from n;
    same = λ is_clean s rests. record {
      autocommit = refl;
      stands = λ opened. absurd (true≢false (sym opened));
      committed = λ opened. absurd (true≢false (sym opened));
      knows = rests.knows;
    };
  };
  shut = λ is_clean. refl;
  counts = omega (
    arith,
    is,
    counts,
    faults_seen n old,
    open_sees old.in_transaction old.faults (on_if alone old.in_transaction held tells),
    any_sees new.in_transaction new.faults,
  );
}
  where
    clean_from : (n : ℕ) → HasCleanDisk new → HasCleanDisk (seen n old)
    clean_from zero is_clean = clean is_clean
    clean_from (suc n) is_clean = clean is_clean

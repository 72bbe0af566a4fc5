-- Rows that are read one at a time, and what is listed of them.
use Rattle.std.proofs.Common.{◌≡◌, ◌⊎◌, ◌∙◌, ℕ, inl, inr, List, [], ◌∷◌, ◌++◌, map, None, Some, Result, Ok, Err, IsErr, IsTrue, refl, sym, ap, ap₂, subst, arith}
use Rattle.sqlite.specs.Effect.{Database}
use Rattle.sqlite.specs.Given.{Advances, FailsToAdvance, HasBegun, HasGiven}
use Rattle.sqlite.specs.Held.{Held, state}
use Rattle.sqlite.specs.Listing.{understood}
use Rattle.sqlite.specs.Order.{Row}
use Rattle.sqlite.specs.State.{State as Connected, HasCleanDisk, Survives, Shown, CommitsShowing, IsRolledBack, IsUnchanged}
use Rattle.sqlite.specs.Store.{Ghosts}
use Rattle.sqlite.proofs.Callers.{IsPlain, begun_plain, never_commits, unchanged_then}
use Rattle.sqlite.proofs.StateLemmas.{survives_then, survives_weaker}
use Rattle.sqlite.specs.declared.error.Error.{Error}
use Rattle.sql_tables.proofs.Inside.{fails_to_query}
use Rattle.as2_exchange.specs.State.{State}
use Rattle.as2_exchange.specs.declared.fault.StoreFault.{StoreFault}
use Rattle.as2_store.specs.Calls.{CommitsTables, ReadsTables}
use Rattle.as2_store.specs.Stands.{Rests, Holds}
use Rattle.as2_store.specs.Tables.{Way, store_schema}
use Rattle.as2_store.proofs.TransactionEnds.{rests_after}

-- ---- the connection meanwhile

-- what changed nothing, or went back to the last commit, stands for what it stood for
pub rests_still : (old new : Connected) (s : State) → Rests old s → IsUnchanged old new ⊎ IsRolledBack old new → Rests new s
rests_still old new s r (inl same) = record {
  autocommit = same.0.mode ∙ r.autocommit;
  stands = λ _. subst (λ (d : Database). Holds d s) (sym same.0.now_is) (r.stands same.0.was_open);
  committed = λ _. same.0.committed_is ∙ r.committed same.0.was_open ∙ sym same.0.now_is;
  knows = r.knows;
}
rests_still old new s r (inr back) = rests_after old old new s r (record { was_open = λ opened. opened; committed = λ _. refl }) back

-- a query of the store's tables leaves nothing to a crash that wasn't there
pub leaves_nothing : (sql : List ℕ) (params : Row) (old new : Connected) → ((way : Way) → IsPlain (understood (store_schema way) sql))
    → (HasCleanDisk old → IsTrue old.is_open) → Survives old new (CommitsShowing sql params old) → Survives old new (CommitsTables Some old)
leaves_nothing sql params old new plain opened survives = survives_weaker old new (CommitsShowing sql params old) (CommitsTables Some old) (λ clean db shows.
    let was = opened (omega (arith, survives.clean, clean)) in
    record {
      was_open = was;
      stands = λ s r. absurd (never_commits sql params old db
          (subst (λ k. IsPlain (understood k sql)) (sym (r.stands was).stands.schema) (plain (r.stands was).way)) shows);
    }) survives

-- ---- what is listed

-- rows were given that show entries, if they show any, of which these are listed; and nothing has changed
pub record HasListed {S X Y : Type 0} (g : Ghosts S) (sql : List ℕ) (params : Row) (shown : X → Row) (listed : List X → List Y) (old now : Held S)
    (ys : List Y) : Type 0 where
  pub given : List Row
  pub has : HasGiven g sql params now given
  pub same : IsUnchanged (state g old) (state g now)
  pub read : (xs : List X) → given ≡ map shown xs → ys ≡ listed xs

-- the last row shows the last entry
split : {X : Type 0} (shown : X → Row) (given : List Row) (row : Row) (xs : List X) → given ++ row ∷ [] ≡ map shown xs → (front : List X) × (x : X)
    × (xs ≡ front ++ x ∷ []) × (given ≡ map shown front) × (row ≡ shown x)
split shown [] row [] all = absurd cc
split shown [] row (x ∷ []) all = ([], x, refl, refl, cc)
split shown [] row (x ∷ y ∷ xs) all = absurd cc
split shown (r ∷ given) row [] all = absurd cc
split shown (r ∷ given) row (x ∷ xs) all =
    let behind : given ++ row ∷ [] ≡ map shown xs = cc in
    let first : r ≡ shown x = cc in
    let rest = split shown given row xs behind in
    (x ∷ rest.0, rest.1, ap (λ l. x ∷ l) rest.2, ap₂ ◌∷◌ first rest.3, rest.4)

module _ {S X Y : Type 0} (g : Ghosts S) (sql : List ℕ) (params : Row) (shown : X → Row) (listed : List X → List Y) (old : Held S) where
  -- none at first
  pub none_listed : ((way : Way) → IsPlain (understood (store_schema way) sql)) → listed [] ≡ [] → (new : Held S) → HasBegun g sql params old new
      → IsTrue (state g old).is_open → (s : State) → Rests (state g old) s → HasListed g sql params shown listed old new []
  none_listed plain none new begun opened s r =
      let both = begun_plain g sql params old new
      (subst (λ k. IsPlain (understood k sql)) (sym (r.stands opened).stands.schema) (plain (r.stands opened).way)) begun in
      record { given = []; has = both.0; same = both.1; read = λ xs all. empty xs all }
    where
      empty : (xs : List X) → [] ≡ map shown xs → [] ≡ listed xs
      empty [] all = sym none
      empty (x ∷ xs) all = absurd cc

  module _ (mid new : Held S) (ys : List Y) (it : HasListed g sql params shown listed old mid ys) where
    -- one row more
    pub one_more : (row : Row) (zs : List Y) → Advances g mid new (Some row) → IsUnchanged (state g mid) (state g new)
        → ((xs : List X) (x : X) → row ≡ shown x → ys ≡ listed xs → zs ≡ listed (xs ++ x ∷ [])) → HasListed g sql params shown listed old new zs
    one_more row zs goes same more = record {
      given = it.given ++ row ∷ [];
      has = goes sql params it.given it.has;
      same = unchanged_then (state g old) (state g mid) (state g new) it.same same;
      read = λ xs all. let last =
          split shown it.given row xs all in subst (λ l. zs ≡ listed l) (sym last.2) (more last.0 last.1 last.4 (it.read last.0 last.3));
    }

    -- no row more: those were all
    pub all_given : Advances g mid new None → Shown sql params (state g mid) (state g new) it.given
    all_given goes = goes sql params it.given it.has

-- ---- as reads

pub lists : {A : Type 0} (fits : State → A → Type 0) (old new : Connected) (a : A) → (HasCleanDisk old → IsTrue old.is_open)
    → (HasCleanDisk new → IsTrue new.is_open) → Survives old new (CommitsTables Some old)
    → (HasCleanDisk new → (s : State) → Rests old s → Rests new s × fits s a) → ReadsTables {A = A} {E = StoreFault} fits old new (Ok a)
lists fits old new a opened is_open survives each = record {
  clean = λ clean. omega (arith, survives.clean, clean);
  was_open = λ clean. opened (omega (arith, survives.clean, clean));
  is_open = is_open;
  answer = λ clean s r. (each clean s r).1;
  same = λ clean s r. (each clean s r).0;
  crash = survives;
}

-- a listing that fails, for any reason
pub listing_fails : {A : Type 0} (fits : State → A → Type 0) (old new : Connected) (f : StoreFault) → Survives old new (CommitsTables Some old)
    → (HasCleanDisk new → (s : State) → Rests old s → Rests new s) → ReadsTables {A = A} {E = StoreFault} fits old new (Err f)
listing_fails fits old new f survives same = record {
  clean = λ clean. omega (arith, survives.clean, clean);
  was_open = λ clean. tt;
  is_open = λ clean. tt;
  answer = λ clean. tt;
  same = same;
  crash = survives;
}

-- a step that leaves nothing more to a crash
pub crash_then : (old mid new : Connected) → Survives old mid (CommitsTables Some old) → Survives mid new (λ _. ⊥)
    → Survives old new (CommitsTables Some old)
crash_then old mid new one two =
    survives_then old mid new (CommitsTables Some old) (λ _. ⊥) (CommitsTables Some old) (λ _ db is. is) (λ _ db none. absurd none) one two

-- ---- the ends of a turn of the listing

-- It began at `mid`, with these listed; `now` is behind its row, and the connection is given back as `h`.
module _ {S X Y A : Type 0} (g : Ghosts S) (sql : List ℕ) (params : Row) (shown : X → Row) (listed : List X → List Y) (fits : State → A → Type 0)
    (old mid now h : Held S) (ys : List Y) (same : now ≡ h) (before : Survives (state g old) (state g mid) (CommitsTables Some (state g old)))
    (so_far : HasCleanDisk (state g mid) → (s : State) → Rests (state g old) s → HasListed g sql params shown listed old mid ys)
    (late : Survives (state g mid) (state g now) (λ _. ⊥)) where
  -- the next row can't be given
  pub stops : (f : StoreFault) (e : Error) → (HasCleanDisk (state g now) → FailsToAdvance g mid now e)
      → ReadsTables {A = A} {E = StoreFault} fits (state g old) (state g h) (Err f)
  stops f e failed =
      subst (λ (h : Held S). ReadsTables {A = A} {E = StoreFault} fits (state g old) (state g h) (Err f)) same
      (listing_fails fits (state g old) (state g now) f (crash_then (state g old) (state g mid) (state g now) before late) (λ clean s r.
      let it = so_far (omega (arith, late.clean, clean)) s r in
      rests_still (state g mid) (state g now) s (rests_still (state g old) (state g mid) s r (inl it.same))
      (fails_to_query sql params (state g mid) (state g now) e (failed clean sql params it.given it.has))))

  -- what the row shows can't be read, or can't be listed
  pub breaks_off : (r : Result A StoreFault) → IsErr r → (HasCleanDisk (state g now) → IsUnchanged (state g mid) (state g now))
      → ReadsTables {A = A} {E = StoreFault} fits (state g old) (state g h) r
  breaks_off (Ok a) err stays = absurd cc
  breaks_off (Err f) err stays =
      subst (λ (h : Held S). ReadsTables {A = A} {E = StoreFault} fits (state g old) (state g h) (Err f)) same
      (listing_fails fits (state g old) (state g now) f (crash_then (state g old) (state g mid) (state g now) before late) (λ clean s r.
      let it = so_far (omega (arith, late.clean, clean)) s r in
      rests_still (state g mid) (state g now) s (rests_still (state g old) (state g mid) s r (inl it.same)) (inl (stays clean))))

  -- there is no row more
  pub gives_all : (a : A) → (HasCleanDisk (state g old) → IsTrue (state g old).is_open)
      → (HasCleanDisk (state g now) → IsUnchanged (state g mid) (state g now)) → (HasCleanDisk (state g now) → Advances g mid now None)
      → ((given : List Row) (s : State) → Rests (state g mid) s → Shown sql params (state g mid) (state g now) given
      → ((xs : List X) → given ≡ map shown xs → ys ≡ listed xs) → fits s a)
      → ReadsTables {A = A} {E = StoreFault} fits (state g old) (state g h) (Ok a)
  gives_all a opened stays ended fit =
      subst (λ (h : Held S). ReadsTables {A = A} {E = StoreFault} fits (state g old) (state g h) (Ok a)) same
      (lists fits (state g old) (state g now) a opened (λ clean. (stays clean).0.is_open)
      (crash_then (state g old) (state g mid) (state g now) before late) (λ clean s r.
      let it = so_far (omega (arith, late.clean, clean)) s r in
      let stood = rests_still (state g old) (state g mid) s r (inl it.same) in (
        rests_still (state g mid) (state g now) s stood (inl (stays clean)),
        fit it.given s stood (all_given g sql params shown listed old mid now ys it (ended clean)) it.read,
      )))

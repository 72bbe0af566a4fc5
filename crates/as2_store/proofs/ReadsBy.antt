-- Reads, alone or within a round: what Querying.antt says of a read, of both.
use Rattle.std.proofs.Common.{◌≡◌, inl, inr, ap, sym, subst, ◌∙◌, arith, refl, true≢false, Bool, true, false, Option, Some, Result, Ok, Err, IfOk, OnOk, OnErr, IsErr, IsErrAnd, IsTrue, MatchResult}
use Rattle.std.proofs.lemmas.Bool.{cases_Bool}
use Rattle.sqlite_trees.specs.Tree.{Trees}
use Rattle.sqlite.specs.State.{State as Connected, HasCleanDisk, Survives}
use Rattle.sqlite.proofs.StateLemmas.{survives_then}
use Rattle.as2_exchange.specs.State.{State}
use Rattle.as2_store.specs.Stands.{Holds, HoldsIfOpen, Rests}
use Rattle.as2_store.specs.Calls.{CommitsTables, ReadsTables, WritesTables}
use Rattle.as2_store.specs.Rounds.{ByMode, ReadsBy, WritesBy, in_round}
use Rattle.as2_store.proofs.Committing as write
use Rattle.as2_store.proofs.Querying as read
use Rattle.as2_store.proofs.Seen.{and_both, both, seen}

stood_alone : (c : Connected) (s : State) → Rests c s → HoldsIfOpen c s
stood_alone c s r = r.stands

stood_within : (c : Connected) (s : State) → IsTrue c.in_transaction → Rests (in_round c) s → HoldsIfOpen c s
stood_within c s on r opened = r.stands (and_both c.is_open c.in_transaction opened on)

-- what follows in both modes
pub by_both : (D E : Connected → Connected → Type 0) (old new : Connected) → (D old new → E old new)
    → (IsTrue old.in_transaction → D (in_round old) (in_round new) → E (in_round old) (in_round new)) → ByMode D old new → ByMode E old new
by_both D E old new alone within it = record {
  alone = λ idle. alone (it.alone idle);
  ends = it.ends;
  within = λ on. within on (it.within on);
  uncommitted = it.uncommitted;
}

-- ---- writes

-- its failure is told otherwise
pub write_told : {A E F : Type 0} (next : State → Option State) (old new : Connected) (r : Result A E) (told : Result A F) (Q : E → F → Type 0)
    → MatchResult r (λ x. told ≡ Ok x) (λ e. IsErrAnd told (Q e)) → WritesBy next old new r → WritesBy next old new told
write_told next old new r told Q is it =
    by_both _ _ old new (write.write_told next old new r told Q is) (λ on. write.write_told next (in_round old) (in_round new) r told Q is) it

-- seen from where the store is
pub write_of : {A E : Type 0} (next : State → Option State) (inside outside new : Connected) (r : Result A E) → inside ≡ outside
    → WritesBy next inside new r → WritesBy next outside new r
write_of next inside outside new r same it = subst (λ c. WritesBy next c new r) same it

-- ---- one read

-- a read is a write of the same state
pub as_read : {A E : Type 0} (fits : State → A → Type 0) (old new : Connected) (r : Result A E) → WritesBy Some old new r
    → (HasCleanDisk new → IfOk r (λ a. (s : State) → HoldsIfOpen old s → fits s a)) → ReadsBy fits old new r
as_read {A} {E} fits old new r w answer =
    by_both _ _ old new
    (λ it. read.as_read fits old new r it (λ clean. weaker r (λ s. stood_alone old s) (answer clean)))
    (λ on it. read.as_read fits (in_round old) (in_round new) r it (λ clean. weaker r (λ s. stood_within old s on) (answer clean))) w
  where
    weaker : {R : State → Type 0} (r : Result A E) → ((s : State) → R s → HoldsIfOpen old s) → IfOk r (λ a. (s : State) → HoldsIfOpen old s → fits s a)
        → IfOk r (λ a. (s : State) → R s → fits s a)
    weaker (Ok a) from told = λ s rests. told s (from s rests)
    weaker (Err e) from told = tt

-- what fits less than was shown
pub reads_less : {A E : Type 0} (fits more : State → A → Type 0) (old new : Connected) (r : Result A E)
    → ((s : State) (a : A) → HoldsIfOpen old s → more s a → fits s a) → ReadsBy more old new r → ReadsBy fits old new r
reads_less fits more old new r less it =
    by_both _ _ old new (read.reads_less fits more old new r (λ s a rests. less s a (stood_alone old s rests)))
    (λ on. read.reads_less fits more (in_round old) (in_round new) r (λ s a rests. less s a (stood_within old s on rests))) it

-- what fits where the tables stand so
pub reads_standing : {A E : Type 0} (fits more : State → A → Type 0) (old new : Connected) (r : Result A E)
    → ((s : State) (a : A) → Holds old.now s → fits s a → more s a) → ReadsBy fits old new r → ReadsBy more old new r
reads_standing fits more old new r then it =
    by_both _ _ old new (read.reads_standing fits more old new r then)
    (λ on. read.reads_standing fits more (in_round old) (in_round new) r then) it

-- what is made of an answer
pub read_ok : {A B E F : Type 0} (fits : State → A → Type 0) (more : State → B → Type 0) (old new : Connected) (a : A) (b : B)
    → ((s : State) → HoldsIfOpen old s → fits s a → more s b) → ReadsBy {A = A} {E = E} fits old new (Ok a) → ReadsBy {A = B} {E = F} more old new (Ok b)
read_ok fits more old new a b then it =
    by_both _ _ old new (read.read_ok fits more old new a b (λ s rests. then s (stood_alone old s rests)))
    (λ on. read.read_ok fits more (in_round old) (in_round new) a b (λ s rests. then s (stood_within old s on rests))) it

-- a read that fails, or whose answer is no answer
pub read_err : {A B E F : Type 0} (fits : State → A → Type 0) (more : State → B → Type 0) (old new : Connected) (r : Result A E) (f : F)
    → ReadsBy fits old new r → ReadsBy {A = B} {E = F} more old new (Err f)
read_err fits more old new r f it =
    by_both _ _ old new (read.read_err fits more old new r f) (λ on. read.read_err fits more (in_round old) (in_round new) r f) it

-- what a read answered whose failure was told otherwise
pub mapped : {A E F : Type 0} (fits : State → A → Type 0) (old new : Connected) (r : Result A E) (told : Result A F) (Q : E → F → Type 0) (a : A)
    → MatchResult r (λ x. told ≡ Ok x) (λ e. IsErrAnd told (Q e)) → told ≡ Ok a
    → ReadsBy fits old new r → ReadsBy {A = A} {E = F} fits old new (Ok a)
mapped fits old new r told Q a cases is it =
    by_both _ _ old new (read.mapped fits old new r told Q a cases is) (λ on. read.mapped fits (in_round old) (in_round new) r told Q a cases is) it

-- an answer whose error is told in other words
pub reads_told : {A E F : Type 0} (fits more : State → A → Type 0) (old new : Connected) (r : Result A E) (told : Result A F) (Q : E → F → Type 0)
    → MatchResult r (λ x. told ≡ Ok x) (λ e. IsErrAnd told (Q e)) → ((s : State) (a : A) → HoldsIfOpen old s → fits s a → more s a) → ReadsBy fits old new r
    → ReadsBy more old new told
reads_told fits more old new r told Q cases less it =
    by_both _ _ old new (read.reads_told fits more old new r told Q cases (λ s a rests. less s a (stood_alone old s rests)))
    (λ on. read.reads_told fits more (in_round old) (in_round new) r told Q cases (λ s a rests. less s a (stood_within old s on rests))) it

-- what is read of an answer
pub read_if : {A B D F : Type 0} (fits : State → A → Type 0) (more : State → B → Type 0) (old new : Connected) (a : A) (r : Result B F) (P : B → Type 0)
    → IfOk r P → ((s : State) (b : B) → P b → fits s a → more s b) → ReadsBy {A = A} {E = D} fits old new (Ok a) → ReadsBy more old new r
read_if fits more old new a r P is then it =
    by_both _ _ old new (read.read_if fits more old new a r P is then) (λ on. read.read_if fits more (in_round old) (in_round new) a r P is then) it

-- a read, and what is made of its answer, if anything is
pub read_told : {A B D E F : Type 0} (fits : State → A → Type 0) (more : State → B
    → Type 0) (old new : Connected) (a : A) (r : Result B E) (told : Result B F) (Q : E → F → Type 0) (P : B → Type 0)
    → MatchResult r (λ x. told ≡ Ok x) (λ e. IsErrAnd told (Q e)) → IfOk r P → ((s : State) (b : B) → P b → fits s a → more s b)
    → ReadsBy {A = A} {E = D} fits old new (Ok a) → ReadsBy more old new told
read_told fits more old new a r told Q P cases is then it =
    by_both _ _ old new (read.read_told fits more old new a r told Q P cases is then)
    (λ on. read.read_told fits more (in_round old) (in_round new) a r told Q P cases is then) it

-- a read that failed, by whatever result tells so
pub read_bad : {A B E F : Type 0} (fits : State → A → Type 0) (more : State → B → Type 0) (old new : Connected) (r : Result A E) (f : Result B F) → IsErr f
    → ReadsBy fits old new r → ReadsBy more old new f
read_bad fits more old new r f err it =
    by_both _ _ old new (read.read_bad fits more old new r f err) (λ on. read.read_bad fits more (in_round old) (in_round new) r f err) it

-- seen from where the store is
pub read_of : {A E : Type 0} (fits : State → A → Type 0) (inside outside new : Connected) (r : Result A E) → inside ≡ outside → ReadsBy fits inside new r
    → ReadsBy fits outside new r
read_of fits inside outside new r same it = subst (λ c. ReadsBy fits c new r) same it

-- nothing is read, over an open connection
pub unread : {A E : Type 0} (fits : State → A → Type 0) (old : Connected) (a : A) → (HasCleanDisk old → IsTrue old.is_open) → ((s : State) → fits s a)
    → ReadsBy {A = A} {E = E} fits old old (Ok a)
unread fits old a opened known = record {
  alone = λ idle. read.unread fits old a opened known;
  ends = λ clean idle. idle;
  within = λ on. read.unread fits (in_round old) a (λ clean. and_both old.is_open old.in_transaction (opened clean) on) known;
  uncommitted = λ on. write.survives_same old (λ _. ⊥);
}

-- ---- reads one after the other

-- what follows of a read of which nothing is known: its medium has failed
unclean : {B F : Type 0} (both : State → B → Type 0) (old new : Connected) (r : Result B F) → (HasCleanDisk new → ⊥)
    → Survives old new (CommitsTables Some old) → ReadsTables both old new r
unclean both old new r dirty crash = record {
  clean = λ clean. absurd (dirty clean);
  was_open = λ clean. absurd (dirty clean);
  is_open = λ clean. absurd (dirty clean);
  answer = λ clean. absurd (dirty clean);
  same = λ clean. absurd (dirty clean);
  crash = crash;
}

-- a read, and then another, whatever that answers
pub read_then : {A B E F : Type 0} (fits : State → A → Type 0) (more : State → B → Type 0) (all : State → B
    → Type 0) (old mid new : Connected) (a : A) (r : Result B F)
    → ((s : State) (b : B) → HoldsIfOpen old s → fits s a → more s b → all s b) → ReadsBy {A = A} {E = E} fits old mid (Ok a) → ReadsBy more mid new r
    → ReadsBy all old new r
read_then fits more all old mid new a r then one two = record {
  alone = λ idle. elim (cases_Bool mid.in_transaction) [
    | inl on ↦ unclean all old new r
        (λ clean. true≢false (sym on ∙ one.ends ((two.within on).clean clean) idle))
        (survives_then old mid new (CommitsTables Some old) (λ _. ⊥) (CommitsTables Some old) (λ _ db is. is) (λ _ db none. absurd none)
        (one.alone idle).crash (two.uncommitted on))
    | inr off ↦ read.read_then fits more all old mid new a r (λ s b rests. then s b (stood_alone old s rests)) (one.alone idle) (two.alone off)
  ];
  ends = λ clean idle. elim (cases_Bool mid.in_transaction) [
    | inl on ↦ absurd (true≢false (sym on ∙ one.ends ((two.within on).clean clean) idle))
    | inr off ↦ two.ends clean off
  ];
  within = λ on. elim (cases_Bool mid.in_transaction) [
    | inl still ↦ read.read_then fits more all (in_round old) (in_round mid) (in_round new) a r (λ s b rests. then s b (stood_within old s on rests))
        (one.within on) (two.within still)
    | inr off ↦
        let dirty : HasCleanDisk new
        → ⊥ = λ clean. true≢false (sym (both mid.is_open mid.in_transaction ((one.within on).is_open ((two.alone off).clean clean))).1 ∙ off) in
        unclean all (in_round old) (in_round new) r dirty
        (seen old new (CommitsTables Some (in_round old)) on
        (survives_then old mid new (λ _. ⊥) (CommitsTables Some mid) (CommitsTables Some mid) (λ _ db none. absurd none) (λ _ db is. is)
        (one.uncommitted on) (two.alone off).crash)
        (λ clean db opened still is. absurd (dirty clean)))
  ];
  uncommitted = λ on. elim (cases_Bool mid.in_transaction) [
    | inl still ↦ survives_then old mid new (λ _. ⊥) (λ _. ⊥) (λ _. ⊥) (λ _ db none. none) (λ _ db none. none) (one.uncommitted on) (two.uncommitted still)
    | inr off ↦
        survives_then old mid new (λ _. ⊥) (CommitsTables Some mid) (λ _. ⊥) (λ _ db none. none)
        (λ clean db is. absurd (true≢false (sym (both mid.is_open mid.in_transaction ((one.within on).is_open ((two.alone off).clean clean))).1 ∙ off)))
        (one.uncommitted on) (two.alone off).crash
  ];
}

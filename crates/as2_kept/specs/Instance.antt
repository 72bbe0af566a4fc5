-- The records of a connection, as a station takes them.
use Rattle.std.proofs.Common.{◌≡◌, ◌∙◌, Bool, true, false, IsTrue, ap, sym, subst}
use Rattle.std.proofs.lemmas.Bool.{both_ways, true_from_ne_false}
use Rattle.sqlite_trees.specs.Tree.{Trees}
use Rattle.sqlite_trees.specs.View.{doubt}
use Rattle.sqlite_trees.proofs.Doubt.{no_doubt}
use Rattle.sqlite.specs.Effect.{Database}
use Rattle.sqlite.specs.State.{State as Connected, HasCleanDisk}
use Rattle.as2_exchange.specs.State.{State}
use Rattle.as2_store.specs.Stands.{Rests}
use Rattle.as2_store.specs.Calls.{Keeps}
use Rattle.as2_store.proofs.Committing.{keeps_of}
use Rattle.as2_store.proofs.Single.{one_kept}
use Rattle.as2_records.specs.Standing.{Medium, Standing}
use Rattle.as2_records.specs.Calls.{Lasts}

-- they lie in tables; a stop leaves trees
abbrev pub tables : Medium
tables = record {
  Remains = Trees;
  keeps = Keeps;
  keeps_counted = λ left s it. record { receipts = it.stands.receipts; documents = it.stands.documents };
  keeps_one = one_kept;
  is_lasting = true;
}

-- a connection, as records
abbrev pub tables_standing : Connected → Standing tables
tables_standing c = record {
  IsClean = HasCleanDisk c;
  is_open = c.is_open;
  faults = c.faults;
  IsShielded = c.IsShielded;
  Rests = Rests c;
  knows = λ s rests. rests.knows;
  may_leave = c.may_leave;
  counted = λ opened s rests. record { receipts = (rests.stands opened).stands.receipts; documents = (rests.stands opened).stands.documents };
}

-- an open connection is clean, since one that isn't shows as shut
pub clean_if_open : (clean opened : Bool) → (clean ≡ false → opened ≡ false) → IsTrue opened → doubt clean ≡ 0
clean_if_open clean opened shut is = no_doubt clean (true_from_ne_false clean (λ dirty. both_ways opened (shut dirty) is))

-- what they stand for lasts, since over an open connection a stop leaves what is committed
pub tables_last : (c : Connected) → ((db : Trees) → IsTrue c.is_open → c.may_leave db → db ≡ c.committed.trees) → IsTrue c.is_open → (s : State) → Rests c s → Lasts {M = tables} (tables_standing c) s
tables_last c settled opened s rests = record {
  each = λ db may. subst (λ (t : Trees). Keeps t s) (sym (settled db opened may ∙ ap (λ (d : Database). d.trees) (rests.committed opened))) (keeps_of c.now s (rests.stands opened));
}

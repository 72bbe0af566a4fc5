-- What is sent, with less of what is seen of it.
use Rattle.std.proofs.Common.{ℕ, List, Option}
use Rattle.as2_exchange.specs.Agreement.{Agreements, Text}
use Rattle.as2_exchange.specs.State.{State}
use Rattle.as2_sending.specs.Exchanges.{Exchange}
use Rattle.as2_sending.specs.Turns.{Sends}
use Rattle.as2_sending.specs.declared.sent.Sent.{Sent}

pub unhinted : (A : Agreements) (m : ℕ) (s t : State) (before after : Option (List ℕ)) (Seen Less : Text → List Exchange → Type 0) (end : Sent)
    → ((text : Text) (made : List Exchange) → Seen text made → Less text made) → Sends A m s t before after Seen end
    → Sends A m s t before after Less end
unhinted A m s t before after Seen Less end f it = record {
  done = it.done;
  mid = it.mid;
  all = it.all;
  last = it.last;
  rest = it.rest;
  ends = it.ends;
  run = it.run;
  by_history = it.by_history;
  written = it.written;
  seen = f _ _ it.seen;
}

-- What is done over a store, said of the store that is left.
use Rattle.std.proofs.Common.{inl, inr, ℕ, List, Option, Some, None}
use Rattle.as2_agreement.specs.Agreements.{AgreedValues}
use Rattle.as2_exchange.specs.State.{State}
use Rattle.as2_host.specs.Networks.{ListenerSeen}
use Rattle.as2_http.specs.declared.stream.Served.{Served}
use Rattle.as2_desk.proofs.HandedBack.{SaysAgain, both_known, leaving, posts_left}
use Rattle.as2_desk.specs.Connections.{AwaitsFrom, ServesCount}
use Rattle.as2_desk.specs.Observed.{Observation, Outcome}
use Rattle.as2_desk.specs.Works.{CarriesOut, DoesWork, CommandInHand}
use Rattle.as2_desk.specs.declared.status.Ran.{Ran}
use Rattle.as2_desk.specs.declared.work.Work.{Work}
use Rattle.as2_desk.specs.declared.work.Work.TheVariants.{At, Verify, GatherEvidence}
use Rattle.as2_commands.specs.declared.tasks.Command.TheVariants as command

module _ (count : ℕ) (known : Option State) (o : Outcome) (Left : State → Type 0) (l : ListenerSeen) (ran : Ran) (again : SaysAgain known Left o.Left) where
  awaits_left : (address : List ℕ) (ends : List Served) (k : Option State) → SaysAgain k Left o.Left → AwaitsFrom k Left l address ends
      → AwaitsFrom k o.Left l address ends
  awaits_left address ends None later it = it
  awaits_left address ends (Some s) later it = (it.0, later it.0 it.1, it.2)

  serves_left : ServesCount count known (leaving o Left) l ran → ServesCount count known o l ran
  serves_left (inl never) =
      inl (record { left = both_known _ _ _ known again never.left (λ s later left. later s left); unwritten = never.unwritten; told = never.told })
  serves_left (inr (inl all)) =
      inr (inl (record {
        address = all.address;
        ends = all.ends;
        awaits = awaits_left all.address all.ends known again all.awaits;
        all = all.all;
        lines = all.lines;
        told = all.told;
      }))
  serves_left (inr (inr some)) =
      inr (inr (record {
        address = some.address;
        ends = some.ends;
        awaits = awaits_left some.address some.ends known again some.awaits;
        within = some.within;
        stop = some.stop;
        lines = some.lines;
        told = some.told;
      }))

-- what is observed, with another state that is left
abbrev pub observing : Observation → (State → Type 0) → Observation
observing o Left = record o { outcome = leaving o.outcome Left }

-- the state may be said in other words
pub carried_left : (A : AgreedValues) (m : ℕ) (c : CommandInHand) (known : Option State) (o : Observation) (Left : State → Type 0) (ran : Ran)
    → SaysAgain known Left o.outcome.Left → CarriesOut A m c known (observing o Left) ran → CarriesOut A m c known o ran
carried_left A m (command.Post logs) known o Left ran again it = (it.0, posts_left A m known o.input o.outcome Left ran again it.1)
carried_left A m (command.Ask q) known o Left ran again it = (
  it.0,
  it.1,
  record {
    told = it.2.told;
    refused = it.2.refused;
    fault = it.2.fault;
    tells = both_known _ _ _ known again it.2.tells (λ s later tells. (tells.0, later tells.0 tells.1, tells.2));
    by_history =
        both_known _ _ _ known again it.2.by_history (λ s later by. (by.0, later by.0 by.1, by.2));
    prints = it.2.prints;
  },
)
carried_left A m (command.Send waits) known o Left ran again it = (
  it.0,
  record {
    end = it.1.end;
    sends = both_known _ _ _ known again it.1.sends (λ s later sends. (sends.0, later sends.0 sends.1, sends.2));
    unwritten = it.1.unwritten;
    sound = it.1.sound;
    told = it.1.told;
  },
)
carried_left A m (command.Serve serving) known o Left ran again it =
    (it.0, serves_left serving.count known o.outcome Left (o.listening A serving) ran again it.1)

pub does_left : (A : AgreedValues) (m : ℕ) (w : Work) (known : Option State) (o : Observation) (Left : State → Type 0) (ran : Ran)
    → SaysAgain known Left o.outcome.Left → DoesWork A m w known (observing o Left) ran → DoesWork A m w known o ran
does_left A m (At c) known o Left ran again it = (it.0, carried_left A m c known o Left ran again it.1)
does_left A m (Verify format) known o Left ran again it = (
  it.0,
  it.1,
  it.2,
  record {
    came = it.3.came;
    fault = it.3.fault;
    audits = both_known _ _ _ known again it.3.audits (λ s later audits. (later s audits.0, audits.1));
    prints = it.3.prints;
  },
)
does_left A m (GatherEvidence wanted) known o Left ran again it = (
  it.0,
  it.1,
  record {
    came = it.2.came;
    fault = it.2.fault;
    reads = both_known _ _ _ known again it.2.reads (λ s later reads. (later s reads.0, reads.1));
    makes = it.2.makes;
  },
)

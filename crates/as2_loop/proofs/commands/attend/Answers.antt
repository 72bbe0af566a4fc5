use Rattle.std.proofs.Common.{Option, Some, sym, subst}
use Rattle.std.specs.Prelude.{IfSome}
use Rattle.clap.specs.Walk.{texts}
use Rattle.as2_bounded.specs.declared.bounded.Bounded.{Bounded}
use Rattle.as2_live.specs.declared.live.Live.{Live}
use Rattle.as2_loop.specs.Commands.{RunsWords}
use Rattle.as2_loop.specs.Running.{RunsOn}
use Rattle.as2_loop.specs.declared.commands.Verdict.{Verdict}
use Rattle.as2_loop.proofs.GoingOn.{goes_none}
use Rattle.as2_loop.proofs.commands.attend.Goals as goal

pub returns-in_default : goal.returns-in_default
returns-in_default g c =
    subst (λ (l : Option (Live (Bounded g.row.R.Denot))). IfSome l (RunsOn g.R.Records.shows c.args.basis.now c.args.live)) (sym c.unheard.ensures.live)
    (goes_none g.R.Records.shows c.args.basis.now c.args.live)

pub returns-in_default-texts_of : goal.returns-in_default-texts_of
returns-in_default-texts_of g c =
    subst (λ (l : Option (Live (Bounded g.row.R.Denot))). IfSome l (RunsOn g.R.Records.shows c.args.basis.now c.args.live))
    (sym c.unheard-in_default-texts_of.ensures.live) (goes_none g.R.Records.shows c.args.basis.now c.args.live)

pub returns-in-Stops : goal.returns-in-Stops
returns-in-Stops g c =
    subst (λ (l : Option (Live (Bounded g.row.R.Denot))). IfSome l (RunsOn g.R.Records.shows c.args.basis.now c.args.live))
    (sym c.unheard-in-Stops.ensures.live) (goes_none g.R.Records.shows c.args.basis.now c.args.live)

pub returns-in-Refused : goal.returns-in-Refused
returns-in-Refused g c =
    subst (λ (l : Option (Live (Bounded g.row.R.Denot))). IfSome l (RunsOn g.R.Records.shows c.args.basis.now c.args.live)) (sym c.noted.ensures.live)
    (goes_none g.R.Records.shows c.args.basis.now c.args.live)

pub returns : goal.returns
returns g c =
    subst (λ (l : Option (Live (Bounded g.row.R.Denot))). IfSome l (RunsOn g.R.Records.shows c.args.basis.now c.args.live))
    (sym c.noted-in-Runs.ensures.live) (c.run_words-outcome.ensures (record {
      asks = subst (λ (v : Verdict). RunsWords (texts c.as_slice-words.result.now) (Some c.seconds.result) v) c.in-Runs.is c.judge.ensures;
      text = c.deref-in-Runs.ensures.value;
    }))

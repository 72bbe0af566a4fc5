use Rattle.std.proofs.Common.{◌∙◌, inl, inr, sym, true≢false}
use Rattle.clap.specs.Walk.{texts}
use Rattle.as2_loop.proofs.GoingOn.{runs_words}
use Rattle.as2_loop.proofs.commands.judge.Goals as goal

pub returns-in-Err-2 : goal.returns-in-Err-2
returns-in-Err-2 c = inl (c.in-Err.ensures.none (elim c.is_memory.ensures [
  | inl is ↦ absurd (true≢false (sym is ∙ c.if-is_memory.false))
  | inr other ↦ other
]))

pub returns : goal.returns
returns c =
    runs_words (texts c.args.words.now) c.args.clock c.in-Ok.options.agreements.now c.in-Ok.options.store.now c.in-Ok.options.task c.in-Ok.ensures.given
    c.verdict_on-verdict.result c.verdict_on-verdict.ensures

use Rattle.std.proofs.Common.{rules, sym, subst}
use Rattle.std.proofs.lemmas.List.{take_rest}
use Rattle.as2_control.specs.Frames.{IsFrameOf}
use Rattle.as2_control.proofs.Beginnings.{frame_body, no_frame}
use Rattle.as2_control.proofs.heads.body_of.Goals as goal

pub slice_bounds-result-count : goal.slice_bounds-result-count
slice_bounds-result-count c = (frame_body c.args.most c.args.frame.now c.in-Whole.ensures).0

pub slice_bounds-result-start : goal.slice_bounds-result-start
slice_bounds-result-start c = let long = (frame_body c.args.most c.args.frame.now c.in-Whole.ensures).0 in search rules

pub returns-in-Whole-clause-found : goal.returns-in-Whole-clause-found
returns-in-Whole-clause-found c =
    subst (IsFrameOf c.args.most c.args.frame.now) (sym (take_rest c.args.frame.now 14)) (frame_body c.args.most c.args.frame.now c.in-Whole.ensures).1

pub returns-in_default : goal.returns-in_default
returns-in_default c = record {
  found = tt;
  none = no_frame c.args.most c.args.frame.now c.awaited.result c.awaited.ensures c.in_default.not-Whole;
}

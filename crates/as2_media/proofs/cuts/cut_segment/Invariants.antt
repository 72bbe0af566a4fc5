use Rattle.as2_names.proofs.CutLists.{Cuts}
use Rattle.as2_media.specs.Cuts.{segments}
use Rattle.as2_media.specs.declared.cuts.Place.TheVariants.{Outside}
use Rattle.as2_media.proofs.cuts.cut_segment.Given as goal

abbrev pub invariant-loop-i : goal.invariant-loop-i
invariant-loop-i l = Cuts (segments Outside l.text) (segments l.place) l.text l.i

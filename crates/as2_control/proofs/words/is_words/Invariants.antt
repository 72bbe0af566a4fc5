use Rattle.std.proofs.Common.{length}
use Rattle.as2_control.proofs.Texts.{CountsWords}
use Rattle.as2_control.proofs.words.is_words.Given as goal

abbrev pub invariant-loop-word : goal.invariant-loop-word
invariant-loop-word l = CountsWords l.text l.count l.rest

abbrev pub decreases-loop-word : goal.decreases-loop-word
decreases-loop-word l = length l.rest

use Rattle.std.proofs.Common.{length, map, string_bytes}
use Rattle.as2_control.proofs.Texts.{WordsLeft}
use Rattle.as2_control.proofs.words.read_words.Given as goal

abbrev pub invariant-loop-word : goal.invariant-loop-word
invariant-loop-word l = WordsLeft l.text (map string_bytes l.words.items) l.rest

abbrev pub decreases-loop-word : goal.decreases-loop-word
decreases-loop-word l = length l.rest

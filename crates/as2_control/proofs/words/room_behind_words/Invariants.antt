use Rattle.std.proofs.Common.{◌≡◌, ◌+◌, length, map, string_bytes, take}
use Rattle.as2_control.specs.Demands.{words_text}
use Rattle.as2_control.proofs.words.room_behind_words.Given as goal

abbrev pub invariant-loop-word : goal.invariant-loop-word
invariant-loop-word l = l.left + length (words_text (map string_bytes (take l.word-index l.words))) ≡ l.room

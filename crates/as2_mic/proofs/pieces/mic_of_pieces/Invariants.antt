use Rattle.std.proofs.Common.{take}
use Rattle.std.specs.List.{flat_map}
use Rattle.as2_mic.specs.Fed.{HasDigested}
use Rattle.as2_mic.proofs.pieces.mic_of_pieces.Given as goal

abbrev pub invariant-loop-piece : goal.invariant-loop-piece
invariant-loop-piece l = HasDigested l.digester l.fn.alg (flat_map (λ v. v.items) (take l.piece-index l.content-inside.full.items))

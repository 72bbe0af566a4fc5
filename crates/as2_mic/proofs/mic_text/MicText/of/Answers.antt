use Rattle.std.proofs.Common.{◌≡◌, ◌++◌, length, replicate, drop, refl, ap, arith}
use Rattle.as2_mic.proofs.Texts.{padded, padded_whole}
use Rattle.as2_mic.proofs.mic_text.MicText.of.Goals as goal

pub invariant_of-result : goal.invariant_of-result
invariant_of-result c =
    let n = length c.args.bytes.now in
    let bytes = c.copy_from_slice.new.self ++ drop n (replicate 44 0) in
    let len : length c.copy_from_slice.new.self ≡ n = ap length c.copy_from_slice.ensures.after in
    let whole : length bytes ≡ 44 = padded_whole c.copy_from_slice.new.self n len (omega arith) in
    let p = padded bytes c.copy_from_slice.new.self n whole (omega arith) refl in
    (omega arith, omega arith, whole, p.zeros)

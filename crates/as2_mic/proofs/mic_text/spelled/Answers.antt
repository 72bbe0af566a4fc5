use Rattle.std.proofs.Common.{◌≡◌, ◌<◌, ◌≤◌, length, rules, arith}
use Rattle.base64.specs.Engines.{standard}
use Rattle.base64.specs.GeneralPurpose.{encode_of, encoded_size_of}
use Rattle.as2_mic.proofs.Texts.{padded}
use Rattle.as2_mic.proofs.mic_text.spelled.Goals as goal

pub invariant_of-result : goal.invariant_of-result
invariant_of-result c =
    let n = length c.args.digest.now in
    let short : encoded_size_of standard n ≤ 44 = omega (arith, c.requires.short) in
    let some : 0 < encoded_size_of standard n = omega (arith, c.requires.some) in
    let fits = c.in-Ok.ensures.fits short in
    let len : c.in-Ok.len ≡ encoded_size_of standard n = cc in
    let whole : length c.encode_slice.new.output ≡ 44 = search rules in
    let p = padded c.encode_slice.new.output (encode_of standard c.args.digest.now) c.in-Ok.len whole (omega (arith, len, short)) (search rules) in
    (omega (arith, len, some), omega (arith, len, short), whole, p.zeros)

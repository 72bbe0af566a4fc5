use Rattle.std.proofs.Common.{arith}
use Rattle.as2_framing.proofs.Feeding.{rest_of}
use Rattle.as2_http.proofs.Pushing.{none_failed, pushed_more}
use Rattle.as2_http.specs.declared.device.DeviceFault.{DeviceFault}
use Rattle.as2_http.proofs.sending.push_all.Goals as goal

pub loop-rest-preserved : goal.loop-rest-preserved
loop-rest-preserved g c = (
  rw (rest_of c.in_ok-count.count c.loop-rest.rest.now) (pushed_more c.in_ok-count.count c.loop-rest.invariant.0 c.in_ok-count.ensures.bytes),
  let none = none_failed DeviceFault c.loop-rest.rest.now c.in_ok-count.count c.if-count-eq0.false in
      omega (arith, c.loop-rest.invariant.1, c.in_ok-count.ensures.failed, none),
)

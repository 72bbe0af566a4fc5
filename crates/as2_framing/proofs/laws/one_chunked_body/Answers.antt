use Rattle.as2_framing.proofs.OneBody.{begins_one, never_faulty, never_open, never_open_fault, one_fault}
use Rattle.as2_framing.proofs.laws.one_chunked_body.Goals as goal

pub returns : goal.returns
returns c = record { one = begins_one; sound = never_faulty; whole = never_open; one_fault = one_fault; fault = never_open_fault }

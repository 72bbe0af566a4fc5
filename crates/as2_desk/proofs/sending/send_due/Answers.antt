use Rattle.as2_desk.proofs.HandedBack.{each_known}
use Rattle.as2_desk.proofs.Unhinted.{unhinted}
use Rattle.as2_desk.proofs.sending.send_due.Goals as goal

pub returns-clause-sends : goal.returns-clause-sends
returns-clause-sends g c = λ known stood. record {
  end = c.send-sent.result.end;
  sends = each_known _ _ known stood
      (λ s it. let sends = c.send-sent.ensures.sends it.0 s it.1 in (sends.0, sends.1, unhinted _ _ _ _ _ _ _ _ _ (λ text made seen. seen.1) sends.2));
  unwritten = c.send-sent.ensures.unwritten;
  sound = c.send-sent.ensures.sound;
  told = c.tell_sent.ensures.told;
}

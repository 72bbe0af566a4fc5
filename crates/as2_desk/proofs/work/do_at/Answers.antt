use Rattle.std.proofs.Common.{refl}
use Rattle.as2_desk.proofs.HandedBack.{each_known}
use Rattle.as2_desk.proofs.Unhinted.{unhinted}
use Rattle.as2_desk.proofs.work.do_at.Goals as goal

pub returns-in-Post-clause-does : goal.returns-in-Post-clause-does
returns-in-Post-clause-does g c = rw c.in-Post.is (λ known stood. (refl, (c.post.ensures.posts known stood).0))

-- the links were opened here, it is they that were sent over, and they were given back as they were then
pub returns-in-Send-clause-does : goal.returns-in-Send-clause-does
returns-in-Send-clause-does g c = rw c.in-Send.is (λ known stood.
    let it = c.send_due-ran.ensures.sends known stood in (
      c.send_due-ran.ensures.unread,
      record {
        end = it.end;
        sends = each_known _ _ known it.sends
            (λ s w. (
              w.0,
              w.1,
              unhinted _ _ _ _ _ _ _ _ _
                  (λ text made all. (c.links-links.result, c.send_due-ran.new.links, c.links-links.new.self, c.links-links.ensures, all, c.close.ensures)) w.2,
            ));
        unwritten = it.unwritten;
        sound = it.sound;
        told = it.told;
      },
    ))

pub returns-in-Serve-clause-does : goal.returns-in-Serve-clause-does
returns-in-Serve-clause-does g c = rw c.in-Serve.is (λ known stood. (c.serve.ensures.unread, c.serve.ensures.serves known stood))

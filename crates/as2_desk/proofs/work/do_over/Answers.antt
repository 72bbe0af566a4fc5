use Rattle.std.proofs.Common.{refl, sym}
use Rattle.as2_desk.proofs.work.do_over.Goals as goal

-- the records could be opened
pub returns-in-At-clause-does : goal.returns-in-At-clause-does
returns-in-At-clause-does g c =
    rw (c.in-Ok.is, c.in-At.is, c.into_records.ensures, sym c.new-station.ensures)
    (c.do_at-ran.ensures.clean, λ known stood. (c.do_at-ran.ensures.unmade, c.do_at-ran.ensures.does known stood))

pub returns-in-Verify-clause-does : goal.returns-in-Verify-clause-does
returns-in-Verify-clause-does g c = rw (c.in-Ok.is, c.in-Verify.is) (
  c.look_through-ran.ensures.clean,
  λ known stood. (refl, refl, c.look_through-ran.ensures.unread, c.look_through-ran.ensures.verifies known stood),
)

pub returns-in-GatherEvidence-clause-does : goal.returns-in-GatherEvidence-clause-does
returns-in-GatherEvidence-clause-does g c = rw (c.in-Ok.is, c.in-GatherEvidence.is) (
  c.gather-ran.ensures.clean,
  λ known stood. (refl, c.gather-ran.ensures.unread, c.gather-ran.ensures.proves known stood),
)

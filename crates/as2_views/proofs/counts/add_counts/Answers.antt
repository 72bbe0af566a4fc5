use Rattle.as2_views.proofs.Chains.{five}
use Rattle.as2_views.proofs.counts.add_counts.Goals as goal

pub returns : goal.returns
returns c =
    rw (
      c.in_ok-add_count-5.ensures,
      c.in_ok-add_count-4.ensures,
      c.in_ok-add_count-3.ensures,
      c.in_ok-add_count-2.ensures,
      c.in_ok-add_count.ensures,
    ) (five c.args.text.now.items _ _ _ _ _)

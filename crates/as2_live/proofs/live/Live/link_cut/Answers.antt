use Rattle.std.proofs.Common.{Bool, subst}
use Rattle.as2_links.specs.Happenings.{Cuts}
use Rattle.as2_live.specs.Living.{LivesBy, at_a_link}
use Rattle.as2_links.proofs.Standing.{as_many}
use Rattle.as2_live.proofs.Going.{link_cut}
use Rattle.as2_live.proofs.live.Live.link_cut.Goals as goal

pub returns-clause-lives : goal.returns-clause-lives
returns-clause-lives g c =
    let old = c.args.self.now in
    let new = record old { links = c.cut.new.self } in
    subst (λ (is : Bool). LivesBy g.K.Records.shows old (at_a_link is (Cuts c.args.at)) new) c.cut.ensures.awaits
    (link_cut g.K.Records.shows old c.cut.new.self
    (as_many old.links c.cut.new.self c.args.at c.cut.ensures.only) c.args.at c.cut.result c.cut.ensures.stands)

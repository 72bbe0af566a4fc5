use Rattle.std.proofs.Common.{Bool, subst}
use Rattle.as2_links.specs.Happenings.{Hears}
use Rattle.as2_live.specs.Living.{LivesBy, at_a_link}
use Rattle.as2_links.proofs.Standing.{as_many}
use Rattle.as2_live.proofs.Going.{link_heard}
use Rattle.as2_live.proofs.live.Live.link_heard.Goals as goal

pub returns-clause-lives : goal.returns-clause-lives
returns-clause-lives g c =
    let old = c.args.self.now in
    let new = record old { links = c.hear.new.self } in
    subst (λ (is : Bool). LivesBy g.K.Records.shows old (at_a_link is (Hears c.args.at c.args.piece.now)) new) c.hear.ensures.awaits
    (link_heard g.K.Records.shows old c.hear.new.self
    (as_many old.links c.hear.new.self c.args.at c.hear.ensures.only) c.args.at c.args.piece.now c.hear.result c.hear.ensures.stands)

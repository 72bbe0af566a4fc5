use Rattle.std.proofs.Common.{Bool, slice_get, subst, take}
use Rattle.as2_links.specs.Happenings.{Sends}
use Rattle.as2_links.specs.Links.{links_of, unsent_at}
use Rattle.as2_live.specs.Living.{LivesBy, at_a_link}
use Rattle.as2_links.proofs.Standing.{as_many}
use Rattle.as2_live.proofs.Going.{link_sent}
use Rattle.as2_live.proofs.live.Live.link_sent.Goals as goal

pub returns-clause-lives : goal.returns-clause-lives
returns-clause-lives g c =
    let old = c.args.self.now in
    let new = record old { links = c.sent.new.self } in
    let piece = take c.args.most (unsent_at (slice_get (links_of old.links) c.args.at)) in
    subst (λ (is : Bool). LivesBy g.K.Records.shows old (at_a_link is (Sends c.args.at piece)) new) c.sent.ensures.there
    (link_sent g.K.Records.shows old c.sent.new.self
    (as_many old.links c.sent.new.self c.args.at c.sent.ensures.only) c.args.at piece c.sent.result c.sent.ensures.stands)

use Rattle.std.proofs.Common.{◌∙◌, Some, refl, ap}
use Rattle.std.proofs.lemmas.Option.{slice_get_within}
use Rattle.as2_links.specs.Links.{is_answered_at, links_of}
use Rattle.as2_links.proofs.Standing.{got, opened}
use Rattle.as2_links.proofs.table.LinkTable.open.Goals as goal

pub returns : goal.returns
returns c =
    let links = links_of c.args.self.now in
    let at = c.args.at in
    let within = slice_get_within links at _ c.requires.free.free in
    record {
      stands = λ h it. opened c.args.self.now _ at c.args.what c.args.job c.new.result h within refl c.requires.free c.new.ensures.holds it;
      only = (Some c.new.result, refl);
      awaits = ap is_answered_at (got links at (Some c.new.result) within) ∙ c.new.ensures.awaits;
    }

use Rattle.std.proofs.Common.{◌<◌, ◌∙◌, length, Some, None, Option, sym, ap, arith}
use Rattle.std.specs.Prelude.{slice_set}
use Rattle.as2_links.specs.Links.{links_of}
use Rattle.as2_links.specs.declared.link.Link.{Link}
use Rattle.as2_links.proofs.Standing.{ended, there, unchanged}
use Rattle.as2_links.proofs.table.LinkTable.end.Goals as goal

pub returns-in-Some-clause-stands : goal.returns-in-Some-clause-stands
returns-in-Some-clause-stands c =
    let table = c.args.self.now in
    let at = c.args.at in
    let within : at < length (links_of table) = omega (arith, table.links.ok.0) in
    let here = there (links_of table) at c.index_mut.result.now within c.index_mut.ensures.value in
    let at_place = here ∙ ap (λ (o : Option Link). Some o) (sym c.replace.ensures.value ∙ c.in-Some.is) in
    λ h it. ended table _ at c.in-Some.link h within at_place it c.end.result.what c.end.result.got
    (ap (slice_set (links_of table) at) c.replace.ensures.after) c.end.ensures.what c.end.ensures.got

pub returns-in-None-clause-stands : goal.returns-in-None-clause-stands
returns-in-None-clause-stands c =
    let table = c.args.self.now in
    let at = c.args.at in
    let within : at < length (links_of table) = omega (arith, table.links.ok.0) in
    let here = there (links_of table) at c.index_mut.result.now within c.index_mut.ensures.value in
    let at_place = here ∙ ap (λ (o : Option Link). Some o) (sym c.replace.ensures.value ∙ c.in-None.is) in
    λ h it. unchanged table _ at None at_place (ap (slice_set (links_of table) at) c.replace.ensures.after) h it

pub returns-in-Some-clause-empties : goal.returns-in-Some-clause-empties
returns-in-Some-clause-empties c = ap (slice_set (links_of c.args.self.now) c.args.at) c.replace.ensures.after

pub returns-in-None-clause-empties : goal.returns-in-None-clause-empties
returns-in-None-clause-empties c = ap (slice_set (links_of c.args.self.now) c.args.at) c.replace.ensures.after

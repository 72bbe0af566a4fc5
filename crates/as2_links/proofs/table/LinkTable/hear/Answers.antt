use Rattle.std.proofs.Common.{◌<◌, ◌≤◌, ◌∙◌, length, Some, None, Option, refl, sym, ap, arith}
use Rattle.std.specs.Prelude.{slice_set}
use Rattle.as2_links.specs.Links.{links_of}
use Rattle.as2_links.specs.declared.link.Link.{Link}
use Rattle.as2_links.proofs.Standing.{beyond, heard, set_same, there, unchanged}
use Rattle.as2_links.proofs.table.LinkTable.hear.Goals as goal

pub returns-in_default-clause-stands : goal.returns-in_default-clause-stands
returns-in_default-clause-stands c =
    let table = c.args.self.now in
    let at = c.args.at in
    let within : at < length (links_of table) = omega (arith, table.links.ok.0) in
    let here = there (links_of table) at c.index_mut.result.now within c.index_mut.ensures.value in
    λ h it. unchanged table _ at c.index_mut.result.now here refl h it

pub returns-then-not-has_sent-clause-stands : goal.returns-then-not-has_sent-clause-stands
returns-then-not-has_sent-clause-stands c =
    let table = c.args.self.now in
    let at = c.args.at in
    let within : at < length (links_of table) = omega (arith, table.links.ok.0) in
    let here = there (links_of table) at c.index_mut.result.now within c.index_mut.ensures.value in
    λ h it. unchanged table _ at (Some c.in-Some.link) (here ∙ ap (λ (o : Option Link). Some o) c.in-Some.is) refl h it

pub returns-clause-stands : goal.returns-clause-stands
returns-clause-stands c =
    let table = c.args.self.now in
    let at = c.args.at in
    let within : at < length (links_of table) = omega (arith, table.links.ok.0) in
    let here = there (links_of table) at c.index_mut.result.now within c.index_mut.ensures.value in
    λ h it. heard table _ at c.in-Some.link h within (here ∙ ap (λ (o : Option Link). Some o) c.in-Some.is) it c.hear.new.self refl c.args.piece.now
    c.hear.result (c.has_sent.ensures.whole cc) c.hear.ensures.holds c.hear.ensures.same

-- what stood there is put back, or what came is put there: no other place changes
pub returns-in_default-clause-only : goal.returns-in_default-clause-only
returns-in_default-clause-only c = (c.index_mut.result.now, refl)

pub returns-in_default-clause-none : goal.returns-in_default-clause-none
returns-in_default-clause-none c is =
    let links = links_of c.args.self.now in
    let at = c.args.at in
    let within : at < length links = omega (arith, c.args.self.now.links.ok.0) in
    set_same links at c.index_mut.result.now (there links at c.index_mut.result.now within c.index_mut.ensures.value)

pub returns-then-not-has_sent-clause-only : goal.returns-then-not-has_sent-clause-only
returns-then-not-has_sent-clause-only c = (Some c.in-Some.link, refl)

pub returns-then-not-has_sent-clause-none : goal.returns-then-not-has_sent-clause-none
returns-then-not-has_sent-clause-none c is =
    let links = links_of c.args.self.now in
    let at = c.args.at in
    let within : at < length links = omega (arith, c.args.self.now.links.ok.0) in
    set_same links at (Some c.in-Some.link)
    (there links at c.index_mut.result.now within c.index_mut.ensures.value ∙ ap (λ (o : Option Link). Some o) c.in-Some.is)

pub returns-clause-only : goal.returns-clause-only
returns-clause-only c = (Some c.hear.new.self, refl)

pub returns-clause-none : goal.returns-clause-none
returns-clause-none c is =
    let links = links_of c.args.self.now in
    let at = c.args.at in
    let within : at < length links = omega (arith, c.args.self.now.links.ok.0) in
    ap (λ (l : Link). slice_set links at (Some l)) (c.hear.ensures.same is)
    ∙ set_same links at (Some c.in-Some.link)
    (there links at c.index_mut.result.now within c.index_mut.ensures.value ∙ ap (λ (o : Option Link). Some o) c.in-Some.is)

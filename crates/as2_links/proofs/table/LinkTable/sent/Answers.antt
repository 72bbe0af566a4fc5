use Rattle.std.proofs.Common.{◌≡◌, ◌<◌, ◌∙◌, ◌∷◌, ◌++◌, ℕ, List, length, min, take, Some, Option, refl, sym, ap, subst, arith}
use Rattle.std.specs.Prelude.{slice_get}
use Rattle.std.specs.Vec.{with_item}
use Rattle.std.proofs.Math.Nat.{min_comm}
use Rattle.std.proofs.lemmas.List.{take_min}
use Rattle.as2_links.specs.Happenings.{Sends}
use Rattle.as2_links.specs.Links.{HoldsLink, LinksStand, is_answer_known, is_answered_at, links_of, unsent_at, unsent_of}
use Rattle.as2_links.specs.declared.link.Link.{Link}
use Rattle.as2_links.specs.declared.table.LinkTable.{LinkTable}
use Rattle.as2_links.proofs.Standing.{got, sent, set_same, there, unchanged}
use Rattle.as2_links.proofs.table.LinkTable.sent.Goals as goal

pub returns-in_default-clause-stands : goal.returns-in_default-clause-stands
returns-in_default-clause-stands c =
    let table = c.args.self.now in
    let at = c.args.at in
    let within : at < length (links_of table) = omega (arith, table.links.ok.0) in
    let here = there (links_of table) at c.index_mut.result.now within c.index_mut.ensures.value in
    λ h it. unchanged table _ at c.index_mut.result.now here refl h it

pub returns-clause-stands : goal.returns-clause-stands
returns-clause-stands c =
    let table = c.args.self.now in
    let at = c.args.at in
    let within : at < length (links_of table) = omega (arith, table.links.ok.0) in
    let here = there (links_of table) at c.index_mut.result.now within c.index_mut.ensures.value in
    let link = c.in-Some.link in
    let at_place = here ∙ ap (λ (o : Option Link). Some o) c.in-Some.is in
    let count : take c.min-count.result (unsent_of link) ≡ take c.args.most (unsent_of link)
    = ap (λ (n : ℕ). take n (unsent_of link)) (c.min-count.ensures ∙ ap (λ (u : List ℕ). min (length u) c.args.most) c.unsent.ensures
    ∙ min_comm (length (unsent_of link)) c.args.most) ∙ take_min c.args.most (unsent_of link) in
    let new : LinkTable = record table { links = with_item table.links at (Some c.sent.new.self) } in
    λ h it. subst (λ (u : List ℕ). LinksStand new (Sends at (take c.args.most u) ∷ h)) (sym (ap unsent_at at_place))
    (sent table new at link h within at_place it c.sent.new.self refl c.args.most (λ s holds.
    subst (λ (u : List ℕ). HoldsLink c.sent.new.self (record s { sent = s.sent ++ u })) count (c.sent.ensures.holds s holds)))

-- what stood there is put back, or the link that has sent more is put there: no other place changes, nor what is known of the answer
pub returns-in_default-clause-only : goal.returns-in_default-clause-only
returns-in_default-clause-only c = (c.index_mut.result.now, refl)

pub returns-in_default-clause-none : goal.returns-in_default-clause-none
returns-in_default-clause-none c is =
    let links = links_of c.args.self.now in
    let at = c.args.at in
    let within : at < length links = omega (arith, c.args.self.now.links.ok.0) in
    set_same links at c.index_mut.result.now (there links at c.index_mut.result.now within c.index_mut.ensures.value)

pub returns-in_default-clause-answer : goal.returns-in_default-clause-answer
returns-in_default-clause-answer c =
    let links = links_of c.args.self.now in
    let at = c.args.at in
    let within : at < length links = omega (arith, c.args.self.now.links.ok.0) in
    ap (λ (ls : List (Option Link)). is_answered_at (slice_get ls at))
    (set_same links at c.index_mut.result.now (there links at c.index_mut.result.now within c.index_mut.ensures.value))

pub returns-clause-only : goal.returns-clause-only
returns-clause-only c = (Some c.sent.new.self, refl)

pub returns-clause-answer : goal.returns-clause-answer
returns-clause-answer c =
    let links = links_of c.args.self.now in
    let at = c.args.at in
    let within : at < length links = omega (arith, c.args.self.now.links.ok.0) in
    let here = there links at c.index_mut.result.now within c.index_mut.ensures.value ∙ ap (λ (o : Option Link). Some o) c.in-Some.is in
    ap is_answered_at (got links at (Some c.sent.new.self) within) ∙ ap (λ (l : Link). is_answer_known l.answer) c.sent.ensures.same
    ∙ sym (ap is_answered_at here)

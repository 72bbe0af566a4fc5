use Rattle.std.proofs.Common.{rules, ◌≡◌, List, [], ◌∷◌, Option, Some, ap, subst, sym, arith}
use Rattle.std.specs.Prelude.{slice_get, slice_set}
use Rattle.as2_hub.specs.Bounded.{unanswered_in}
use Rattle.as2_hub.specs.Places.{PlaceStands, ChangesOnlyIfKept}
use Rattle.as2_hub.specs.Happenings.{Keeps}
use Rattle.as2_hub.specs.Talks.{unanswered_of}
use Rattle.as2_hub.specs.declared.talk.Talk.{Talk}
use Rattle.as2_hub.proofs.Standing.{get_set_other, get_set_same, nobody_there, put_back, settled_none, settled_place, there}
use Rattle.as2_hub.proofs.Waiting.{waits_here, waits_vacant}
use Rattle.as2_hub.proofs.Within.{less_set}
use Rattle.as2_hub.proofs.hub.Hub.settle.Goals as goal

pub returns-clause-kept : goal.returns-clause-kept
returns-clause-kept c = λ kept h round it.
    let talks = c.args.self.now.talks.items in
    let at = c.args.at in
    let new = c.settle.new.self in
    settled_place at h round c.in-Some.talk new (slice_get talks at) (slice_get (slice_set talks at (Some new)) at)
    (there talks at c.index_mut.result.now c.in-Some.talk c.requires.within c.index_mut.ensures.value c.in-Some.is)
    (get_set_same talks at (Some new) c.requires.within)
    (c.settle.ensures.kept kept) c.settle.ensures.silent c.settle.ensures.over it

pub returns-in_default-clause-kept : goal.returns-in_default-clause-kept
returns-in_default-clause-kept c = λ kept h round it.
    let talks = c.args.self.now.talks.items in
    let at = c.args.at in
    let found = c.index_mut.result.now in
    let none = nobody_there talks at found c.requires.within c.index_mut.ensures.value (first_of (cc, search rules)) in
    subst (λ (l : List (Option Talk)). PlaceStands at (Keeps round ∷ h) [] (slice_get l at))
    (sym (put_back talks at found c.requires.within c.index_mut.ensures.value)) (settled_none at h round (slice_get talks at) none it)

pub returns-clause-others : goal.returns-clause-others
returns-clause-others c = λ k ne. get_set_other c.args.self.now.talks.items c.args.at k (Some c.settle.new.self) ne

pub returns-clause-unread : goal.returns-clause-unread
returns-clause-unread c =
    let talks = c.args.self.now.talks.items in
    let here = there talks c.args.at c.index_mut.result.now c.in-Some.talk c.requires.within c.index_mut.ensures.value c.in-Some.is in
    let was : unanswered_in (slice_get talks c.args.at) ≡ unanswered_of c.in-Some.talk = ap unanswered_in here in
    less_set talks c.args.at (Some c.settle.new.self) c.requires.within (omega (arith, was, c.settle.ensures.unread))

pub returns-clause-waits : goal.returns-clause-waits
returns-clause-waits c =
    let talks = c.args.self.now.talks.items in
    let at = c.args.at in
    let new = c.settle.new.self in
    waits_here c.args.is_kept c.in-Some.talk new (slice_get talks at) (slice_get (slice_set talks at (Some new)) at)
    (there talks at c.index_mut.result.now c.in-Some.talk c.requires.within c.index_mut.ensures.value c.in-Some.is)
    (get_set_same talks at (Some new) c.requires.within) c.settle.ensures.lost c.settle.ensures.silent

pub returns-in_default-clause-waits : goal.returns-in_default-clause-waits
returns-in_default-clause-waits c =
    let talks = c.args.self.now.talks.items in
    let at = c.args.at in
    let found = c.index_mut.result.now in
    let none = nobody_there talks at found c.requires.within c.index_mut.ensures.value (first_of (cc, search rules)) in
    subst (λ (l : List (Option Talk)). ChangesOnlyIfKept c.args.is_kept (slice_get talks at) (slice_get l at))
    (sym (put_back talks at found c.requires.within c.index_mut.ensures.value)) (waits_vacant c.args.is_kept (slice_get talks at) none)

use Rattle.std.proofs.Common.{◌<◌, ◌≤◌, ◌+◌, length, take, refl, ap, arith, length-take}
use Rattle.std.specs.Prelude.{slice_get}
use Rattle.as2_hub.specs.Places.{room_in}
use Rattle.as2_hub.specs.Talks.{unanswered_of}
use Rattle.as2_hub.proofs.Standing.{heard, room_within, there, within_of}
use Rattle.as2_hub.proofs.Within.{bounded_more}
use Rattle.as2_hub.proofs.hub.Hub.hear.Goals as goal

pub hear-requires : goal.hear-requires
hear-requires c =
    let hub = c.args.self.now in
    let talks = hub.talks.items in
    let at = c.args.at in
    let n = c.min-room.result in
    let within : at < length talks = within_of talks at (λ none. absurd (omega (arith, c.room.ensures, ap (room_in hub) none))) in
    let here = there talks at c.index_mut.result.now c.in-Some.talk within c.index_mut.ensures.value c.in-Some.is in
    let fits : unanswered_of c.in-Some.talk + n ≤ hub.bounds.bytes_of_one =
    room_within hub c.in-Some.talk n (slice_get talks at) here (omega arith) (omega (arith, c.room.ensures)) in
    record { fits = omega (arith, fits, length-take n c.args.piece.now) }

pub returns-clause-stands : goal.returns-clause-stands
returns-clause-stands c = λ some h it.
    let hub = c.args.self.now in
    let talks = hub.talks.items in
    let at = c.args.at in
    let n = c.min-room.result in
    let within : at < length talks = within_of talks at (λ none. absurd (omega (arith, c.room.ensures, ap (room_in hub) none, some))) in
    let here = there talks at c.index_mut.result.now c.in-Some.talk within c.index_mut.ensures.value c.in-Some.is in
    heard talks at c.in-Some.talk c.hear.new.self
    (take n c.args.piece.now) h within here c.hear.ensures.rest c.hear.ensures.same_output c.hear.ensures.same_reply it

pub returns-clause-sets : goal.returns-clause-sets
returns-clause-sets c = λ some. (c.hear.new.self, refl)

pub returns-clause-bounded : goal.returns-clause-bounded
returns-clause-bounded c =
    let hub = c.args.self.now in
    let talks = hub.talks.items in
    let at = c.args.at in
    let n = c.min-room.result in
    let within : at < length talks = within_of talks at (λ none. absurd (omega (arith, c.room.ensures, ap (room_in hub) none))) in
    let here = there talks at c.index_mut.result.now c.in-Some.talk within c.index_mut.ensures.value c.in-Some.is in
    let more : unanswered_of c.hear.new.self ≤ unanswered_of c.in-Some.talk + n = omega (arith, c.hear.ensures.unread, length-take n c.args.piece.now) in
    bounded_more hub _ at n c.in-Some.talk c.hear.new.self within here refl refl more (omega (arith, c.room.ensures)) (omega arith)

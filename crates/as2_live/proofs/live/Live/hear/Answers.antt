use Rattle.std.proofs.Common.{ℕ, ◌≤◌, length, refl, slice_get, subst, sym}
use Rattle.std.proofs.Math.Nat.{min-le_right}
use Rattle.as2_hub.specs.Places.{places, room_in}
use Rattle.as2_live.proofs.Steps.{heard}
use Rattle.as2_live.proofs.live.Live.hear.Goals as goal

pub returns-clause-lives : goal.returns-clause-lives
returns-clause-lives g c =
    let within : c.hear.result ≤ length c.args.piece.now = subst (λ (n : ℕ). n ≤ length c.args.piece.now) (sym c.hear.ensures.count)
    (min-le_right (room_in c.args.self.now.hub (slice_get (places c.args.self.now.hub) c.args.at)) (length c.args.piece.now)) in
    heard g.K.Records.shows c.args.self.now (record { hub = c.hear.new.self; desk = c.args.self.now.desk; links = c.args.self.now.links }) refl
    refl c.args.at c.hear.result c.args.piece.now within
    c.hear.ensures.stands c.hear.ensures.bounded c.hear.ensures.none

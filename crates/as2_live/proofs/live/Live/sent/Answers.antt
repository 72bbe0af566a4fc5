use Rattle.std.proofs.Common.{ℕ, ◌≤◌, List, length, refl, slice_get, subst, sym}
use Rattle.std.proofs.Math.Nat.{min-le_right}
use Rattle.as2_hub.specs.Places.{output_at, places}
use Rattle.as2_live.proofs.Steps.{went}
use Rattle.as2_live.proofs.live.Live.sent.Goals as goal

pub returns-clause-lives : goal.returns-clause-lives
returns-clause-lives g c =
    let output : List ℕ = output_at (slice_get (places c.args.self.now.hub) c.args.at) in
    let within : c.sent.result ≤ length output = subst (λ (n : ℕ). n ≤ length output) (sym c.sent.ensures.count) (min-le_right c.args.most (length output)) in
    went g.K.Records.shows c.args.self.now (record { hub = c.sent.new.self; desk = c.args.self.now.desk; links = c.args.self.now.links }) refl refl
    c.args.at c.sent.result output within
    c.sent.ensures.stands c.sent.ensures.bounded c.sent.ensures.none

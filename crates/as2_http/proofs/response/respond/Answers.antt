use Rattle.std.proofs.Common.{rules, ◌≡◌}
use Rattle.as2_messages.specs.declared.framing.Method.TheVariants.{Post}
use Rattle.as2_messages.specs.declared.framing.Target.TheVariants.{Station}
use Rattle.as2_http.specs.Responses.{IsSafe}
use Rattle.as2_http.specs.declared.response.Response.TheVariants.{Answered, Failed}
use Rattle.as2_http.proofs.TakenPosts.{answered, store_failed, posts}
use Rattle.as2_http.proofs.response.respond.Goals as goal

pub returns-in-Ok-clause-responds : goal.returns-in-Ok-clause-responds
returns-in-Ok-clause-responds g c clean s rests =
    let is_post : c.args.request.method ≡ Post = search rules in
    let is_station : c.args.request.target ≡ Station = search rules in
    let got = answered c.args.agreements.now c.args.moment c.args.request (g.K.Records.shows c.args.station.now)
    (g.K.Records.shows c.post.new.self) c.in-Ok.answer c.in-Ok.ensures.taken clean s rests in (
      got.0,
      got.1,
      posts c.args.agreements.now c.args.moment s c.args.request (Answered c.in-Ok.answer)
          (IsSafe (g.K.Records.shows c.post.new.self)) got.0 is_post is_station got.2,
    )

pub returns-clause-responds : goal.returns-clause-responds
returns-clause-responds g c clean s rests =
    let is_post : c.args.request.method ≡ Post = search rules in
    let is_station : c.args.request.target ≡ Station = search rules in
    let got = store_failed c.args.agreements.now c.args.moment c.args.request (g.K.Records.shows c.args.station.now)
    (g.K.Records.shows c.post.new.self) c.args.station.now c.post.new.self c.in-Err.fault c.in-Err.ensures.taken c.in-Err.ensures.of_head clean s rests in (
      got.0,
      got.1,
      posts c.args.agreements.now c.args.moment s c.args.request (Failed c.in-Err.fault)
          (IsSafe (g.K.Records.shows c.post.new.self)) got.0 is_post is_station got.2,
    )

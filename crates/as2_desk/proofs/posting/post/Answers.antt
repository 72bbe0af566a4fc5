use Rattle.std.proofs.Common.{refl, subst}
use Rattle.as2_desk.proofs.HandedBack.{each_known}
use Rattle.as2_desk.specs.Endings.{Ends}
use Rattle.as2_desk.specs.Posting.{if_noted}
use Rattle.as2_desk.specs.Refusals.{end_line}
use Rattle.as2_desk.specs.Statuses.{exit_status}
use Rattle.as2_desk.specs.Written.{written_of}
use Rattle.as2_desk.proofs.posting.post.Goals as goal

pub returns-clause-posts : goal.returns-clause-posts
returns-clause-posts g c = λ known stood. (
  record {
    noted = if_noted c.args.logs (g.H.Journal.noted c.args.console.now.hints);
    new = if_noted c.args.logs (g.H.Journal.noted c.serve_input-end.new.console.hints);
    end = c.serve_input-end.result.0;
    cause = c.serve_input-end.ensures.cause;
    posts = each_known _ _ known stood (λ s it. c.serve_input-end.ensures.posts it.0 s it.1);
    serves = each_known _ _ known stood (λ s it. c.serve_input-end.ensures.serves it.0 s it.1);
    told = subst (λ (e : g.row.E.Denot). Ends (exit_status c.serve_input-end.result.0) (end_line c.serve_input-end.result.0)
        (written_of g.E.Sink e c.tell_end.new.errors) c.tell_end.result) c.serve_input-end.ensures.errors c.tell_end.ensures;
  },
  refl,
  (c.serve_input-end.new.console.hints, c.serve_input-end.result.1, refl, c.serve_input-end.ensures.silent, c.is_busy_told.ensures.none),
)

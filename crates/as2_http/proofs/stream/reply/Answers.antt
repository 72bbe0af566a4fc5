use Rattle.std.proofs.Common.{◌++◌, Bool, false, subst}
use Rattle.std.proofs.KnownBytes.{Appends-trans}
use Rattle.std.specs.Io.KnownBytes.{Appends}
use Rattle.as2_exchange.specs.declared.answer.HttpAnswer.{HttpAnswer}
use Rattle.as2_http.specs.Notes.{note_closing, head_told, note_opening}
use Rattle.as2_http.specs.Responses.{IsSafe, http_answer}
use Rattle.as2_http.specs.Sending.{WritesReply}
use Rattle.as2_http.proofs.Unsaid.{responds_unsaid}
use Rattle.as2_http.proofs.stream.reply.Goals as goal

pub returns-clause-replied : goal.returns-clause-replied
returns-clause-replied g c = λ clean s rests.
    let left = c.respond-response.ensures.responds clean s rests in
    let sends = λ (to_head : Bool) (a : HttpAnswer).
    WritesReply c.args.moment (record { closes = false; to_head = to_head }) a (g.W.Sink.written c.args.sink.now)
    (g.W.Sink.written c.send.new.sink) c.send.result in
    record {
      response = c.respond-response.result;
      left = left.0;
      rests = left.1;
      responds = responds_unsaid c.args.agreements.now c.args.moment s c.args.request c.respond-response.result
          (IsSafe (g.K.Records.shows c.respond-response.new.station)) left.0 left.2;
      sends = subst (λ h. sends h (http_answer c.respond-response.result)) c.is_head.ensures
          (subst (sends c.is_head.result) c.answer-answer.ensures c.send.ensures.sends);
      noted = Appends-trans (g.J.Journal.noted c.args.journal.now) (g.J.Journal.noted c.note_request.new.journal) (g.J.Journal.noted c.note_status.new.journal)
          (note_opening c.args.moment ++ head_told c.args.request.fields) (note_closing (http_answer c.respond-response.result).status) c.note_request.ensures
          (subst (λ (a : HttpAnswer). Appends (g.J.Journal.noted c.note_request.new.journal) (g.J.Journal.noted c.note_status.new.journal)
          (note_closing a.status)) c.answer-answer.ensures c.note_status.ensures);
    }

use Rattle.std.proofs.Common.{◌≡◌, ◌≤◌, ◌+◌, ◌∙◌, ℕ, ap, arith, sym, subst}
use Rattle.as2_http.specs.Notes.{sink_and_journal}
use Rattle.as2_http.specs.StreamReads.{Serves}
use Rattle.as2_http.specs.declared.stream.Served.TheVariants.{TooLong}
use Rattle.as2_connections.proofs.network.serve_counted.Goals as goal

pub returns-clause-serves : goal.returns-clause-serves
returns-clause-serves g c = λ clean s rests input is.
    let served = c.serve_stream-end.ensures.serves clean s rests input (rw c.new-source.ensures.inner is) in
    let unread = g.R.Read.remaining c.serve_stream-end.new.source.inner in
    let reads = c.serve_stream-end.new.source.calls in
    let none : c.new-source.result.calls ≡ 0 = c.new-source.ensures.calls in
    let most : reads ≤ 100000 = omega (arith, none, c.serve_stream-end.ensures.reads) in
    let too_long = λ (is : c.serve_stream-end.result ≡ TooLong). c.serve_stream-end.ensures.too_long is ∙ ap (λ n. n + 100000) none in (
      served.0,
      served.1,
      record {
        unread = unread;
        reads = reads;
        most = most;
        too_long = too_long;
        serves = rw (sym c.new-sink.ensures.inner, c.into_inner.ensures)
            (subst (λ (n : ℕ). Serves c.args.agreements.now c.args.moment s served.0 input unread
            (sink_and_journal (g.W.Write.contents c.new-sink.result.inner) (g.J.Journal.noted c.args.journal.now))
            (sink_and_journal (g.W.Write.contents c.serve_stream-end.new.sink.inner)
            (g.J.Journal.noted c.serve_stream-end.new.journal)) n reads c.serve_stream-end.result)
            c.new-source.ensures.calls served.2);
      },
    )

use Rattle.std.proofs.Common.{◌≡◌, ◌≤◌, ℕ, Some, arith, subst}
use Rattle.as2_http.specs.InputReads.{ReadsNeeded}
use Rattle.as2_messages.specs.Answering.{IsOpenAnswer}
use Rattle.as2_connections.proofs.links.exchange_counted.Goals as goal

pub returns-clause-answer : goal.returns-clause-answer
returns-clause-answer g c = λ input is.
    let left : g.R.Read.remaining c.new-source.result.inner ≡ Some input = rw c.new-source.ensures.inner is in
    let reads = c.exchange-got.new.source.calls in
    let none : c.new-source.result.calls ≡ 0 = c.new-source.ensures.calls in
    let unread = g.R.Read.remaining c.exchange-got.new.source.inner in
    let most : reads ≤ 100000 = omega (arith, none, c.exchange-got.ensures.reads) in
    record {
      gets = c.exchange-got.ensures.answer input left;
      unread = unread;
      reads = reads;
      most = most;
      needed = subst (λ (n : ℕ). ReadsNeeded IsOpenAnswer input unread n reads) none (c.exchange-got.ensures.needed input left);
    }

use Rattle.std.proofs.Common.{rules, ℕ, List, [], Option, sym, ap}
use Rattle.std.specs.Prelude.{unwrap_or}
use Rattle.http.specs.StatusCode.{IsStatusCode}
use Rattle.as2_messages.proofs.Phrases.{no_phrase}
use Rattle.as2_messages.proofs.reply.phrase.Goals as goal

pub returns-in-Err : goal.returns-in-Err
returns-in-Err c =
    let other : IsStatusCode c.args.status → ⊥ = search rules in
    sym (ap (λ (r : Option (List ℕ)). unwrap_or r []) (no_phrase c.args.status other))

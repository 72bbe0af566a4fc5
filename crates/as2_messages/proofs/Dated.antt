-- A moment has one date, and so an answer one reply.
use Rattle.std.proofs.Common.{◌≡◌, ℕ, List, sym, ap, ◌∙◌}
use Rattle.httpdate.specs.Text.{imf_fixdate}
use Rattle.httpdate.proofs.Theorems.{unix_secs_injective}
use Rattle.as2_messages.specs.Laws.{RepliesInOneWay}
use Rattle.as2_messages.specs.Replies.{IsDateOf, reply}

one_date : (moment : ℕ) (text same : List ℕ) → IsDateOf moment text → IsDateOf moment same → text ≡ same
one_date moment text same (d, s, t) (e, u, v) = t ∙ ap imf_fixdate (unix_secs_injective d e (s ∙ sym u)) ∙ sym v

pub replies_in_one_way : RepliesInOneWay
replies_in_one_way moment form a text same (d, is, t) (e, was, v) = t ∙ ap (λ (x : List ℕ). reply x form a) (one_date moment d e is was) ∙ sym v

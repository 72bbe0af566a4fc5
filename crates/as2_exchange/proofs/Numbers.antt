-- Which events have no answer.
use Rattle.std.proofs.Common.{◌≡◌, ◌≤◌, ℕ, Bool, true, false, not, Option, Some, None, refl, arith}
use Rattle.std.specs.Prelude.{is_some, if◌then◌else◌, nat_le, nat_lt, length}
use Rattle.std.proofs.lemmas.Bool.Decides.{nat_tests}
use Rattle.as2_exchange.specs.Agreement.{Text, Agreements, is_organization, partner_of}
use Rattle.as2_exchange.specs.State.{Posted, InEntry, State, known_digests, origin_of, end_of_numbers, content_limit, received_as}
use Rattle.as2_exchange.specs.Events.{Event, Post, Submit, Begin, Outcome, Resend, BeginReceipt, OutcomeReceipt, Tick, Answer}
use Rattle.as2_exchange.specs.Posts.{PostReading, Refuses, IsReceipt, IsDocument, post_reading, repeats}
use Rattle.as2_exchange.specs.Documents.{submit}
use Rattle.as2_exchange.specs.Recording.{record_given, record_post}
use Rattle.as2_exchange.specs.Step.{post, step}
use Rattle.as2_exchange.specs.Run.{IsOutOfNumbers}

used_up : (n : ℕ) → nat_le end_of_numbers n ≡ true → end_of_numbers ≤ n
used_up n h = grind (arith, nat_tests)

none_recorded : (A : Agreements) (s : State) (m : ℕ) (p : Posted) (o : Option InEntry) → record_given A s m p o ≡ None → end_of_numbers ≤ s.next_in
none_recorded A s m p (Some e) h = by (repeats (origin_of s.version) e.number e.posted p) _ _ h
  where
    by : (b : Bool) (x y : Answer × State) → (if b then Some x else Some y) ≡ None → end_of_numbers ≤ s.next_in
    by true x y g = absurd (cc)
    by false x y g = absurd (cc)
none_recorded A s m p None h = by (nat_le end_of_numbers s.next_in) _ refl h
  where
    by : (b : Bool) (x : Answer × State) → nat_le end_of_numbers s.next_in ≡ b → (if b then None else Some x) ≡ None → end_of_numbers ≤ s.next_in
    by true x is g = used_up s.next_in is
    by false x is g = absurd (cc)

none_posted : (A : Agreements) (s : State) (m : ℕ) (r : PostReading) → post A s m r ≡ None → end_of_numbers ≤ s.next_in
unfolding record_post
none_posted A s m (Refuses line) h = absurd (cc)
none_posted A s m (IsReceipt r) h = absurd (cc)
none_posted A s m (IsDocument p) h = none_recorded A s m p (received_as s p) h

none_submitted : (A : Agreements) (s : State) (organization partner content : Text) (m : ℕ) → submit A s organization partner content m ≡ None
    → end_of_numbers ≤ s.next_out
unfolding submit
none_submitted A s organization partner content m h =
    by (not (is_organization A organization)) (not (is_some (partner_of A partner))) (nat_lt content_limit (length content)) (nat_le end_of_numbers s.next_out)
    _ _ _ _ refl h
  where
    by : (b1 b2 b3 b4 : Bool) (y1 y2 y3 y4 : Answer × State) → nat_le end_of_numbers s.next_out ≡ b4
        → (if b1 then Some y1 else if b2 then Some y2 else if b3 then Some y3 else if b4 then None else Some y4) ≡ None → end_of_numbers ≤ s.next_out
    by true b2 b3 b4 y1 y2 y3 y4 is g = absurd (cc)
    by false true b3 b4 y1 y2 y3 y4 is g = absurd (cc)
    by false false true b4 y1 y2 y3 y4 is g = absurd (cc)
    by false false false true y1 y2 y3 y4 is g = used_up s.next_out is
    by false false false false y1 y2 y3 y4 is g = absurd (cc)

pub numbers_law : (A : Agreements) (s : State) (e : Event) → step A s e ≡ None → IsOutOfNumbers s e
numbers_law A s (Post head body m) h = none_posted A s m (post_reading A (known_digests s.version) head body) h
numbers_law A s (Submit organization partner content m) h = none_submitted A s organization partner content m h
numbers_law A s (Begin n m) h = absurd (cc)
numbers_law A s (Outcome n got m) h = absurd (cc)
numbers_law A s (Resend n m) h = absurd (cc)
numbers_law A s (BeginReceipt n m) h = absurd (cc)
numbers_law A s (OutcomeReceipt n got m) h = absurd (cc)
numbers_law A s (Tick m) h = absurd (cc)

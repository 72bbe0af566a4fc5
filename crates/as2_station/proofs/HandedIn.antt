-- A document is taken in under the next number, or refused.
use Rattle.std.proofs.Common.{◌≡◌, ◌∙◌, ℕ, ◌+◌, ◌≤◌, ◌==◌, Bool, true, false, not, Option, Some, None, cond, nat_le, nat_lt, length, is_some, refl, sym, ap, subst, arith}
use Rattle.std.specs.Prelude.{if◌then◌else◌}
use Rattle.std.proofs.lemmas.Bool.Decides.{nat_tests}
use Rattle.as2_exchange.specs.Agreement.{Agreements, Text, is_organization, partner_of}
use Rattle.as2_exchange.specs.Documents.{new_document, submit}
use Rattle.as2_exchange.specs.Invariants.{IsCounter}
use Rattle.as2_exchange.specs.State.{State, content_limit, end_of_numbers}
use Rattle.as2_exchange.specs.declared.answer.Answer.{Answer}
use Rattle.as2_exchange.specs.declared.answer.Answer.TheVariants.{Refused, Submitted}
use Rattle.as2_exchange.specs.declared.answer.Refusal.{Refusal}
use Rattle.as2_exchange.specs.declared.answer.Refusal.TheVariants.{UnknownOrganization, UnknownPartner, TooLarge}
use Rattle.as2_records.specs.Adding.{added_document, with_document}
use Rattle.as2_station.specs.Heads.{submit_refusal}

-- what is refused, and what isn't, by three tests
refused_by : (a b large : Bool) (s : State) (rest : Option (Answer × State)) (reason : Refusal)
    → (if not a then Some UnknownOrganization else if not b then Some UnknownPartner else if large then Some TooLarge else None) ≡ Some reason
    → (if not a then Some (Refused UnknownOrganization, s) else if not b then Some (Refused UnknownPartner, s) else if large then Some
    (Refused TooLarge, s) else rest) ≡ Some (Refused reason, s)
refused_by true true true s rest reason is = let same : TooLarge ≡ reason = cc in ap (λ r. Some (Refused r, s)) same
refused_by true true false s rest reason is = absurd cc
refused_by true false large s rest reason is = let same : UnknownPartner ≡ reason = cc in ap (λ r. Some (Refused r, s)) same
refused_by false b large s rest reason is = let same : UnknownOrganization ≡ reason = cc in ap (λ r. Some (Refused r, s)) same

taken_by : (a b large : Bool) (s : State) (rest : Option (Answer × State))
    → (if not a then Some UnknownOrganization else if not b then Some UnknownPartner else if large then Some TooLarge else None) ≡ None
    → (if not a then Some (Refused UnknownOrganization, s) else if not b then Some (Refused UnknownPartner, s) else if large then Some
    (Refused TooLarge, s) else rest) ≡ rest
taken_by true true true s rest is = absurd cc
taken_by true true false s rest is = refl
taken_by true false large s rest is = absurd cc
taken_by false b large s rest is = absurd cc

pub refuses : (A : Agreements) (s : State) (organization partner content : Text) (m : ℕ) (reason : Refusal)
    → submit_refusal A organization partner content ≡ Some reason → submit A s organization partner content m ≡ Some (Refused reason, s)
unfolding submit
refuses A s organization partner content m reason is =
    refused_by (is_organization A organization) (is_some (partner_of A partner)) (nat_lt content_limit (length content)) s _ reason is

itself : (k : ℕ) → (k == k) ≡ true
itself k = grind (arith, nat_tests)

-- under the next number
pub submits : (A : Agreements) (s t : State) (organization partner content : Text) (m n : ℕ) → submit_refusal A organization partner content ≡ None
    → n ≡ s.next_out → added_document (new_document A n organization partner content m) s ≡ Some t → IsCounter t.next_out
    → submit A s organization partner content m ≡ Some (Submitted n, t)
unfolding submit
submits A s t organization partner content m n fine next is counter =
    let document = λ (k : ℕ). new_document A k organization partner content m in
    let sum : Some (with_document s (document s.next_out)) ≡ Some t =
    ap (λ b. cond b (Some (with_document s (document s.next_out))) None) (sym (itself s.next_out))
    ∙ (subst (λ k. added_document (document k) s ≡ Some t) next is) in
    let there : with_document s (document s.next_out) ≡ t = cc in
    let room : s.next_out + 1 ≤ end_of_numbers = subst (λ (x : State). x.next_out ≤ end_of_numbers) (sym there) counter.most in
    taken_by (is_organization A organization) (is_some (partner_of A partner)) (nat_lt content_limit (length content)) s _ fine
    ∙ ap (λ b. cond b None (Some (Submitted s.next_out, with_document s (document s.next_out)))) (left_over s.next_out room)
    ∙ ap (λ (x : State). Some (Submitted s.next_out, x)) there
    ∙ ap (λ k. Some (Submitted k, t)) (sym next)
  where
    left_over : (k : ℕ) → k + 1 ≤ end_of_numbers → nat_le end_of_numbers k ≡ false
    left_over k less = grind (arith, nat_tests, less)

-- or no number is left for it
pub none_left : (A : Agreements) (s : State) (organization partner content : Text) (m n : ℕ) → submit_refusal A organization partner content ≡ None
    → n ≡ s.next_out → end_of_numbers ≤ n → submit A s organization partner content m ≡ None
unfolding submit
none_left A s organization partner content m n fine next full =
    taken_by (is_organization A organization) (is_some (partner_of A partner)) (nat_lt content_limit (length content)) s _ fine
    ∙ ap (λ b. cond b None (Some (Submitted s.next_out, with_document s (new_document A s.next_out organization partner content m))))
    (used s.next_out (subst (λ k. end_of_numbers ≤ k) next full))
  where
    used : (k : ℕ) → end_of_numbers ≤ k → nat_le end_of_numbers k ≡ true
    used k less = grind (arith, nat_tests, less)

-- What a Submit leaves: the state as it was, or one document more.
use Rattle.std.proofs.Common.{◌≡◌, ℕ, ◌+◌, ◌<◌, Bool, true, false, not, [], ◌∷◌, ◌++◌, Option, Some, None, refl, subst, arith}
use Rattle.std.specs.Prelude.{is_some, if◌then◌else◌, nat_le, nat_lt, length}
use Rattle.std.proofs.lemmas.Bool.Decides.{nat_tests}
use Rattle.std.proofs.lemmas.Option.{same_Some}
use Rattle.as2_exchange.specs.Agreement.{Text, Agreements, is_organization, partner_of}
use Rattle.as2_exchange.specs.State.{State, end_of_numbers}
use Rattle.as2_exchange.specs.Events.{Answer, Refused, Refusal, Submitted, UnknownOrganization, UnknownPartner, TooLarge}
use Rattle.as2_exchange.specs.Documents.{submit, new_document}

-- the next number may be given
pub number_is_left : (n : ℕ) → nat_le end_of_numbers n ≡ false → n < end_of_numbers
number_is_left n h = grind (arith, nat_tests)

-- the answer and the state where the document is taken in
abbrev pub document_taken : Agreements → State → Text → Text → Text → ℕ → Answer × State
document_taken A s organization partner content m =
    (Submitted s.next_out, record s { outbox = s.outbox ++ new_document A s.next_out organization partner content m ∷ []; next_out = s.next_out + 1 })

-- the machine's tests, in their order
abbrev submitted_by : Bool → Bool → Bool → Bool → State → Answer × State → Option (Answer × State)
submitted_by ours theirs large full s taken =
    if not ours then Some (Refused UnknownOrganization, s)
    else if not theirs then Some (Refused UnknownPartner, s)
    else if large then Some (Refused TooLarge, s)
    else if full then None
    else Some taken

-- what holds of a Submit that is refused, and of one that is taken in, holds of what it leaves
pub submit_either : (P : Answer × State → Type 0) (A : Agreements) (s : State) (organization partner content : Text) (m : ℕ) (y : Answer × State)
    → ((r : Refusal) → P (Refused r, s))
    → (is_organization A organization ≡ true → is_some (partner_of A partner) ≡ true → s.next_out < end_of_numbers
    → P (document_taken A s organization partner content m))
    → submit A s organization partner content m ≡ Some y → P y
unfolding submit
submit_either P A s organization partner content m y refused taken h =
    by (is_organization A organization) (is_some (partner_of A partner)) (nat_lt 1048576 (length content)) (nat_le end_of_numbers s.next_out) refl refl refl h
  where
    by : (ours theirs large full : Bool) → is_organization A organization ≡ ours → is_some (partner_of A partner) ≡ theirs
        → nat_le end_of_numbers s.next_out ≡ full
        → submitted_by ours theirs large full s (document_taken A s organization partner content m) ≡ Some y → P y
    by false theirs large full f g k is = subst P (same_Some _ y is) (refused UnknownOrganization)
    by true false large full f g k is = subst P (same_Some _ y is) (refused UnknownPartner)
    by true true true full f g k is = subst P (same_Some _ y is) (refused TooLarge)
    by true true false true f g k is = absurd (cc)
    by true true false false f g k is = subst P (same_Some _ y is) (taken f g (number_is_left s.next_out k))

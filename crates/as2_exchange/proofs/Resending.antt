-- Which documents are sent anew.
use Rattle.std.proofs.Common.{◌≡◌, ℕ, Bool, true, false, not, Option, Some, None, refl, ap}
use Rattle.std.specs.Prelude.{if◌then◌else◌}
use Rattle.std.specs.Option.{option_map_or}
use Rattle.std.proofs.lemmas.Option.{same_Some}
use Rattle.as2_mdn.specs.Details.{class_of}
use Rattle.as2_mdn.specs.declared.detail.DetailClass.{DetailClass}
use Rattle.as2_mdn.specs.declared.detail.DetailClass.TheVariants.{P, R, S, W, E}
use Rattle.as2_exchange.specs.Agreement.{Agreements, Partner, is_organization, partner_of}
use Rattle.as2_exchange.specs.Detail.{New, Idle}
use Rattle.as2_exchange.specs.State.{State, OutEntry, document, is_settled}
use Rattle.as2_exchange.specs.Events.{Answer, Resend, Resent, Refused, NoSuchNumber, UnknownOrganization, UnknownPartner, AllSettled, NotDue}
use Rattle.as2_exchange.specs.Documents.{resent_document, is_error}
use Rattle.as2_exchange.specs.Step.{act_on, step}

-- no receipt has settled it, and its state is E
abbrev HasFailed : OutEntry → Type 0
HasFailed d = (is_settled d ≡ false) × (class_of d.detail ≡ E)

in_error : (x : DetailClass) → not (is_error x) ≡ false → x ≡ E
in_error E h = refl
in_error P h = absurd (cc)
in_error R h = absurd (cc)
in_error S h = absurd (cc)
in_error W h = absurd (cc)

-- the tests of a Resend, one after the other
abbrev resent_if : ℕ → OutEntry → Bool → Bool → Answer × OutEntry
resent_if m d settled early =
    if settled then (Refused AllSettled, d)
    else if early then (Refused NotDue, d)
    else (Resent, record d { tries = 0; attempt = Idle; due = Some m; detail = New })

resent_by : (m : ℕ) (d : OutEntry) (b c : Bool) → is_settled d ≡ b → not (is_error (class_of d.detail)) ≡ c → (resent_if m d b c).0 ≡ Resent → HasFailed d
resent_by m d true c hb hc h = absurd (cc)
resent_by m d false true hb hc h = absurd (cc)
resent_by m d false false hb hc h = (hb, in_error (class_of d.detail) hc)

resent_failed : (A : Agreements) (m : ℕ) (d : OutEntry) → (resent_document A m d).0 ≡ Resent → HasFailed d
unfolding resent_document
resent_failed A m d = by (is_organization A d.organization) (partner_of A d.partner)
  where
    given : Bool → Option Partner → Answer × OutEntry
    given b o =
        if not b then (Refused UnknownOrganization, d)
        else option_map_or (λ (p : Partner). resent_if m d (is_settled d) (not (is_error (class_of d.detail)))) o (Refused UnknownPartner, d)

    by : (b : Bool) (o : Option Partner) → (given b o).0 ≡ Resent → HasFailed d
    by false o h = absurd (cc)
    by true None h = absurd (cc)
    by true (Some p) h = resent_by m d (is_settled d) (not (is_error (class_of d.detail))) refl refl h

pub failed_resent : (A : Agreements) (s t : State) (n m : ℕ) → step A s (Resend n m) ≡ Some (Resent, t) → (d : OutEntry) × (document s n ≡ Some d)
    × (is_settled d ≡ false) × (class_of d.detail ≡ E)
failed_resent A s t n m h = by (document s n) refl (same_Some _ (Resent, t) h)
  where
    by : (o : Option OutEntry) → document s n ≡ o → act_on s n (resent_document A m) o ≡ (Resent, t) → (d : OutEntry) × (document s n ≡ Some d)
        × (is_settled d ≡ false) × (class_of d.detail ≡ E)
    by None at g = absurd (let first : Refused NoSuchNumber ≡ Resent = ap (λ (y : Answer × State). y.0) g in cc)
    by (Some d) at g = let is = resent_failed A m d (ap (λ (y : Answer × State). y.0) g) in (d, at, is.0, is.1)

-- What a resend makes of a document that is found, or why it makes nothing of it.
use Rattle.std.proofs.Common.{◌≡◌, ◌∙◌, ℕ, not, Bool, true, false, Option, option_map, Some, None, is_some, refl, sym, ap}
use Rattle.std.specs.Prelude.{if◌then◌else◌}
use Rattle.std.specs.Option.{option_map_or}
use Rattle.as2_mdn.specs.Details.{class_of}
use Rattle.as2_exchange.specs.Agreement.{Agreements, Partner, is_organization, partner_of}
use Rattle.as2_exchange.specs.Documents.{is_error, resent_document}
use Rattle.as2_exchange.specs.State.{State, document, change_document, is_settled}
use Rattle.as2_exchange.specs.Step.{on_document}
use Rattle.as2_exchange.specs.declared.answer.Answer.{Answer}
use Rattle.as2_exchange.specs.declared.answer.Answer.TheVariants.{Refused, Resent}
use Rattle.as2_exchange.specs.declared.answer.Refusal.{Refusal}
use Rattle.as2_exchange.specs.declared.answer.Refusal.TheVariants.{AllSettled, NotDue, UnknownOrganization, UnknownPartner}
use Rattle.as2_exchange.specs.declared.outbox.OutEntry.{OutEntry}
use Rattle.as2_records.specs.Resending.{queued_anew, resent_in}
use Rattle.as2_records.specs.Standing.{IsCounted}
use Rattle.as2_station.specs.Resending.{resend_refusal}
use Rattle.as2_station.proofs.Acting.{changes}

-- ---- the tests

-- why it is refused, by what is asked of the agreements and of the document
abbrev why_not : Bool → Option Partner → Bool → Bool → Option Refusal
why_not ours partner settled failed =
    if not ours then Some UnknownOrganization
    else if not (is_some partner) then Some UnknownPartner
    else if settled then Some AllSettled
    else if not failed then Some NotDue
    else None

-- what the machine does by the same
abbrev acted_by : OutEntry → Answer × OutEntry → Bool → Option Partner → Bool → Bool → Answer × OutEntry
acted_by d made ours partner settled failed =
    if not ours then (Refused UnknownOrganization, d)
    else option_map_or (λ (p : Partner). if settled then (Refused AllSettled, d) else if not failed then (Refused NotDue, d) else made) partner
    (Refused UnknownPartner, d)

refused_by : (d : OutEntry) (made : Answer × OutEntry) (ours : Bool) (partner : Option Partner) (settled failed : Bool) (reason : Refusal)
    → why_not ours partner settled failed ≡ Some reason → acted_by d made ours partner settled failed ≡ (Refused reason, d)
refused_by d made false partner settled failed reason is = let same : UnknownOrganization ≡ reason = cc in ap (λ r. (Refused r, d)) same
refused_by d made true None settled failed reason is = let same : UnknownPartner ≡ reason = cc in ap (λ r. (Refused r, d)) same
refused_by d made true (Some p) true failed reason is = let same : AllSettled ≡ reason = cc in ap (λ r. (Refused r, d)) same
refused_by d made true (Some p) false false reason is = let same : NotDue ≡ reason = cc in ap (λ r. (Refused r, d)) same
refused_by d made true (Some p) false true reason is = absurd cc

made_by : (d : OutEntry) (made : Answer × OutEntry) (ours : Bool) (partner : Option Partner) (settled failed : Bool)
    → why_not ours partner settled failed ≡ None → acted_by d made ours partner settled failed ≡ made
made_by d made false partner settled failed is = absurd cc
made_by d made true None settled failed is = absurd cc
made_by d made true (Some p) true failed is = absurd cc
made_by d made true (Some p) false false is = absurd cc
made_by d made true (Some p) false true is = refl

-- ---- a resend

module _ (A : Agreements) (m : ℕ) (d : OutEntry) where
  pub not_resent : (reason : Refusal) → resend_refusal A d ≡ Some reason → resent_document A m d ≡ (Refused reason, d)
  unfolding resent_document
  not_resent reason is = refused_by d (Resent, queued_anew m d) (is_organization A d.organization) (partner_of A d.partner) (is_settled d)
      (is_error (class_of d.detail)) reason is

  pub is_resent : resend_refusal A d ≡ None → resent_document A m d ≡ (Resent, queued_anew m d)
  unfolding resent_document
  is_resent is = made_by d (Resent, queued_anew m d) (is_organization A d.organization) (partner_of A d.partner) (is_settled d)
      (is_error (class_of d.detail)) is

-- what is written is what the machine leaves
pub resends : (A : Agreements) (m : ℕ) (s t : State) (d : OutEntry) → IsCounted s → document s d.number ≡ Some d → resend_refusal A d ≡ None
    → resent_in d.number m s ≡ Some t → Some (on_document s d.number (resent_document A m)) ≡ Some (Resent, t)
resends A m s t d stands found fine is =
    let left : Some (change_document s d.number (queued_anew m)) ≡ Some t =
    ap (option_map (λ _. change_document s d.number (queued_anew m))) (sym found) ∙ is in
    let there : change_document s d.number (queued_anew m) ≡ t = cc in
    ap Some (changes s d stands found (resent_document A m) Resent (queued_anew m) (is_resent A m d fine) ∙ ap (λ (x : State). (Resent, x)) there)

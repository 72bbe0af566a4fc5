-- Why a document isn't sent anew.
use Rattle.std.specs.Prelude.{not, Option, Some, None, is_some, if◌then◌else◌}
use Rattle.as2_mdn.specs.Details.{class_of}
use Rattle.as2_exchange.specs.Agreement.{Agreements, is_organization, partner_of}
use Rattle.as2_exchange.specs.Documents.{is_error}
use Rattle.as2_exchange.specs.State.{is_settled}
use Rattle.as2_exchange.specs.declared.answer.Refusal.{Refusal}
use Rattle.as2_exchange.specs.declared.answer.Refusal.TheVariants.{AllSettled, NotDue, UnknownOrganization, UnknownPartner}
use Rattle.as2_exchange.specs.declared.outbox.OutEntry.{OutEntry}

-- the agreements lack its sender or its receiver; a receipt has settled it; or it hasn't failed
abbrev pub resend_refusal : Agreements → OutEntry → Option Refusal
resend_refusal A d =
    if not (is_organization A d.organization) then Some UnknownOrganization
    else if not (is_some (partner_of A d.partner)) then Some UnknownPartner
    else if is_settled d then Some AllSettled
    else if not (is_error (class_of d.detail)) then Some NotDue
    else None

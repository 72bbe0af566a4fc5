-- Why no try of a document may begin, and what one makes of it.
use Rattle.std.specs.Prelude.{ℕ, ◌+◌, ◌||◌, not, Option, Some, None, Result, Ok, Err, nat_le, if◌then◌else◌}
use Rattle.as2_exchange.specs.Agreement.{Agreements, Partner, Text, is_organization, partner_of}
use Rattle.as2_exchange.specs.Documents.{waits}
use Rattle.as2_exchange.specs.State.{is_settled}
use Rattle.as2_exchange.specs.declared.outbox.OutEntry.{OutEntry}
use Rattle.as2_exchange.specs.Tries.{is_early}
use Rattle.as2_exchange.specs.declared.answer.Refusal.{Refusal}
use Rattle.as2_exchange.specs.declared.answer.Refusal.TheVariants.{AllSettled, NotDue, TriesUsed, UnknownOrganization, UnknownPartner}
use Rattle.as2_exchange.specs.declared.attempt.Attempt.TheVariants.{Last, Running}
use Rattle.as2_mdn.specs.declared.detail.Detail.TheVariants.{Sending}
use Rattle.as2_records.specs.declared.progress.Progress.{Progress}

-- the partner, where there is one
abbrev pub known_partner : Option Partner → Result Partner Refusal
known_partner (Some p) = Ok p
known_partner None = Err UnknownPartner

-- the partner of that name, where the organization is one of ours
abbrev pub agreed_partner : Agreements → Text → Text → Result Partner Refusal
agreed_partner A organization partner = if not (is_organization A organization) then Err UnknownOrganization else known_partner (partner_of A partner)

-- a receipt has settled it; its tries are used up; it waits for something else, or its moment hasn't come
abbrev pub try_refusal : Partner → OutEntry → ℕ → Option Refusal
try_refusal p d m =
    if is_settled d then Some AllSettled
    else if nat_le p.max_tries d.tries then Some TriesUsed
    else if waits d.detail || is_early m d.due then Some NotDue
    else None

-- how far it has come once a try has begun
abbrev pub progress_after_try : Partner → OutEntry → ℕ → Progress
progress_after_try p d m = record {
  tries = d.tries + 1;
  attempt = if nat_le p.max_tries (d.tries + 1) then Last else Running;
  due = Some (m + p.retry_seconds);
  detail = Sending;
}

-- What the tries of documents and of receipts share: these are the station's own rules.
use Rattle.std.specs.Prelude.{ℕ, Bool, true, false, not, Option, Some, None, nat_lt, nat_le, if◌then◌else◌}
use Rattle.std.specs.Option.{option_map_or}
use Rattle.as2_exchange.specs.Agreement.{Text, Agreements, Partner, is_organization, partner_of}
use Rattle.as2_exchange.specs.Detail.{Attempt, Idle, Last}
use Rattle.as2_exchange.specs.Events.{UnknownOrganization, UnknownPartner, Answer, Refused}

-- refuses where the agreements lack the organization or the partner
abbrev pub where_agreed : {E : Type 0} → Agreements → Text → Text → E → (Partner → Answer × E) → Answer × E
where_agreed A organization partner e act =
    if not (is_organization A organization) then (Refused UnknownOrganization, e)
    else option_map_or act (partner_of A partner) (Refused UnknownPartner, e)

-- it is due only after this moment
abbrev pub is_early : ℕ → Option ℕ → Bool
is_early m None = false
is_early m (Some due) = nat_lt m due

-- it is due at this moment
abbrev pub is_due : ℕ → Option ℕ → Bool
is_due m None = false
is_due m (Some due) = nat_le due m

-- the last try is open
abbrev pub is_last : Attempt → Bool
is_last Last = true
is_last other = false

-- no try is open
abbrev pub is_idle : Attempt → Bool
is_idle Idle = true
is_idle other = false

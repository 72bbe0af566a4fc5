-- The lines that refuse a post by its head alone, and the posts that take the records.
use Rattle.std.specs.Prelude.{Bool, true, false, not, Option, Some, None, is_some, is_none, nat_lt, length, if◌then◌else◌}
use Rattle.as2_exchange.specs.Agreement.{Agreements, Text, is_organization, partner_of}
use Rattle.as2_exchange.specs.State.{content_limit}
use Rattle.as2_exchange.specs.declared.answer.Refusal.{Refusal}
use Rattle.as2_exchange.specs.declared.answer.Refusal.TheVariants.{UnknownOrganization, UnknownPartner, TooLarge}
use Rattle.as2_exchange.specs.declared.event.Event.{Event}
use Rattle.as2_exchange.specs.declared.event.Event.TheVariants.{Post, Submit}
use Rattle.as2_exchange.specs.Posts.{post_reading, PostReading, Refuses, IsReceipt, IsDocument}
use Rattle.as2_exchange.specs.Versions.{AllDigests}
use Rattle.as2_exchange.specs.declared.answer.Line.{Line}
use Rattle.as2_exchange.specs.declared.answer.Line.TheVariants.{BadNames, BadVersion, UnknownNames, BadType}

-- it is about names, version or content type
abbrev pub is_of_head : Line → Bool
is_of_head BadNames = true
is_of_head BadVersion = true
is_of_head UnknownNames = true
is_of_head BadType = true
is_of_head other = false

-- it can be read, as a receipt or as a document: the answer is looked for in the records
abbrev pub takes_store : PostReading → Bool
takes_store (Refuses line) = false
takes_store (IsReceipt receipt) = true
takes_store (IsDocument posted) = true

-- why a document that is handed in is refused: for its sender, for its receiver, or for its size
abbrev pub submit_refusal : Agreements → Text → Text → Text → Option Refusal
submit_refusal A organization partner content =
    if not (is_organization A organization) then Some UnknownOrganization
    else if not (is_some (partner_of A partner)) then Some UnknownPartner
    else if nat_lt content_limit (length content) then Some TooLarge
    else None

-- a post that can be read, a document that isn't refused, and every other event
abbrev pub asks_store : Agreements → Event → Bool
asks_store A (Post head body moment) = takes_store (post_reading A AllDigests head body)
asks_store A (Submit organization partner content moment) = is_none (submit_refusal A organization partner content)
asks_store A other = true

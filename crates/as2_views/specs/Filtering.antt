-- The listing that is asked for.
use Rattle.as2_exchange.specs.Agreement.{Text}
use Rattle.as2_exchange.specs.State.{State}
use Rattle.as2_views.specs.Texts.{list_in, list_out}
use Rattle.as2_views.specs.declared.filter.Filter.{Filter}
use Rattle.as2_views.specs.declared.filter.Filter.TheVariants.{Inbox, Outbox}

-- of the documents that are sent, those of a state or all; or of those that were received
abbrev pub listing_text : Filter → State → Text
listing_text (Outbox wanted) s = list_out s wanted
listing_text Inbox s = list_in s

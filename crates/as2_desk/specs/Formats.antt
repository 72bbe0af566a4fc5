-- What is told of the records in a format: lines for people, or an object in each line for programs (JSON Lines).
use Rattle.std.specs.Prelude.{ℕ, List, Option, option_map}
use Rattle.as2_exchange.specs.State.{State}
use Rattle.as2_views.specs.Filtering.{listing_text}
use Rattle.as2_views.specs.Texts.{outstanding_text, show_text}
use Rattle.as2_views.specs.declared.filter.Filter.{Filter}
use Rattle.as2_audit.specs.Texts.{verification}
use Rattle.as2_json.specs.Lines.{object_line, object_lines}
use Rattle.as2_json.specs.Listings.{listing_objects, outstanding_objects, shown_object, verification_objects}
use Rattle.as2_commands.specs.declared.tasks.Format.{Format}
use Rattle.as2_commands.specs.declared.tasks.Format.TheVariants.{Text, Json}

-- the listing
abbrev pub listing_in : Format → Filter → State → List ℕ
listing_in Text filter s = listing_text filter s
listing_in Json filter s = object_lines (listing_objects filter s)

-- what is outstanding at this moment
abbrev pub outstanding_in : Format → State → ℕ → List ℕ
outstanding_in Text s m = outstanding_text s m
outstanding_in Json s m = object_lines (outstanding_objects s m)

-- the document of that number in full, if there is one
abbrev pub show_in : Format → State → ℕ → Option (List ℕ)
show_in Text s n = show_text s n
show_in Json s n = option_map object_line (shown_object s n)

-- what is found in the records, and how many entries there are
abbrev pub verification_in : Format → State → List ℕ
verification_in Text s = verification s
verification_in Json s = object_lines (verification_objects s)

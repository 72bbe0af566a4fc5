-- What is kept of links, after what happened at them.
use Rattle.std.specs.Prelude.{◌≡◌, ℕ, ◌==◌, ◌&&◌, Bool, not, true, false, drop, length, List, [], ◌∷◌, ◌++◌, Option, Some, None, slice_get, slice_set}
use Rattle.std.specs.List.{list_any}
use Rattle.as2_exchange.specs.declared.next.Next.{Next}
use Rattle.as2_exchange.specs.declared.next.Next.TheVariants.{Document, Receipt}
use Rattle.as2_messages.specs.AnswerPieces.{HasKept}
use Rattle.as2_links.specs.Happenings.{AllRight, Ends, GetsBy, LinkHappenings, LinkState, link_at}
use Rattle.as2_links.specs.declared.link.Answer.{Answer}
use Rattle.as2_links.specs.declared.link.Answer.TheVariants.{Awaited, Got}
use Rattle.as2_links.specs.declared.link.EndedLink.{EndedLink}
use Rattle.as2_links.specs.declared.link.Link.{Link}
use Rattle.as2_links.specs.declared.table.LinkTable.{LinkTable}

-- the bytes of the request that are still to be written
abbrev pub unsent_of : Link → List ℕ
unsent_of link = drop link.sent link.job.bytes

-- what is known of the answer is what these bytes tell
abbrev pub HoldsAnswer : Answer → List ℕ → Bool → Type 0
HoldsAnswer (Awaited parser) heard is_over = HasKept parser heard × (is_over ≡ false)
HoldsAnswer (Got answer) heard is_over = GetsBy is_over heard answer

-- it is known what the try got
abbrev pub is_answer_known : Answer → Bool
is_answer_known (Awaited parser) = false
is_answer_known (Got it) = true

-- the request was written whole, and it isn't known yet what the try got
abbrev pub awaits_answer : Option (Option Link) → Bool
awaits_answer None = false
awaits_answer (Some None) = false
awaits_answer (Some (Some link)) = length (unsent_of link) == 0 && not (is_answer_known link.answer)

-- .. of the link there, if there is one
abbrev pub is_answered_at : Option (Option Link) → Bool
is_answered_at None = false
is_answered_at (Some None) = false
is_answered_at (Some (Some link)) = is_answer_known link.answer

-- what is kept of a link is what went over it
pub record HoldsLink (link : Link) (s : LinkState) : Type 0 where
  pub what : link.what ≡ s.what
  pub job : link.job ≡ s.job
  pub sent : link.job.bytes ≡ s.sent ++ unsent_of link
  pub answer : HoldsAnswer link.answer s.heard s.is_over

-- the links, each at its place
abbrev pub links_of : LinkTable → List (Option Link)
links_of table = table.links.items

-- no place but that one has changed, and there are as many as before
abbrev pub ChangesOnly : ℕ → LinkTable → LinkTable → Type 0
ChangesOnly at old new = (o : Option Link) × (links_of new ≡ slice_set (links_of old) at o)

abbrev pub PlaceHolds : Option (Option Link) → Option LinkState → Type 0
PlaceHolds None o = o ≡ None
PlaceHolds (Some None) o = o ≡ None
PlaceHolds (Some (Some link)) None = ⊥
PlaceHolds (Some (Some link)) (Some s) = HoldsLink link s

-- the link at each place is what happened there, and all that happened was right
pub record LinksStand (table : LinkTable) (h : LinkHappenings) : Type 0 where
  pub each : (l : ℕ) → PlaceHolds (slice_get (links_of table) l) (link_at l h)
  pub right : AllRight h

-- the link there, if there is one
abbrev pub link_in : Option (Option Link) → Option Link
link_in None = None
link_in (Some link) = link

-- the bytes that are still to be written there
abbrev pub unsent_at : Option (Option Link) → List ℕ
unsent_at None = []
unsent_at (Some None) = []
unsent_at (Some (Some link)) = unsent_of link

-- the numbers are the same, and both are receipts or both documents
abbrev pub is_same : Next → Next → Bool
is_same (Receipt n) (Receipt k) = n == k
is_same (Document n) (Document k) = n == k
is_same a b = false

-- the link is for that
abbrev pub is_for : Next → Option Link → Bool
is_for what None = false
is_for what (Some link) = is_same link.what what

-- the link there ended, if one was there
abbrev pub ended_at : ℕ → Option EndedLink → LinkHappenings
ended_at at None = []
ended_at at (Some ended) = Ends at ended.what ended.got ∷ []

-- a link may be opened there for that: none is there, and none is open for it
pub record MayOpen (table : LinkTable) (at : ℕ) (what : Next) : Type 0 where
  pub free : slice_get (links_of table) at ≡ Some None
  pub only : list_any (is_for what) (links_of table) ≡ false

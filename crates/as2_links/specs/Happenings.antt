-- What happened at links to partners, the newest first, and what was right of it.
use Rattle.std.specs.Prelude.{◌≡◌, ◌⊎◌, ℕ, ◌==◌, Bool, true, false, List, [], ◌∷◌, ◌++◌, if◌then◌else◌, Option, Some, None, option_map, ⊤}
use Rattle.as2_exchange.specs.declared.answer.Job.{Job}
use Rattle.as2_exchange.specs.declared.event.TryAnswer.{TryAnswer}
use Rattle.as2_exchange.specs.declared.event.TryAnswer.TheVariants.{NoAnswer, Reply}
use Rattle.as2_exchange.specs.declared.next.Next.{Next}
use Rattle.as2_messages.specs.Answering.{BeginsAnswer, IsAnswerToEnd}

-- a link is called by its place, and a place is given again once its link has ended
pub data LinkHappening : Type 0 where
  -- a link is opened for a try, whose request this is
  Begins : (l : ℕ) (what : Next) (job : Job) → LinkHappening
  -- bytes are written to it, or read from it
  Sends : (l : ℕ) (piece : List ℕ) → LinkHappening
  Hears : (l : ℕ) (piece : List ℕ) → LinkHappening
  -- the partner sends no more
  Cuts : (l : ℕ) → LinkHappening
  -- it is closed, and the try got that
  Ends : (l : ℕ) (what : Next) (got : TryAnswer) → LinkHappening

abbrev pub LinkHappenings : Type 0
LinkHappenings = List LinkHappening

-- an open link: what is tried, its request, the bytes that were written and that were read, and whether the partner sends no more
pub record LinkState : Type 0 where
  pub what : Next
  pub job : Job
  pub sent : List ℕ
  pub heard : List ℕ
  pub is_over : Bool

-- a link that was just opened
abbrev pub fresh : Next → Job → LinkState
fresh what job = record { what = what; job = job; sent = []; heard = []; is_over = false }

-- the place at which it happened
abbrev pub link_place : LinkHappening → ℕ
link_place (Begins l what job) = l
link_place (Sends l piece) = l
link_place (Hears l piece) = l
link_place (Cuts l) = l
link_place (Ends l what got) = l

-- what the link there is after it
abbrev pub link_with : LinkHappening → Option LinkState → Option LinkState
link_with (Begins l what job) o = Some (fresh what job)
link_with (Sends l piece) o = option_map (λ (s : LinkState). record s { sent = s.sent ++ piece }) o
link_with (Hears l piece) o = option_map (λ (s : LinkState). record s { heard = s.heard ++ piece }) o
link_with (Cuts l) o = option_map (λ (s : LinkState). record s { is_over = true }) o
link_with (Ends l what got) o = None

-- that alone, where it happened
abbrev pub if_so : Bool → LinkHappening → LinkHappenings
if_so true x = x ∷ []
if_so false x = []

-- the link at that place after all that happened, if one is open there
abbrev pub link_at : ℕ → LinkHappenings → Option LinkState
link_at l [] = None
link_at l (x ∷ h) = if link_place x == l then link_with x (link_at l h) else link_at l h

-- there is a link, and that holds of it
abbrev pub IsOpenWith : Option LinkState → (LinkState → Type 0) → Type 0
IsOpenWith None P = ⊥
IsOpenWith (Some s) P = P s

-- there is a link for that
abbrev pub IsLinkFor : Next → Option LinkState → Type 0
IsLinkFor what o = IsOpenWith o (λ s. s.what ≡ what)

-- The try got nothing, or the answer that these bytes begin with. An answer whose body has no other end than that of the input is one only where
-- no more bytes come (RFC 9112, section 6.3).
abbrev pub GetsBy : Bool → List ℕ → TryAnswer → Type 0
GetsBy is_over heard NoAnswer = ⊤
GetsBy is_over heard (Reply status fields body) =
    ((rest : List ℕ) × BeginsAnswer heard status fields body rest) ⊎ ((is_over ≡ true) × IsAnswerToEnd heard status fields body)

-- what was written begins the request
abbrev pub IsBegun : LinkState → List ℕ → Type 0
IsBegun s sent = (missing : List ℕ) × (s.job.bytes ≡ sent ++ missing)

-- It was right that this happened. A link is opened where none is, for what no other is open for. What goes over it begins its request. Bytes are
-- read only behind the whole request. What a try got that ends is what its own link brought.
abbrev pub IsRight : LinkHappening → LinkHappenings → Type 0
IsRight (Begins l what job) h = (link_at l h ≡ None) × ((k : ℕ) → ¬ (IsLinkFor what (link_at k h)))
IsRight (Sends l piece) h = IsOpenWith (link_at l h) (λ s. IsBegun s (s.sent ++ piece))
IsRight (Hears l piece) h = IsOpenWith (link_at l h) (λ s. s.sent ≡ s.job.bytes)
IsRight (Cuts l) h = IsOpenWith (link_at l h) (λ s. s.sent ≡ s.job.bytes)
IsRight (Ends l what got) h = IsOpenWith (link_at l h) (λ s. (s.what ≡ what) × GetsBy s.is_over s.heard got)

-- all of it was
abbrev pub AllRight : LinkHappenings → Type 0
AllRight [] = ⊤
AllRight (x ∷ h) = IsRight x h × AllRight h

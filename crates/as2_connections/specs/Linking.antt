-- How long the peer of a link, or of a connection, is waited for, what an exchange over one comes to, and why it brings no answer.
use Rattle.std.specs.Prelude.{◌≡◌, ◌≤◌, ◌*◌, ◌^◌, ◌-◌, ℕ, List, min, Option, Some, None}
use Rattle.std.specs.Duration.{as_nanos, max_nanos}
use Rattle.std.specs.declared.time.Duration.{Duration}
use Rattle.std.specs.declared.io.ErrorKind.{ErrorKind}
use Rattle.std.specs.declared.io.ErrorKind.TheVariants.{WouldBlock, TimedOut}
use Rattle.as2_exchange.specs.declared.event.TryAnswer.{TryAnswer}
use Rattle.as2_http.specs.InputReads.{ReadsNeeded}
use Rattle.as2_messages.specs.Answering.{Gets, IsOpenAnswer}
use Rattle.as2_sending.specs.declared.links.LinkFault.{LinkFault}
use Rattle.as2_sending.specs.declared.links.LinkFault.TheVariants.{Silent, Slow, Broken, NoAnswer}
use Rattle.as2_sockets.specs.Waits.{nanoseconds}
use Rattle.as2_sockets.specs.declared.limits.Limits.{Limits}

-- a wait of so many seconds
abbrev pub IsWait : ℕ → Duration → Type 0
IsWait seconds wait = as_nanos wait ≡ nanoseconds seconds

-- single waits of so many seconds, and ten times that for the whole
pub record HasWaits (seconds : ℕ) (limits : Limits) : Type 0 where
  pub wait : IsWait seconds limits.wait
  pub whole : as_nanos limits.whole ≡ min (10 * nanoseconds seconds) max_nanos

-- the answer is that of the whole input, and each read was needed, 100,000 at most
pub record AnswersInput (input : List ℕ) (got : TryAnswer) : Type 0 where
  pub gets : Gets input got
  pub unread : Option (List ℕ)
  pub reads : ℕ
  pub most : reads ≤ 100000
  pub needed : ReadsNeeded IsOpenAnswer input unread 0 reads

-- why an exchange over these waits brought no answer, by the kind of the error that was told last: a single wait was over, the whole was, or the connection broke
abbrev pub link_fault : Option ErrorKind → ℕ → LinkFault
link_fault None seconds = NoAnswer
link_fault (Some WouldBlock) seconds = Silent seconds
link_fault (Some TimedOut) seconds = Slow (min (10 * seconds) (2 ^ 64 - 1))
link_fault (Some kind) seconds = Broken

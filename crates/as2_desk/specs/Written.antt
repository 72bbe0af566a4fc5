-- What is written on a writer.
use Rattle.std.specs.Prelude.{◌≡◌, ◌<◌, ◌++◌, ℕ, Bool, true, false, List, Option, Result, Ok, Err}
use Rattle.std.specs.Io.KnownBytes.{Appends}
use Rattle.as2_http.specs.Sending.{AppendsPart}
use Rattle.as2_http.specs.declared.device.Sink.{Ghosts}

-- a writer, before and behind
pub record WriterSeen : Type 1 where
  -- the bytes that it had taken and has taken, where it tells them
  pub before : Option (List ℕ)
  pub after : Option (List ℕ)
  -- nothing was done to it
  pub Untouched : Type 0
  -- a write of it failed
  pub HasFailed : Type 0
  -- none did
  pub IsSound : Type 0

-- the text was written
abbrev pub WritesExactly : WriterSeen → List ℕ → Type 0
WritesExactly w text = Appends w.before w.after text

-- .. and no write failed meanwhile
abbrev pub WritesWhole : WriterSeen → List ℕ → Type 0
WritesWhole w text = WritesExactly w text × w.IsSound

-- a write failed, and of the text a part was written
abbrev pub Breaks : WriterSeen → List ℕ → Type 0
Breaks w text = w.HasFailed × AppendsPart w.before w.after text

-- the one or the other, by what is told of it
abbrev pub WritesIf : Bool → WriterSeen → List ℕ → Type 0
WritesIf true w text = WritesWhole w text
WritesIf false w text = Breaks w text

abbrev pub WritesOrBreaks : {V F : Type 0} → Result V F → WriterSeen → List ℕ → Type 0
WritesOrBreaks (Ok v) w text = WritesWhole w text
WritesOrBreaks (Err f) w text = Breaks w text

-- some text was written, and of one behind it a part, since a write failed
pub record BreaksBehind (w : WriterSeen) (whole text : List ℕ) : Type 0 where
  pub failed : w.HasFailed
  pub part : List ℕ
  pub missing : List ℕ
  pub cut : text ≡ part ++ missing
  pub written : WritesExactly w (whole ++ part)

-- a writer that was so, and is so
abbrev pub written_of : {W : Type 0} → Ghosts W → W → W → WriterSeen
written_of g old new = record {
  before = g.written old;
  after = g.written new;
  Untouched = new ≡ old;
  HasFailed = g.failed old < g.failed new;
  IsSound = g.failed new ≡ g.failed old;
}

-- What stands under a path, and what reading it comes to.
use Rattle.std.specs.Prelude.{◌≡◌, ℕ, List, take, Result, Ok, Err, ⊤}
use Rattle.as2_host.specs.declared.files.FileFault.{FileFault}
use Rattle.as2_host.specs.declared.files.FileFault.TheVariants as fault

-- what stands under a path, as far as it is told
pub data Content : Type 0 where
  -- nothing is told of it
  untold : Content
  -- nothing that can be read
  unreadable : Content
  -- a file of these bytes
  file : List ℕ → Content

-- no more of it than so many bytes
abbrev pub front : ℕ → Content → Content
front most untold = untold
front most unreadable = unreadable
front most (file bytes) = file (take most bytes)

-- the bytes are read, or it is told why not; memory may be wanting for the bytes of a file
abbrev pub ReadsFile : {V : Type 0} → (V → List ℕ) → Content → Result V FileFault → Type 0
ReadsFile view untold result = ⊤
ReadsFile view unreadable result = result ≡ Err fault.CannotRead
ReadsFile view (file bytes) (Ok read) = view read ≡ bytes
ReadsFile view (file bytes) (Err e) = e ≡ fault.Memory

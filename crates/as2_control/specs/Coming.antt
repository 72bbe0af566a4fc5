-- What is still to come of a frame.
use Rattle.std.specs.Prelude.{◌≡◌, ℕ, ◌<◌, ◌≤◌, List, ◌++◌, length}
use Rattle.as2_control.specs.Frames.{IsFrame}
use Rattle.as2_control.specs.declared.heads.StillToCome.{StillToCome}
use Rattle.as2_control.specs.declared.heads.StillToCome.TheVariants.{Bytes, Never, Whole}

-- Behind what came so many bytes make a frame, and no fewer do; nor do more, where the head came, which is fourteen bytes long.
pub record AwaitsBytes (most : ℕ) (came : List ℕ) (count : ℕ) : Type 0 where
  pub some : 0 < count
  pub possible : (more : List ℕ) × (length more ≡ count) × IsFrame most (came ++ more)
  pub least : (more : List ℕ) → IsFrame most (came ++ more) → count ≤ length more
  pub exact : 14 ≤ length came → (more : List ℕ) → IsFrame most (came ++ more) → length more ≡ count

-- what is still to come of a frame with at most so many bytes behind its head
abbrev pub StillAwaits : ℕ → List ℕ → StillToCome → Type 0
StillAwaits most came (Bytes count) = AwaitsBytes most came count
StillAwaits most came Whole = IsFrame most came
StillAwaits most came Never = (more : List ℕ) → ¬ IsFrame most (came ++ more)

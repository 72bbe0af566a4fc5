-- The versions of a store: what each means to the machine.
use Rattle.std.specs.Prelude.{ℕ}
pub use Rattle.as2_mic.specs.Algs.{Digests, EarlyDigests, AllDigests}

-- A store of the first version knows MD5 and SHA-1 alone. A later one knows SHA-256 as well; where it was migrated, the receipts of
-- a number below its origin were recorded before that.
pub data Version : Type 0 where
  FirstVersion : Version
  LaterVersion : (origin : ℕ) → Version

-- the digests that it knows
abbrev pub known_digests : Version → Digests
known_digests FirstVersion = EarlyDigests
known_digests (LaterVersion origin) = AllDigests

-- the number below which receipts were recorded before a migration; 0 where there was none
abbrev pub origin_of : Version → ℕ
origin_of FirstVersion = 0
origin_of (LaterVersion origin) = origin

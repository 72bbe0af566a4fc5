-- What the first bytes of a file tell.
use Rattle.std.specs.Prelude.{ℕ, List, [], ◌∷◌, ◌++◌, ◌==◌, ◌&&◌, ◌||◌, Bool, true, false, not, Option, Some, None, Result, Ok, Err, codes, slice_get}
use Rattle.std.specs.List.{starts_with}
use Rattle.as2_exchange.specs.declared.fault.StoreFault.{StoreFault}
use Rattle.as2_exchange.specs.declared.fault.StoreFault.TheVariants.{NotAStore}
use Rattle.as2_files.specs.declared.fronts.Seen.{Seen}
use Rattle.as2_files.specs.declared.fronts.Seen.TheVariants.{Nothing, Database, Other}

-- it is a database (SQLite's file format, section 1.3)
abbrev pub has_mark : List ℕ → Bool
has_mark front = starts_with (λ x y. x == y) front (codes "SQLite format 3" ++ 0 ∷ [])

-- it is that byte
abbrev pub is_byte : ℕ → Option ℕ → Bool
is_byte byte None = false
is_byte byte (Some found) = found == byte

-- the bytes have that one there
abbrev pub has_byte : List ℕ → ℕ → ℕ → Bool
has_byte front at byte = is_byte byte (slice_get front at)

-- the text stands somewhere in the bytes
abbrev pub has_text : List ℕ → List ℕ → Bool
has_text text [] = false
has_text text (byte ∷ rest) = starts_with (λ x y. x == y) (byte ∷ rest) text || has_text text rest

-- the page has the length that stores have, two bytes, the higher first (section 1.3.2)
abbrev pub is_page : List ℕ → Bool
is_page front = has_byte front 16 0x10 && has_byte front 17 0x00

-- it is a first page that lists all tables by itself (the same, section 1.6), and none of them is a store's first
abbrev pub lists_no_meta : List ℕ → Bool
lists_no_meta front = is_page front && (has_byte front 100 13 && not (has_text (codes "CREATE TABLE meta") front))

-- what was seen may be a store; any other file is none, and nothing is made in its place
abbrev pub may_be_store : Seen → Result Bool StoreFault
may_be_store Database = Ok true
may_be_store Other = Err NotAStore
may_be_store Nothing = Ok false

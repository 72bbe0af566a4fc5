-- What a scan keeps of the units that it met.
use Rattle.std.specs.Prelude.{◌≡◌, ℕ, Bool, false, List, length, take, IsTrue}
use Rattle.std.specs.List.{list_all}
use Rattle.as2_names.specs.Ascii.{is_printable}
use Rattle.as2_names.specs.Names.{units, with_front}

-- Items are the first 128 of the units met, and count is how many there were. The units met, and then those that the
-- rest gives, are those that the whole text gives.
pub record Scans (text items : List ℕ) (count : ℕ) (escaping : Bool) (rest : List ℕ) : Type 0 where
  pub met : List ℕ
  pub first : items ≡ take 128 met
  pub all : count ≡ length met
  pub printable : IsTrue (list_all is_printable met)
  pub whole : with_front met (units escaping rest) ≡ units false text

-- What a command asks of a station, and the frame of it.
use Rattle.std.specs.Prelude.{◌≡◌, ℕ, ◌≤◌, List, ◌++◌, All, IsUtf8, length, map, string_bytes}
use Rattle.std.specs.List.{flat_map}
use Rattle.as2_control.specs.Frames.{IsFrameOf, framed_field}
use Rattle.as2_control.specs.declared.demand.TheConstants.{MOST_BYTES}
use Rattle.as2_control.specs.declared.words.TheConstants.{MOST_WORDS}
use Rattle.as2_control.specs.declared.demand.Demand.{Demand}

-- what a demand says
pub record DemandValue : Type 0 where
  pub agreements : List ℕ
  pub content : List ℕ
  pub words : List (List ℕ)

-- .. as the code keeps it
abbrev pub demand_value : Demand → DemandValue
demand_value d = record { agreements = d.agreements; content = d.content.items; words = map string_bytes d.words.items }

-- words, each a field
abbrev pub words_text : List (List ℕ) → List ℕ
words_text words = flat_map framed_field words

-- these are a demand's words, and that is their text
pub record AreWords (text : List ℕ) (words : List (List ℕ)) : Type 0 where
  pub whole : text ≡ words_text words
  pub few : length words ≤ MOST_WORDS
  pub spelled : All IsUtf8 words

-- the body of a demand's frame: the checksum of the agreements, the content and each word
abbrev pub demand_body : DemandValue → List ℕ
demand_body d = framed_field d.agreements ++ (framed_field d.content ++ words_text d.words)

-- a demand has no more words and no more bytes than a frame holds
pub record FitsDemand (d : DemandValue) : Type 0 where
  pub few : length d.words ≤ MOST_WORDS
  pub short : length (demand_body d) ≤ MOST_BYTES

-- the text is the frame of that demand
pub record IsDemandFrame (text : List ℕ) (d : DemandValue) : Type 0 where
  pub frame : IsFrameOf MOST_BYTES text (demand_body d)
  pub checksum : length d.agreements ≡ 32
  pub few : length d.words ≤ MOST_WORDS
  pub spelled : All IsUtf8 d.words

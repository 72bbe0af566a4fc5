-- Where the agreements have their fault, and which key of theirs isn't known: one line for whoever mends it.
use Rattle.std.specs.Prelude.{ℕ, List, [], ◌++◌, codes, decimal, Option, Some, None, option_map, string_bytes}
use Rattle.as2_agreement.specs.declared.places.Entry.{Entry}
use Rattle.as2_agreement.specs.declared.places.Place.{Place}
use Rattle.as2_agreement.specs.declared.places.Place.TheVariants.{Line, Organization, Partner}
use Rattle.as2_agreement.specs.declared.unknown.Holder.{Holder}
use Rattle.as2_agreement.specs.declared.unknown.Holder.TheVariants as holder
use Rattle.as2_agreement.specs.declared.unknown.Unknown.{Unknown}
use Rattle.as2_desk.specs.declared.agreed.Noticed.{Noticed}
use Rattle.as2_desk.specs.declared.agreed.Noticed.TheVariants as noticed
use Rattle.as2_desk.specs.Escapes.{escaped_text}

-- the name behind an entry's number, where it has one
abbrev pub name_end : Option (List ℕ) → List ℕ
name_end None = codes "\n"
name_end (Some name) = codes ", \"" ++ (escaped_text name ++ codes "\"\n")

-- `hint: KIND NUMBER`, and the name
abbrev pub entry_hint : List ℕ → Entry → List ℕ
entry_hint kind entry = (codes "hint: " ++ (kind ++ (codes " " ++ decimal entry.number))) ++ name_end (option_map string_bytes entry.name)

-- where the fault stands
abbrev pub place_hint : Place → List ℕ
place_hint (Line n) = codes "hint: line " ++ (decimal n ++ codes "\n")
place_hint (Organization entry) = entry_hint (codes "organization") entry
place_hint (Partner entry) = entry_hint (codes "partner") entry

-- what a key stands in that isn't known
abbrev pub holder_end : Holder → List ℕ
holder_end holder.Document = codes "\" isn't known\n"
holder_end (holder.Organization n) = codes "\" of organization " ++ (decimal n ++ codes " isn't known\n")
holder_end (holder.Partner n) = codes "\" of partner " ++ (decimal n ++ codes " isn't known\n")

-- which key isn't known
abbrev pub unknown_line : Unknown → List ℕ
unknown_line u = codes "warning: key \"" ++ (escaped_text (string_bytes u.key) ++ holder_end u.holder)

-- what was noticed in agreements
abbrev pub noticed_line : Noticed → List ℕ
noticed_line noticed.Nothing = []
noticed_line (noticed.Fault place) = place_hint place
noticed_line (noticed.Unknown u) = unknown_line u

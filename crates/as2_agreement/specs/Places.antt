-- Where the first fault of a text stands.
use Rattle.std.specs.Prelude.{◌≡◌, ℕ, ◌+◌, ◌≤◌, List, [], ◌∷◌, ◌++◌, length, take, count_by, ◌==◌, Option, Some, None, Result, Ok, Err, IfSome, IsOk, option_and_then, string_bytes}
use Rattle.toml.specs.Data.{Data, Items, no_items, item, Members, as_str, as_table}
use Rattle.toml.specs.Parse.{parse_document}
use Rattle.as2_names.specs.Ascii.{line_feed}
use Rattle.as2_agreement.specs.declared.key.Key.TheVariants as key
use Rattle.as2_agreement.specs.declared.partner.Organization.{Organization}
use Rattle.as2_agreement.specs.declared.places.Entry.{Entry}
use Rattle.as2_agreement.specs.declared.places.Place.{Place}
use Rattle.as2_agreement.specs.declared.places.Place.TheVariants.{Line, Organization as InOrganization, Partner as InPartner}
use Rattle.as2_agreement.specs.Agreements.{organizations_limit, partners_limit}
use Rattle.as2_agreement.specs.Reading.{OrFirstFault, domain, entries, organization, organizations, partner, return_url_in}
use Rattle.as2_agreement.specs.Values.{value_at}

-- the line of the byte there, from 1
abbrev pub line_at : List ℕ → ℕ → ℕ
line_at text at = 1 + count_by (λ b. b == line_feed) (take at text)

-- the text of an entry's name
abbrev pub name_of_entry : Data → Option (List ℕ)
name_of_entry entry = option_and_then (λ table. option_and_then as_str (value_at key.Name table)) (as_table entry)

-- here, where there is a fault; else among what follows
abbrev pub here_or_behind : {X A : Type 0} → A → OrFirstFault X → (X → Option A) → Option A
here_or_behind here (Ok x) behind = behind x
here_or_behind here (Err fault) behind = Some here

-- the first entry that can't be read, each read with those before it at hand; and its number, where the first one has that number
abbrev pub first_faulty : {X : Type 0} → (List X → Data → OrFirstFault X) → ℕ → List X → Items → Option (ℕ × Data)
first_faulty one n before no_items = None
first_faulty one n before (item d others) = here_or_behind (n, d) (one before d) (λ x. first_faulty one (n + 1) (before ++ x ∷ []) others)

-- that entry, with its name
abbrev pub IsNamedEntry : Option (ℕ × Data) → Entry → Type 0
IsNamedEntry None entry = ⊥
IsNamedEntry (Some found) entry = (entry.number ≡ found.0) × IfSome entry.name (λ name. name_of_entry found.1 ≡ Some (string_bytes name))

-- .. of the organizations, and of the partners
abbrev pub among_organizations : OrFirstFault Items → Option (ℕ × Data)
among_organizations (Ok items) = first_faulty organization 1 [] items
among_organizations (Err fault) = None

abbrev pub among_partners : OrFirstFault (List Organization) → OrFirstFault Items → Option (ℕ × Data)
among_partners (Ok os) (Ok items) = first_faulty (partner os) 1 [] items
among_partners other items = None

-- the first fault of a document is that of the entry: what is looked at before it has none
abbrev pub IsPlaceIn : Members → Place → Type 0
IsPlaceIn document (Line n) = ⊥
IsPlaceIn document (InOrganization entry) = IsOk (domain document) × IsOk (return_url_in (value_at key.ReturnUrl document))
    × IsNamedEntry (among_organizations (entries key.Organization organizations_limit document)) entry
IsPlaceIn document (InPartner entry) = IsOk (domain document) × IsOk (return_url_in (value_at key.ReturnUrl document))
    × IsNamedEntry (among_partners (organizations document) (entries key.Partner partners_limit document)) entry

-- .. of a text: it is no document, and the line is one of its lines; or the document that it is has it
abbrev pub IsPlace : List ℕ → Place → Type 0
IsPlace text (Line n) = (parse_document text ≡ None) × ((at : ℕ) × (at ≤ length text) × (n ≡ line_at text at))
IsPlace text place = (document : Members) × (parse_document text ≡ Some document) × IsPlaceIn document place

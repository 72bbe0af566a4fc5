-- What is noted of each reply: one line, `reply: MOMENT FROM TO IDENTIFIER STATUS`, with a dash for what the request's head doesn't
-- tell. The names stand as AS2 spells them (RFC 4130, section 6.2), the identifier as it came (RFC 4130, section 5.3.3).
use Rattle.std.specs.Prelude.{ℕ, List, [], ◌∷◌, ◌++◌, Option, Result, Ok, Err, if◌then◌else◌, codes, decimal}
use Rattle.std.specs.Io.KnownBytes.{Appends}
use Rattle.as2_names.specs.Blanks.{without_blanks}
use Rattle.as2_names.specs.Heads.{values}
use Rattle.as2_names.specs.Identifiers.{is_identifier}
use Rattle.as2_names.specs.Names.{name_reading, name_spelling}
use Rattle.as2_names.specs.declared.name.NameFault.{NameFault}
use Rattle.as2_exchange.specs.Lines.{refusal}
use Rattle.as2_messages.specs.Replies.{refusal_line}
use Rattle.as2_messages.specs.Requests.{Fields}
use Rattle.as2_http.specs.Responses.{http_answer}
use Rattle.as2_messages.specs.declared.framing.RequestFault.{RequestFault}
use Rattle.as2_messages.specs.declared.request.Request.{Request}
use Rattle.as2_http.specs.declared.response.Response.{Response}

-- ---- the line

abbrev pub name_if : Result (List ℕ) NameFault → List ℕ
name_if (Ok name) = name_spelling name
name_if (Err fault) = codes "-"

-- the one name that a field tells
abbrev pub name_told : List (List ℕ) → List ℕ
name_told [] = codes "-"
name_told (text ∷ []) = name_if (name_reading text)
name_told (first ∷ second ∷ others) = codes "-"

-- the one identifier that a field tells
abbrev pub identifier_told : List (List ℕ) → List ℕ
identifier_told [] = codes "-"
identifier_told (text ∷ []) = if is_identifier (without_blanks text) then without_blanks text else codes "-"
identifier_told (first ∷ second ∷ others) = codes "-"

-- how the line begins
abbrev pub note_opening : ℕ → List ℕ
note_opening moment = codes "reply: " ++ decimal moment ++ codes " "

-- what a head tells
abbrev pub head_told : Fields → List ℕ
head_told fields =
    name_told (values (codes "as2-from") fields)
    ++ codes " "
    ++ name_told (values (codes "as2-to") fields)
    ++ codes " "
    ++ identifier_told (values (codes "message-id") fields)

-- how the line ends
abbrev pub note_closing : ℕ → List ℕ
note_closing status = codes " " ++ decimal status ++ codes "\n"

-- the line of a request that got that
abbrev pub note : ℕ → Request → Response → List ℕ
note moment r x = note_opening moment ++ head_told r.fields ++ note_closing (http_answer x).status

-- the line of bytes that no request begins with
abbrev pub refusal_note : ℕ → RequestFault → List ℕ
refusal_note moment reason = note_opening moment ++ codes "- - -" ++ note_closing (refusal (refusal_line reason)).status

-- ---- what was written, and what was noted

-- what a sink has taken, and what a journal holds
pub record SinkAndJournal : Type 0 where
  pub written : Option (List ℕ)
  pub noted : Option (List ℕ)

abbrev pub sink_and_journal : Option (List ℕ) → Option (List ℕ) → SinkAndJournal
sink_and_journal written noted = record { written = written; noted = noted }

-- those bytes were written, and those lines noted
abbrev pub WritesAndNotes : SinkAndJournal → SinkAndJournal → List ℕ → List ℕ → Type 0
WritesAndNotes before after text lines = Appends before.written after.written text × Appends before.noted after.noted lines

use Rattle.std.proofs.Common.{◌++◌, rules, codes}
use Rattle.std.proofs.KnownBytes.{Appends-trans}
use Rattle.std.specs.Io.KnownBytes.{Appends}
use Rattle.as2_names.specs.Heads.{values}
use Rattle.as2_http.specs.Notes.{identifier_told, name_told}
use Rattle.as2_http.proofs.journal.note_head.Goals as goal

pub returns : goal.returns
returns g c =
    let from = name_told (values (codes "as2-from") c.args.fields.now) in
    let to = name_told (values (codes "as2-to") c.args.fields.now) in
    let identifier = identifier_told (values (codes "message-id") c.args.fields.now) in
    let before = g.J.Journal.noted c.args.journal.now in
    let one = g.J.Journal.noted c.note.new.self in
    let two = g.J.Journal.noted c.note-2.new.self in
    let three = g.J.Journal.noted c.note-3.new.self in
    let four = g.J.Journal.noted c.note-4.new.self in
    let five = g.J.Journal.noted c.note-5.new.self in
    let a : Appends before one from = search rules in
    let b : Appends one two (codes " ") = search rules in
    let d : Appends two three to = search rules in
    let e : Appends three four (codes " ") = search rules in
    let f : Appends four five identifier = search rules in
    Appends-trans before four five (from ++ codes " " ++ to ++ codes " ") identifier
    (Appends-trans before three four (from ++ codes " " ++ to) (codes " ")
    (Appends-trans before two three (from ++ codes " ") to (Appends-trans before one two from (codes " ") a b) d) e) f

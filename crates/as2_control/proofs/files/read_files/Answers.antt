use Rattle.std.proofs.Common.{◌∷◌, [], ◌++◌, map, sym, ◌∙◌, ap, subst}
use Rattle.std.proofs.lemmas.List.{map_push}
use Rattle.as2_control.specs.Outcomes.{file_value, part_value}
use Rattle.as2_control.proofs.Sequences.{shorter_behind_file}
use Rattle.as2_control.proofs.Texts.{FilesLeft, file_left, file_made, files_made}
use Rattle.as2_control.proofs.files.read_files.Goals as goal

pub made_file-requires : goal.made_file-requires
made_file-requires c = file_left c.args.text.now _ c.loop-part.rest.now (part_value c.in-Some.part)
    c.in-Some.part.behind.now c.loop-part.invariant c.in-Some.ensures.found

pub loop-part-smaller : goal.loop-part-smaller
loop-part-smaller c = shorter_behind_file c.loop-part.rest.now (part_value c.in-Some.part)
    c.in-Some.part.behind.now c.in-Some.ensures.found

pub loop-part-preserved : goal.loop-part-preserved
loop-part-preserved c = subst (λ made. FilesLeft c.args.text.now made c.in-Some.part.behind.now)
    (ap (λ file. map file_value c.loop-part.files.items ++ file ∷ []) (sym c.in_ok-made_file.ensures)
    ∙ (sym (map_push file_value c.loop-part.files.items c.in_ok-made_file.field-0) ∙ ap (map file_value) (sym c.in_ok-push.ensures.items)))
    (file_made c.args.text.now (map file_value c.loop-part.files.items) c.loop-part.rest.now
    (part_value c.in-Some.part) c.in-Some.part.behind.now c.loop-part.invariant c.in-Some.ensures.found)

pub returns : goal.returns
returns c = files_made c.args.text.now _ c.loop-part.rest.now c.loop-part.invariant c.in_default.ensures.none

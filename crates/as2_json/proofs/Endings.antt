-- The lines of objects, and with one behind them.
use Rattle.std.proofs.Common.{◌≡◌, ◌∙◌, ℕ, List, [], ◌∷◌, ◌++◌, map, sym, ap, append_assoc, append-nil}
use Rattle.std.proofs.lemmas.List.Folds.{flat_map-map}
use Rattle.std.specs.List.{flat_map}
use Rattle.serde_json.specs.Data.{Data}
use Rattle.as2_records.specs.declared.summaries.InRow.{InRow}
use Rattle.as2_records.specs.declared.summaries.OutRow.{OutRow}
use Rattle.as2_audit.specs.declared.findings.Finding.{Finding}
use Rattle.as2_json.specs.Lines.{object_line, object_lines}
use Rattle.as2_json.specs.Listings.{marked_object}
use Rattle.as2_json.specs.Objects.{finding_object, in_object}

pub in_lines : (rs : List InRow) → flat_map (λ r. object_line (in_object r)) rs ≡ object_lines (map in_object rs)
in_lines rs = sym (flat_map-map object_line in_object rs)

pub marked_lines : (settled : List ℕ) (rs : List OutRow)
    → flat_map (λ r. object_line (marked_object settled r)) rs ≡ object_lines (map (marked_object settled) rs)
marked_lines settled rs = sym (flat_map-map object_line (marked_object settled) rs)

pub ended : (fs : List Finding) (d : Data) → flat_map (λ f. object_line (finding_object f)) fs ++ object_line d ≡ object_lines (map finding_object fs ++ d ∷ [])
ended [] d = sym (append-nil (object_line d))
ended (f ∷ fs) d = append_assoc (object_line (finding_object f)) _ (object_line d) ∙ ap (λ l. object_line (finding_object f) ++ l) (ended fs d)

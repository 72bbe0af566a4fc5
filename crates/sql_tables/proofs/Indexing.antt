-- What CREATE INDEX leaves, once the text is understood.
use Rattle.std.proofs.Common.{◌≡◌, ℕ, List, [], Ok, Option, Some, None, slice_get, sym, ap, subst, ◌∙◌}
use Rattle.sqlite.specs.Table.{Table}
use Rattle.sqlite.specs.Schema.{Schema}
use Rattle.sqlite.specs.Command.TheVariants.{CreateIndex}
use Rattle.sqlite.specs.Compile.{index_defined_by}
use Rattle.sqlite.specs.Change.{indexed, KeepsRows}
use Rattle.sqlite.specs.Does.{Tally, AtPlace, Defines, MakesIndex}
use Rattle.sqlite.specs.Effect.{Database}
use Rattle.sqlite.specs.Listing.{understood}
use Rattle.sqlite.specs.State.{State, Writes, Executes, mode_of}
use Rattle.sqlite.proofs.Callers.{IsPlain, command_of, statement_of, runs_as}
use Rattle.sqlite_schema.specs.declared.schema.Index.{Index}
use Rattle.sql_tables.specs.Changes.{AddsIndex}
use Rattle.sql_tables.proofs.Writes.{went, same_value}

module _ (text : List ℕ) (old new : State) (schema : Schema) (has : old.now.schema ≡ schema) (at : ℕ) (table : Table)
    (place : slice_get schema.tables at ≡ Some table)
    (index : Index) (defined : index_defined_by table text ≡ Ok index) (plain : IsPlain (understood schema text)) where
  pub makes_index : command_of (understood schema text) ≡ CreateIndex at → statement_of text (understood schema text) ≡ text → (count : ℕ)
      → Executes text [] old new (Ok count)
      → AddsIndex old new schema (indexed schema table index)
  makes_index is whole count h =
      let w = subst (λ t. Writes old new None (CreateIndex at) t [] count) whole (runs_as text [] old new schema has (CreateIndex at) is plain count h) in
      let P = λ (o : Option Table). AtPlace (λ t. Defines (mode_of old) (MakesIndex text old.now t)) o (Ok (w.tally, new.now)) in
      let placed : P (Some table) = subst P (ap (λ (s : Schema). slice_get s.tables at) has ∙ place) w.changed in
      let all = went placed in
      let it = all.1 in
      let index_is : it.index ≡ index = same_value (sym it.defined ∙ defined) in
      let schema_is : all.0.schema ≡ indexed schema table index = it.is ∙ ap (λ s. indexed s table it.index) has ∙ ap (indexed schema table) index_is in
      let now : new.now ≡ all.0 = ap (λ (p : Tally × Database). p.1) (same_value all.2) in
      record {
        schema_is = ap (λ (d : Database). d.schema) now ∙ schema_is;
        others = subst (λ (d : Database). KeepsRows schema.tables old.now.trees d.trees) (sym now)
            (subst (λ (s : Schema). KeepsRows s.tables old.now.trees all.0.trees) has it.rows);
        shown = w.shown;
        marks = w.marks;
      }

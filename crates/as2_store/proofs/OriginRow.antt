-- The row of `origin`, as a query shows it.
use Rattle.std.proofs.Common.{◌≡◌, ◌∙◌, List, [], ◌∷◌, map, sym, ap, subst, IsPermutation}
use Rattle.sqlite.specs.Order.{Row}
use Rattle.sqlite.specs.State.{State as Connected, Shown}
use Rattle.sqlite.proofs.Callers.{reads_as, one_permutation}
use Rattle.sql_tables.specs.Changes.{shown_of, chosen_rows}
use Rattle.sql_tables.proofs.Inside.{shown_open}
use Rattle.sql_tables.proofs.Queries.{in_any_order}
use Rattle.as2_exchange.specs.State.{State, origin_of}
use Rattle.as2_store.specs.Due.{number_row}
use Rattle.as2_store.specs.Stands.{HoldsIfOpen}
use Rattle.as2_store.specs.Tables.{store_schema, origin_tree}
use Rattle.as2_store.proofs.Statements.{origin_read_text}
use Rattle.as2_store.proofs.Texts.{origin_column_terms, origin_command, origin_read_is, origin_read_plain, origin_read_unlisted}

pub reads_origin : (old new : Connected) (rows : List Row) → Shown origin_read_text [] old new rows → (s : State) → HoldsIfOpen old s
    → rows ≡ number_row (origin_of s.version) ∷ []
reads_origin old new rows h s r =
    let here = r (shown_open origin_read_text [] old new rows h) in
    let way = here.way in
    let it = here.stands in
    let read = reads_as origin_read_text [] old new (store_schema way) it.schema (origin_command way) (origin_read_is way) (origin_read_plain way)
    (origin_read_unlisted way) rows h in
    let all = in_any_order (origin_tree way) [] origin_column_terms old.now.trees [] rows read.answer in
    one_permutation (number_row it.version.number) rows
    (subst (λ l. IsPermutation (map (shown_of origin_column_terms []) (chosen_rows [] [] l)) rows) it.version.rows_are all)
    ∙ ap (λ v. number_row (origin_of v) ∷ []) (sym it.version.version_is)

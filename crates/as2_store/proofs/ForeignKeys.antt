-- No foreign key acts: each has NO ACTION.
use Rattle.std.proofs.Common.{◌≡◌, ℕ, List, [], refl}
use Rattle.sqlite.specs.Order.{Row}
use Rattle.sqlite_schema.specs.declared.schema.Keys.TheVariants.{Enforced}
use Rattle.sqlite_rules.specs.Action.{works}
use Rattle.sql_tables.proofs.Actions.{no_action}
use Rattle.as2_store.specs.Tables.{Way, Fresh, Migrated, store_schema}

pub quiet : (way : Way) (tree : ℕ) (olds news : List Row) → works (store_schema way) Enforced 0 tree olds news ≡ []
quiet Fresh tree olds news =
    no_action (store_schema Fresh) tree olds news
    (tt, (tt, (((refl, refl), tt), (tt, (((refl, refl), tt), (((refl, refl), tt), (tt, (tt, (((refl, refl), tt), tt)))))))))
quiet Migrated tree olds news =
    no_action (store_schema Migrated) tree olds news
    (tt, (tt, (((refl, refl), tt), (tt, (((refl, refl), tt), (((refl, refl), tt), (tt, (tt, (((refl, refl), tt), (tt, (((refl, refl), tt), tt)))))))))))

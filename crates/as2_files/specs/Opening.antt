-- The fault that an error in opening a store is.
use Rattle.sqlite.specs.declared.error.Error.{Error}
use Rattle.sqlite.specs.declared.error.Error.TheVariants.{SqliteFailure}
use Rattle.sqlite.specs.declared.error.ErrorCode.TheVariants as code
use Rattle.as2_exchange.specs.declared.fault.StoreFault.TheVariants.{NotAStore}
use Rattle.as2_host.specs.declared.stores.OpenFault.{OpenFault}
use Rattle.as2_host.specs.declared.stores.OpenFault.TheVariants.{Held, Store}
use Rattle.as2_store.specs.Stands.{fault_by}

-- a file that is no database is no store
abbrev pub opening_fault : Error → OpenFault
opening_fault (SqliteFailure code.NotADatabase) = Store NotAStore
opening_fault (SqliteFailure code.DatabaseBusy) = Held
opening_fault other = Store (fault_by other)

-- Why rows of a database are not read or written, given why the database refuses; and how a store and a report tell it.
use Rattle.sqlite.specs.declared.error.Error.{Error}
use Rattle.sqlite.specs.declared.error.Error.TheVariants.{SqliteFailure}
use Rattle.sqlite.specs.declared.error.ErrorCode.TheVariants as code
use Rattle.hh_keyed_rows.specs.declared.row_fault.RowFault.{RowFault}
use Rattle.hh_keyed_rows.specs.declared.row_fault.RowFault.TheVariants.{Memory, Store}
use Rattle.hh_store.specs.declared.output_fault.OutputFault.{OutputFault}
use Rattle.hh_store.specs.declared.output_fault.OutputFault.TheVariants as output
use Rattle.hh_store.specs.declared.store_fault.StoreFault.{StoreFault}
use Rattle.hh_store.specs.declared.store_fault.StoreFault.TheVariants as store

-- if the database lacks memory, memory is refused; all else is a refusal of the database
abbrev pub database_refused : Error → RowFault
database_refused (SqliteFailure code.OutOfMemory) = Memory
database_refused _ = Store

-- the fault of the store
abbrev pub rows_refused : RowFault → StoreFault
rows_refused Memory = store.Memory
rows_refused Store = store.Store

-- the fault of a report
abbrev pub output_refused : RowFault → OutputFault
output_refused Memory = output.Memory
output_refused Store = output.Store

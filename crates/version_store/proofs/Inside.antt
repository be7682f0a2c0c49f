-- An opened store.
use Rattle.block_log.specs.Log.{Log}
use Rattle.version_store.specs.Store.{StoreFields, StoreOf, fields_of}
use Rattle.version_store.specs.declared.store.Store.TheInside.{Inside}

-- what contracts see of it
abbrev pub seen : {T : Type 0} → Inside T → StoreOf T
seen s = record { rows = s.objects.rows; table = s.table; latest = s.latest }

-- the same, with the table as its log
abbrev pub opened : {T : Type 0} → (T → Log) → Inside T → StoreFields
opened log s = fields_of log (seen s)

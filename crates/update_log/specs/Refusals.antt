-- What refusals to put a record leave.
use Rattle.std.specs.Prelude.{⊤}
use Rattle.update_log.specs.declared.refusals.NotPut.{NotPut}
use Rattle.update_log.specs.declared.refusals.NotPut.TheVariants.{NoMemory, Full, NoRoom, MayTear, Failed}

-- the log goes on: memory was refused, or it is as long as one may be
abbrev pub IsShort : NotPut → Type 0
IsShort NoMemory = ⊤
IsShort Full = ⊤
IsShort (NoRoom e) = ⊥
IsShort MayTear = ⊥
IsShort (Failed e) = ⊥

-- zeros couldn't be written ahead
abbrev pub IsNoRoom : NotPut → Type 0
IsNoRoom NoMemory = ⊥
IsNoRoom Full = ⊥
IsNoRoom (NoRoom e) = ⊤
IsNoRoom MayTear = ⊥
IsNoRoom (Failed e) = ⊥

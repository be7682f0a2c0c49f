-- The limits that accepted changes and versions keep.
use Rattle.std.specs.Prelude.{◌+◌, ◌≤◌, length}
use Rattle.s4_types.specs.declared.limits.TheConstants.{OBJECT_BYTES, ATTRIBUTE_BYTES}
use Rattle.s4_types.specs.declared.changes.Change.{Change}
use Rattle.s4_types.specs.declared.changes.Change.TheVariants.{Create, Delete, Write, Truncate, SetAttr, SetWindow, Flush, FlushO}
use Rattle.s4_types.specs.declared.versions.Version.{Version}
use Rattle.s4_types.specs.declared.versions.Version.TheVariants.{Absent, Live}

-- an accepted change makes no object larger than the limit, and no attribute longer
abbrev pub Fits : Change → Type 0
Fits (Create object attribute) = length attribute ≤ ATTRIBUTE_BYTES
Fits (Delete object) = Unit {0}
Fits (Write object offset bytes) = offset + length bytes ≤ OBJECT_BYTES
Fits (Truncate object size) = size ≤ OBJECT_BYTES
Fits (SetAttr object attribute) = length attribute ≤ ATTRIBUTE_BYTES
Fits (SetWindow window) = Unit {0}
Fits (Flush first last) = Unit {0}
Fits (FlushO object first last) = Unit {0}

-- a version within the limits
abbrev pub IsWithinLimits : Version → Type 0
IsWithinLimits Absent = Unit {0}
IsWithinLimits (Live content attribute created changed) = (length content ≤ OBJECT_BYTES) × (length attribute ≤ ATTRIBUTE_BYTES)

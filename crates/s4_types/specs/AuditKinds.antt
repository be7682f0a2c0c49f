-- The number of each kind of change.
use Rattle.std.specs.Prelude.{ℕ}
use Rattle.s4_types.specs.declared.audit_rows.AuditKind.{AuditKind}
use Rattle.s4_types.specs.declared.audit_rows.AuditKind.TheVariants.{Create, Delete, Write, Truncate, SetAttr, SetWindow, Flush, FlushO}

-- the number of the request that asks for such a change, and of a Write for an Append
abbrev pub number_of_kind : AuditKind → ℕ
number_of_kind Create = 1
number_of_kind Delete = 2
number_of_kind Write = 4
number_of_kind Truncate = 6
number_of_kind SetAttr = 8
number_of_kind SetWindow = 9
number_of_kind Flush = 10
number_of_kind FlushO = 11

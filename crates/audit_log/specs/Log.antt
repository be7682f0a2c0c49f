-- What contracts see of the rows that are kept.
use Rattle.std.specs.Prelude.{ℕ, Bool, false, nat_lt, List, [], ◌∷◌}
use Rattle.s4_types.specs.declared.audit_rows.AuditRow.{AuditRow}

-- the rows, and for how many more there is room
pub record LogFields : Type 0 where
  pub rows : List AuditRow
  pub room : ℕ

-- whether there are rows, the first of them below a moment
abbrev pub begins_below : ℕ → List AuditRow → Bool
begins_below t [] = false
begins_below t (row ∷ rows) = nat_lt row.moment t

-- The audit of an image: which rows its parts encode, and when these keep the rules.
use Rattle.std.specs.Prelude.{◌≡◌, List, map}
use Rattle.s4_types.specs.AuditKinds.{number_of_kind}
use Rattle.s4_types.specs.declared.audit_rows.AuditRow.{AuditRow}
use Rattle.s4_model.specs.Audit.{AreAuditRows}
use Rattle.image_parts.specs.Image.{Image}
use Rattle.image_parts.specs.declared.audit.AuditPart.{AuditPart}

-- a row as it is encoded: its byte is the number of its kind
abbrev pub audit_part : AuditRow → AuditPart
audit_part row = record {
  moment = row.moment;
  kind = number_of_kind row.kind;
  object = row.object;
  first = row.first;
  second = row.second;
}

-- The audit of an image keeps the rules: its parts encode rows that changes of its drive can have, from its floor on and by its
-- clock, by ascending moments.
pub record AuditStands (image : Image) : Type 0 where
  pub rows : List AuditRow
  pub spelled : image.audit ≡ map audit_part rows
  pub kept : AreAuditRows image.floor image.clock image.next rows

-- The audit rows of an image: how each is encoded and read.
use Rattle.std.specs.Prelude.{ℕ, zero, suc, ◌^◌, ◌<◌, List, [], ◌∷◌, ◌++◌, drop, slice_index}
use Rattle.std.specs.Int.{w64}
use Rattle.codec.specs.Fields.{number}
use Rattle.image_parts.specs.Header.{number_in}
use Rattle.image_parts.specs.declared.audit.AuditPart.{AuditPart}

-- the 33 bytes of an audit row
unfoldable pub audit_bytes : AuditPart → List ℕ
audit_bytes a =
    number w64 a.moment ++ (a.kind ∷ (number w64 a.object ++ (number w64 a.first ++ number w64 a.second)))

-- an audit row has an encoding: its numbers are in their ranges
pub record IsAuditPart (a : AuditPart) : Type 0 where
  pub moment : a.moment < 2 ^ 64
  pub kind : a.kind < 256
  pub object : a.object < 2 ^ 64
  pub first : a.first < 2 ^ 64
  pub second : a.second < 2 ^ 64

-- the audit row that bytes begin with
unfoldable pub audit_in : List ℕ → AuditPart
audit_in bytes = record {
  moment = number_in w64 bytes;
  kind = slice_index bytes 8;
  object = number_in w64 (drop 9 bytes);
  first = number_in w64 (drop 17 bytes);
  second = number_in w64 (drop 25 bytes);
}

-- the first n audit rows
abbrev pub audits_in : ℕ → List ℕ → List AuditPart
audits_in zero bytes = []
audits_in (suc n) bytes = audit_in bytes ∷ audits_in n (drop 33 bytes)

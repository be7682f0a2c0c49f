use Rattle.std.proofs.Common.{ℕ, [], ◌∷◌, subst}
use Rattle.rpc.specs.private.Room.{Appended}
use Rattle.rpc.proofs.RoomLaws.{Appended-then}
use Rattle.rpc.proofs.audit_rows.put_row.Goals as goal

pub returns-clause-bytes : goal.returns-clause-bytes
returns-clause-bytes c =
    let kind = subst (λ (code : ℕ). Appended c.put_moment.new.out c.put.new.out (code ∷ [])) c.number.ensures c.put.ensures in
    Appended-then _ _ _ _ _ c.put_moment.ensures.bytes (Appended-then _ _ _ _ _ kind (Appended-then _ _ _ _ _ c.put_object.ensures.bytes (Appended-then _ _ _ _ _ c.put_long.ensures.bytes c.put_long-2.ensures.bytes)))

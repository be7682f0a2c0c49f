use Rattle.rpc.proofs.RoomLaws.{Appended-then}
use Rattle.rpc.proofs.request_bodies.put_audit.Goals as goal

pub returns-clause-bytes : goal.returns-clause-bytes
returns-clause-bytes c = Appended-then _ _ _ _ _ c.put.ensures (Appended-then _ _ _ _ _ c.put_moment.ensures.bytes c.put_short.ensures.bytes)

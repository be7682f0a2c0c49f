use Rattle.rpc.proofs.RoomLaws.{Appended-then}
use Rattle.rpc.proofs.request_bodies.put_read.Goals as goal

pub returns-clause-bytes : goal.returns-clause-bytes
returns-clause-bytes c = Appended-then _ _ _ _ _ c.put.ensures (Appended-then _ _ _ _ _ c.put_object.ensures.bytes (Appended-then _ _ _ _ _ c.put_long.ensures.bytes (Appended-then _ _ _ _ _ c.put_word.ensures.bytes c.put_at.ensures.bytes)))

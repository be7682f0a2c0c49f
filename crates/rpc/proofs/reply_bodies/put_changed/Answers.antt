use Rattle.rpc.proofs.RoomLaws.{Appended-then}
use Rattle.rpc.proofs.reply_bodies.put_changed.Goals as goal

pub returns-clause-bytes : goal.returns-clause-bytes
returns-clause-bytes c = Appended-then _ _ _ _ _ c.put.ensures c.put_moment.ensures.bytes

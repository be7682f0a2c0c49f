use Rattle.rpc.proofs.RoomLaws.{Appended-then}
use Rattle.rpc.proofs.reply_bodies.put_attr.Goals as goal

pub returns-clause-bytes : goal.returns-clause-bytes
returns-clause-bytes c = Appended-then _ _ _ _ _ c.put.ensures (Appended-then _ _ _ _ _ c.put_word.ensures.bytes (Appended-then _ _ _ _ _ c.put_moment.ensures.bytes (Appended-then _ _ _ _ _ c.put_moment-2.ensures.bytes c.put_text.ensures)))

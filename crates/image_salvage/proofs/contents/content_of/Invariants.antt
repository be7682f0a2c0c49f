-- The bytes so far are the first ones.
use Rattle.std.proofs.Common.{◌≡◌}
use Rattle.segment_table.specs.Used.{used_at}
use Rattle.inode.specs.Contents.{byte_of, listed}
use Rattle.image_salvage.specs.Contents.{data_of}
use Rattle.image_salvage.proofs.contents.content_of.Given as goal

abbrev pub invariant-loop-n : goal.invariant-loop-n
invariant-loop-n l = l.bytes.items ≡ listed (byte_of (data_of (used_at l.table) l.object) l.inode) 0 l.n

-- Whether an inode has what a triple tells of the time before it.
use Rattle.std.specs.Prelude.{Bool}
use Rattle.codec.specs.declared.inodes.Inode.{Inode}
use Rattle.codec.specs.declared.entries.Triple.{Triple}
use Rattle.codec.specs.Checkpoint.{pointer_at}
use Rattle.codec.specs.Entry.{same_slot}

-- the inode has the earlier pointer of the triple at its index
abbrev pub is_earlier : Inode → Triple → Bool
is_earlier i t = same_slot (pointer_at i t.index) t.before

use Rattle.std.proofs.Common.{◌≡◌, ◌-◌, Some}
use Rattle.s4_types.specs.declared.replies.Reply.TheVariants.{Data}
use Rattle.s4_model.specs.Step.{data_of}
use Rattle.s4_model.specs.VersionAt.{version_of}
use Rattle.drive.specs.Fields.{state_in, store_of}
use Rattle.history_view.proofs.versions.read_whole.Given as goal

-- what is there of it are its bytes up to the offset, and the drive stays
abbrev pub invariant-loop-offset : goal.invariant-loop-offset
invariant-loop-offset g l = record {
  read : data_of (version_of (state_in l.fn.drive) l.object l.at) 0 l.offset ≡ Some (Data l.bytes.items);
  state : state_in l.drive ≡ state_in l.fn.drive;
  store : store_of l.drive ≡ store_of l.fn.drive;
}

abbrev pub decreases-loop-offset : goal.decreases-loop-offset
decreases-loop-offset g l = l.inode.size - l.offset

use Rattle.std.proofs.Common.{◌≡◌, ℕ, cond, ◌&&◌, nat_le, nat_lt, None, length}
use Rattle.s4_types.specs.declared.limits.TheConstants.{OBJECT_BLOCKS}
use Rattle.codec.specs.Checkpoint.{pointer_at}
use Rattle.inode.proofs.truncations.without_pointers_past.Given as goal

abbrev pub invariant-loop-index : goal.invariant-loop-index
invariant-loop-index l = record {
  count : length l.next.pointers ≡ OBJECT_BLOCKS;
  rest : l.next ≡ record l.inode { pointers = l.next.pointers };
  pointers : (k : ℕ) → pointer_at l.next k ≡ cond (nat_le l.first k && nat_lt k l.index) None (pointer_at l.inode k);
}

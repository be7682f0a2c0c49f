use Rattle.std.proofs.Common.{◌≡◌, ℕ, ◌<◌, None, get_or}
use Rattle.image_objects.proofs.inodes.are_same_slots.Given as goal

abbrev pub invariant-loop-index : goal.invariant-loop-index
invariant-loop-index l = (k : ℕ) → k < l.index → get_or l.one k None ≡ get_or l.other k None

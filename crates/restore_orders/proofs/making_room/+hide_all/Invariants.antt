use Rattle.std.proofs.Common.{length}
use Rattle.restore_orders.proofs.making_room.+hide_all.Given as goal

abbrev pub decreases-hide_all : goal.decreases-hide_all
decreases-hide_all g l = length l.full.now
